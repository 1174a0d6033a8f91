-- From what was read of a stream to its answer, and from the page to what is written. Assumes nothing.
use Rattle.std.proofs.Common.{◌≡◌, ℕ, ◌+◌, ◌<◌, ◌≤◌, List, [], ◌++◌, None, Some, IfSome, OnOk, Result, Ok, Err, sym, ap, ◌∙◌, subst, arith, length, take, drop, length-take-le, append-nil}
use Rattle.std.proofs.Math.Logic.{◌⊎◌, inl, inr}
use Rattle.std.proofs.lemmas.Bool.{cases_lt}
use Rattle.std.proofs.lemmas.List.{length-append}
use lib.Seq.{take-append_seam}
use Rattle.std.specs.declared.option.Option.{Option}
use Rattle.std.specs.Io.KnownBytes.{Appends, Consumes, IsAtEnd}
use Rattle.print.specs.Texts.{written}
use Rattle.front.specs.Front.{input_room, answer_of}
use Rattle.front.specs.declared.Pass.TheVariants.{Both}
use Rattle.front.proofs.Bounds.{beginning_decides}

-- a text that was written at the start of a page
text_stands : (old new text : List ℕ) → length new ≡ length old → new ≡ written old 0 text → (length text ≤ length new) × (take (length text) new ≡ text)
unfolding written
text_stands old new text long is =
    let from : 0 + length text ≡ length text = omega arith in
    let whole : new ≡ text ++ drop (length text) old = is ∙ ap (λ m. text ++ drop m old) from in
    let sum : length new ≡ length text + length (drop (length text) old) = ap length whole ∙ length-append text (drop (length text) old) in
    (omega (arith, sum), ap (take (length text)) whole ∙ take-append_seam text (drop (length text) old))

-- bytes that were read until the room was full, or to their end, are answered as all are
read_decides : (room xs ys : List ℕ) (n : ℕ) → n ≤ length room → input_room Both ≤ length room → xs ≡ take n room ++ ys → (n < length room → ys ≡ [])
    → answer_of Both (take n room) ≡ answer_of Both xs
read_decides room xs ys n fits big is end = go (cases_lt n (length room))
  where
    go : (n < length room) ⊎ (length room ≤ n) → answer_of Both (take n room) ≡ answer_of Both xs
    go (inl less) = ap (answer_of Both) (sym (is ∙ ap (λ l. take n room ++ l) (end less) ∙ append-nil (take n room)))
    go (inr full) =
        let long : length (take n room) ≡ n = length-take-le n room fits in
        let front : take n xs ≡ take n room = subst (λ k. take k xs ≡ take n room) long (ap (take (length (take n room))) is ∙ take-append_seam (take n room) ys) in
        ap (answer_of Both) (sym front) ∙ beginning_decides Both xs n (omega arith)

-- what was read is answered, and the answer's text written
pub answered : {E : Type 0} {U : Type 0} (a b w v : Option (List ℕ)) (r : Result U E) (room old new : List ℕ) (n k : ℕ) → n ≤ length room → input_room Both ≤ length room
    → Consumes a b (take n room) → (n < length room → IsAtEnd b)
    → length new ≡ length old → (k ≡ length (answer_of Both (take n room)).text) × (new ≡ written old 0 (answer_of Both (take n room)).text)
    → OnOk r (k ≤ length new → Appends w v (take k new))
    → OnOk r (IfSome a (λ bytes. Appends w v (answer_of Both bytes).text))
answered a b w v (Err e) room old new n k fits big read end long is shown = tt
answered None b w v (Ok u) room old new n k fits big read end long is shown = tt
answered (Some xs) None w v (Ok u) room old new n k fits big read end long is shown = absurd read
answered (Some xs) (Some ys) w v (Ok u) room old new n k fits big read end long is shown =
    let stands = text_stands old new (answer_of Both (take n room)).text long is.1 in
    let text : take k new ≡ (answer_of Both xs).text = ap (λ m. take m new) is.0 ∙ stands.1 ∙ ap (λ t. t.text) (read_decides room xs ys n fits big read end) in
    subst (Appends w v) text (shown (omega (arith, stands.0, is.0)))
