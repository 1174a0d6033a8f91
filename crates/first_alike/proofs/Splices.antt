-- Parts of a list in which a part was replaced.
use Rattle.std.proofs.Common.{ℕ, zero, suc, ◌+◌, ◌-◌, ◌≤◌, arith, ◌≡◌, refl, sym, ap, ◌∙◌, List, [], ◌∷◌, ◌++◌, length, take, drop, length-drop, length-take-le, take-take, drop-drop}
use lib.Seq.{take-append-le, drop-append-le, drop-append-add}
use Rattle.const_eval.specs.Known.{splice}

-- a part below n is a part of the first n
pub cut : (a m n : ℕ) (xs : List ℕ) → a + m ≤ n → take m (drop a (take n xs)) ≡ take m (drop a xs)
cut zero m n xs h = take-take m n xs (omega (arith, h))
cut (suc a) m zero xs h = absurd (omega (arith, h))
cut (suc a) m (suc n) [] h = refl
cut (suc a) m (suc n) (x ∷ xs) h = cut a m n xs (omega (arith, h))

module _ (at : ℕ) (new xs : List ℕ) (room : at + length new ≤ length xs) where
  front : length (take at xs) ≡ at
  front = length-take-le at xs (omega arith)

  abbrev back : List ℕ
  back = drop (at + length new) xs

  -- a part below the new elements
  pub splice_before : (a m : ℕ) → a + m ≤ at → take m (drop a (splice at new xs)) ≡ take m (drop a xs)
  splice_before a m h =
      let f = front in
      let l : length (drop a (take at xs)) ≡ at - a = length-drop a (take at xs) ∙ ap (λ (n : ℕ). n - a) front in
      ap (take m) (drop-append-le a (take at xs) (new ++ back) (omega (arith, f)))
      ∙ take-append-le m (drop a (take at xs)) (new ++ back) (omega (arith, l))
      ∙ cut a m at xs h

  -- past the front
  past : (j : ℕ) → drop (at + j) (splice at new xs) ≡ drop j (new ++ back)
  past j = ap (λ (n : ℕ). drop (n + j) (splice at new xs)) (sym front) ∙ drop-append-add (take at xs) (new ++ back) j

  -- a part above them
  pub splice_after : (a : ℕ) → at + length new ≤ a → drop a (splice at new xs) ≡ drop a xs
  splice_after a h =
      let j : ℕ = a - (at + length new) in
      let p : a ≡ at + (length new + j) = omega arith in
      let q : at + length new + j ≡ a = omega arith in
      ap (λ (n : ℕ). drop n (splice at new xs)) p ∙ past (length new + j) ∙ drop-append-add new back j
      ∙ drop-drop j (at + length new) xs ∙ ap (λ (n : ℕ). drop n xs) q

  -- a part of them
  pub splice_in : (a m : ℕ) → at ≤ a → a + m ≤ at + length new → take m (drop a (splice at new xs)) ≡ take m (drop (a - at) new)
  splice_in a m h g =
      let j : ℕ = a - at in
      let p : a ≡ at + j = omega arith in
      let l : length (drop j new) ≡ length new - j = length-drop j new in
      ap (λ (n : ℕ). take m (drop n (splice at new xs))) p ∙ ap (take m) (past j ∙ drop-append-le j new back (omega arith))
      ∙ take-append-le m (drop j new) back (omega (arith, l))
