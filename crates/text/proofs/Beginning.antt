-- A file's beginning decides what is read: 16 marks, the statements and one line more, at most 200 bytes and an LF each. Assumes nothing.
use Rattle.std.proofs.Common.{ℕ, zero, suc, ◌+◌, ◌*◌, ◌-◌, ◌<◌, ◌≤◌, arith, ◌≡◌, refl, sym, ap, ◌∙◌, Bool, true, false, List, [], ◌∷◌, lt-ltb, ltb-true, ltb-false, leb-true, leb-false, eqb, leb, ltb, length, take, drop, length-take, take-take, length-take-le, Result, None, Ok, Err}
use lib.Seq.{take-nil}
use Rattle.pcode.specs.Var.{pick}
use Rattle.pcode.specs.declared.refusal.Refusal.TheVariants.{BadLine}
use Rattle.fields.specs.Parts.{place_of, head_of, tail_of}
use Rattle.fields.proofs.Parts.{placed}
use Rattle.record.specs.Records.{record_of}
use Rattle.pcode.specs.declared.refusal.Refusal.{Refusal}
use Rattle.text.specs.Reading.{newline, lines_of, empty_read, accepted, read_lines, room_of, line_room, read_room, read_of}
use Rattle.text.specs.declared.answer.Read.{Read}
use Rattle.text.proofs.Lines.{read_more, read_stop}
use Rattle.text.proofs.Counts.{Counted, roomed, counted_none, counted_more}

drop_take : (k n : ℕ) (s : List ℕ) → drop k (take (k + n) s) ≡ take n (drop k s)
drop_take zero n s = let e : zero + n ≡ n = omega arith in ap (λ (m : ℕ). take m s) e
drop_take (suc k) n [] = rw (take-nil {A = ℕ} (suc k + n), take-nil {A = ℕ} n)
drop_take (suc k) n (x ∷ s) = let e : suc k + n ≡ suc (k + n) = omega arith in rw e (drop_take k n s)

module _ (b : ℕ) where
  -- the first b stands where it stood, if the cut lies past it
  place_kept : (n : ℕ) (s : List ℕ) → place_of b s ≤ n → place_of b (take n s) ≡ place_of b s
  unfolding place_of
  place_kept n [] h = rw (take-nil {A = ℕ} n)
  place_kept zero (x ∷ s) h = omega arith
  place_kept (suc n) (x ∷ s) h = go (eqb x b) h (place_kept n s)
    where
      go : (t : Bool) → pick t zero (suc (place_of b s)) ≤ suc n → (place_of b s ≤ n → place_of b (take n s) ≡ place_of b s) →
          pick t zero (suc (place_of b (take n s))) ≡ pick t zero (suc (place_of b s))
      go true h more = refl
      go false h more = ap suc (more (omega arith))

  -- else a beginning has none
  place_lost : (n : ℕ) (s : List ℕ) → n ≤ place_of b s → place_of b (take n s) ≡ n
  unfolding place_of
  place_lost n [] h = rw (take-nil {A = ℕ} n) (omega arith)
  place_lost zero (x ∷ s) h = refl
  place_lost (suc n) (x ∷ s) h = go (eqb x b) h (place_lost n s)
    where
      go : (t : Bool) → suc n ≤ pick t zero (suc (place_of b s)) → (n ≤ place_of b s → place_of b (take n s) ≡ n) →
          pick t zero (suc (place_of b (take n s))) ≡ suc n
      go true h more = absurd (omega arith)
      go false h more = ap suc (more (omega arith))

-- a line of more than 200 bytes breaks the text form
long_bad : (l : List ℕ) → 200 < length l → record_of l ≡ None
unfolding record_of
long_bad l h = rw (lt-ltb 200 (length l) h)

-- the first line's record lies in its first 201 bytes
module _ (n : ℕ) (s : List ℕ) (long : 200 < n) where
  head_kept : place_of newline s ≤ n → head_of newline (take n s) ≡ head_of newline s
  head_kept h = rw (place_kept newline n s h) (take-take (place_of newline s) n s h)

  head_lost : n < place_of newline s → record_of (head_of newline (take n s)) ≡ record_of (head_of newline s)
  head_lost h =
      let w = placed newline s in
      let a : length (take n s) ≡ n = length-take-le n s (omega arith) in
      let p : place_of newline (take n s) ≡ n = place_lost newline n s (omega arith) in
      long_bad (head_of newline (take n s)) (omega (arith, length-take-le (place_of newline (take n s)) (take n s) (omega arith)))
      ∙ sym (long_bad (head_of newline s) (omega (arith, length-take-le (place_of newline s) s w)))

  record_kept : record_of (head_of newline (take n s)) ≡ record_of (head_of newline s)
  record_kept = go (leb (place_of newline s) n) refl
    where
      go : (t : Bool) → leb (place_of newline s) n ≡ t → record_of (head_of newline (take n s)) ≡ record_of (head_of newline s)
      go true e = ap record_of (head_kept (leb-true (place_of newline s) n e))
      go false e = head_lost (leb-false (place_of newline s) n e)

-- an accepted line has at most 200 bytes
short : (limit line : ℕ) (r x : Read) (l : List ℕ) → accepted limit line r (record_of l) ≡ Ok x → length l ≤ 200
short limit line r x l e = go (ltb 200 (length l)) refl
  where
    bad : 200 < length l → Err (BadLine line) ≡ Ok x
    bad h = ap (accepted limit line r) (sym (long_bad l h)) ∙ e

    clash : Err (BadLine line) ≡ Ok x → ⊥
    clash z = cc

    go : (t : Bool) → ltb 200 (length l) ≡ t → length l ≤ 200
    go true f = absurd (clash (bad (ltb-true 200 (length l) f)))
    go false f = ltb-false 200 (length l) f

-- what stands after a first line that the cut lies past
tail_kept : (m : ℕ) (s : List ℕ) → tail_of newline (take (suc (place_of newline s) + m) s) ≡ take m (tail_of newline s)
tail_kept m s =
    ap (λ (p : ℕ). drop (suc p) (take (suc (place_of newline s) + m) s)) (place_kept newline (suc (place_of newline s) + m) s (omega arith))
    ∙ drop_take (suc (place_of newline s)) m s

-- one line more: the same record, and the rest by `more`
module _ (limit line n : ℕ) (r : Read) (s : List ℕ) (long : 200 < n) (some : 0 < length s) where
  abbrev next : Result Read Refusal
  next = accepted limit line r (record_of (head_of newline s))

  abbrev Same : Read → ℕ → Type 0
  Same x m = read_lines limit (line + 1) x (lines_of (take m (tail_of newline s))) ≡ read_lines limit (line + 1) x (lines_of (tail_of newline s))

  cut_some : 0 < length (take n s)
  cut_some = omega (arith, length-take n s)

  cut_next : accepted limit line r (record_of (head_of newline (take n s))) ≡ next
  cut_next = ap (accepted limit line r) (record_kept n s long)

  width : (x : Read) → next ≡ Ok x → place_of newline s ≤ 200
  width x a = omega (arith, short limit line r x (head_of newline s) a, length-take-le (place_of newline s) s (placed newline s))

  tails : (x : Read) → next ≡ Ok x → tail_of newline (take n s) ≡ take (n - suc (place_of newline s)) (tail_of newline s)
  tails x a =
      let m = n - suc (place_of newline s) in
      let e : n ≡ suc (place_of newline s) + m = omega (arith, width x a) in
      ap (λ (k : ℕ). tail_of newline (take k s)) e ∙ tail_kept m s

  line_more : (a : Result Read Refusal) → next ≡ a → ((x : Read) → place_of newline s ≤ 200 → next ≡ Ok x → Same x (n - suc (place_of newline s))) →
      read_lines limit line r (lines_of (take n s)) ≡ read_lines limit line r (lines_of s)
  line_more (Ok x) a more =
      read_more limit line r (take n s) cut_some x (cut_next ∙ a)
      ∙ ap (λ (l : List ℕ). read_lines limit (line + 1) x (lines_of l)) (tails x a)
      ∙ more x (width x a) a
      ∙ sym (read_more limit line r s some x a)
  line_more (Err why) a more = read_stop limit line r (take n s) cut_some why (cut_next ∙ a) ∙ sym (read_stop limit line r s some why a)

-- k lines may still come, and fit
going : (k limit line n : ℕ) (r : Read) (s : List ℕ) → limit ≤ 129 → Counted limit line r → line + k ≡ 18 + limit → k * line_room ≤ n
    → read_lines limit line r (lines_of (take n s)) ≡ read_lines limit line r (lines_of s)
going zero limit line n r s small c e h = absurd (omega (arith, c.lines, c.marks, c.stmts))
going (suc k) limit line n r [] small c e h = rw (take-nil {A = ℕ} n)
going (suc k) limit line n r (b ∷ s) small c e h =
    let d = record_of (head_of newline (b ∷ s)) in
    line_more limit line n r (b ∷ s) (omega arith) (omega arith) (accepted limit line r d) refl λ x w a.
    going k limit (line + 1) (n - suc (place_of newline (b ∷ s))) x (tail_of newline (b ∷ s)) small
    (counted_more limit line r small c x d a) (omega arith) (omega arith)

-- the answer of the reader for any bytes is its answer for their beginning
pub beginning : (limit : ℕ) (bytes : List ℕ) (n : ℕ) → read_room limit ≤ n → read_of limit (take n bytes) ≡ read_of limit bytes
unfolding read_of
beginning limit bytes n h =
    going (17 + room_of limit) (room_of limit) 1 n empty_read bytes (roomed limit) (counted_none (room_of limit)) (omega arith) (omega arith)
