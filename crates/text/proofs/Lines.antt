-- A file's first line, and how reading goes on from it.
use Rattle.std.proofs.Common.{min, arith, ◌-◌, ◌∙◌, length-take-le}
use Rattle.std.proofs.lemmas.List.{drop_min}
use Prim.Native.Nat.{ℕ, zero, suc, ◌+◌, ◌<◌, ◌≤◌}
use native.Mathlib.Nat.{not-suc-le-zero}
use mathlib.Core.Path.{◌≡◌, refl, ap}
use mathlib.Core.Bool.{Bool, true, false}
use mathlib.Core.List.{List, [], ◌∷◌}
use lib.Dec.{eqb}
use lib.ListN.{length, take, drop}
use Rattle.pcode.specs.Var.{pick}
use Rattle.pcode.specs.declared.refusal.Refusal.{Refusal}
use Rattle.fields.specs.Parts.{place_of, head_of, tail_of}
use Rattle.fields.proofs.Parts.{upward, placed}
use Rattle.record.specs.Records.{record_of}
use Rattle.text.specs.Reading.{newline, in_front, lines_of, accepted, read_lines}
use Rattle.std.specs.Prelude.{Ok, Err}
use Rattle.text.specs.declared.answer.Read.{Read}

abbrev first_at : ℕ → List ℕ → ℕ → List (List ℕ)
first_at b s p = take p (b ∷ s) ∷ lines_of (drop (suc p) (b ∷ s))

first_of : (b : ℕ) (s : List ℕ) → lines_of (b ∷ s) ≡ head_of newline (b ∷ s) ∷ lines_of (tail_of newline (b ∷ s))
unfolding lines_of place_of
first_of b [] = go (eqb b newline)
  where
    go : (t : Bool) → pick t ([] ∷ []) ((b ∷ []) ∷ []) ≡ first_at b [] (pick t zero (suc zero))
    go true = refl
    go false = refl
first_of b (x ∷ s) = go (eqb b newline) (first_of x s)
  where
    go : (t : Bool) → lines_of (x ∷ s) ≡ head_of newline (x ∷ s) ∷ lines_of (tail_of newline (x ∷ s)) →
        pick t ([] ∷ lines_of (x ∷ s)) (in_front b (lines_of (x ∷ s))) ≡ first_at b (x ∷ s) (pick t zero (suc (place_of newline (x ∷ s))))
    go true e = refl
    go false e = ap (in_front b) e

pub no_lines : (s : List ℕ) → length s ≤ 0 → lines_of s ≡ []
unfolding lines_of
no_lines [] h = refl
no_lines (b ∷ s) h = absurd (not-suc-le-zero h)

pub first_line : (s : List ℕ) → 0 < length s → lines_of s ≡ head_of newline s ∷ lines_of (tail_of newline s)
first_line [] h = absurd (not-suc-le-zero h)
first_line (b ∷ s) h = first_of b s

-- what a line and its LF leave
pub past_line : (s t : List ℕ) (n : ℕ) → t ≡ head_of newline s → n ≡ min (length t + 1) (length s) → take (length s - n) (drop n s) ≡ tail_of newline s
past_line s t n e h =
    let l : length t ≡ place_of newline s = ap length e ∙ length-take-le (place_of newline s) s (placed newline s) in
    let m : length t + 1 ≡ suc (place_of newline s) = omega (arith, l) in
    upward s n ∙ ap (λ (k : ℕ). drop k s) h ∙ drop_min (length t + 1) s ∙ ap (λ (k : ℕ). drop k s) m

-- reading goes on line by line
module _ (limit line : ℕ) (r : Read) (ls : List (List ℕ)) where
  pub lines_end : ls ≡ [] → read_lines limit line r ls ≡ Ok r
  unfolding read_lines
  lines_end e = rw e

  module _ (l : List ℕ) (ks : List (List ℕ)) (e : ls ≡ l ∷ ks) where
    pub lines_more : (x : Read) → accepted limit line r (record_of l) ≡ Ok x → read_lines limit line r ls ≡ read_lines limit (line + 1) x ks
    unfolding read_lines
    lines_more x f = rw (e, f)

    pub lines_stop : (why : Refusal) → accepted limit line r (record_of l) ≡ Err why → read_lines limit line r ls ≡ Err why
    unfolding read_lines
    lines_stop why f = rw (e, f)

-- the same by a file's first line
module _ (limit line : ℕ) (r : Read) (s : List ℕ) (h : 0 < length s) where
  pub read_more : (x : Read) → accepted limit line r (record_of (head_of newline s)) ≡ Ok x →
      read_lines limit line r (lines_of s) ≡ read_lines limit (line + 1) x (lines_of (tail_of newline s))
  read_more x e = lines_more limit line r (lines_of s) _ _ (first_line s h) x e

  pub read_stop : (why : Refusal) → accepted limit line r (record_of (head_of newline s)) ≡ Err why → read_lines limit line r (lines_of s) ≡ Err why
  read_stop why e = lines_stop limit line r (lines_of s) _ _ (first_line s h) why e
