-- How a search for a separator and a count go on, one byte at a time, and what stands after the k-th.
use Rattle.std.proofs.Common.{ℕ, zero, suc, ◌+◌, ◌-◌, ◌<◌, ◌≤◌, cond, count_by, add-one, arith, ◌≡◌, refl, sym, ◌∙◌, Bool, true, false, List, [], ◌∷◌, eq-eqb, ne_eqb, ltb-true, ltb-false, eqb, ltb, length, get_or, take, drop, length-drop, drop_of_length-le, drop-cons, take_all}
use Rattle.std.proofs.lemmas.List.Recursion.{is_count_by}
use Rattle.pcode.specs.Var.{pick}
use Rattle.fields.specs.Parts.{place_of, tail_of, rest_of, count_of, start_of}

pub placed : (b : ℕ) (s : List ℕ) → place_of b s ≤ length s
unfolding place_of
placed b [] = omega arith
placed b (x ∷ s) = here (eqb x b) (placed b s)
  where
    here : (t : Bool) → place_of b s ≤ length s → pick t zero (suc (place_of b s)) ≤ suc (length s)
    here true h = omega arith
    here false h = omega arith

module _ (b : ℕ) (s : List ℕ) (i : ℕ) where
  pub place_end : length s ≤ i → place_of b (drop i s) ≡ 0
  unfolding place_of
  place_end h = rw (drop_of_length-le s h)

  module _ (h : i < length s) where
    pub place_here : get_or s i 0 ≡ b → place_of b (drop i s) ≡ 0
    unfolding place_of
    place_here e = rw (drop-cons s i 0 h, eq-eqb _ _ e)

    pub place_more : (get_or s i 0 ≡ b → ⊥) → place_of b (drop i s) ≡ suc (place_of b (drop (i + 1) s))
    unfolding place_of
    place_more e = rw (drop-cons s i 0 h, ne_eqb _ _ e, add-one)

-- the count by std's word
pub count_is : (b : ℕ) (s : List ℕ) → count_of b s ≡ count_by (λ x. eqb x b) s
unfolding count_of
count_is b s = is_count_by (count_of b) (λ x. eqb x b) refl (λ x xs. here (eqb x b) (count_of b xs)) s
  where
    here : (t : Bool) (n : ℕ) → pick t (suc n) n ≡ cond t (1 + n) n
    here true n = omega arith
    here false n = refl

pub rest_zero : (b : ℕ) (s : List ℕ) → rest_of b s 0 ≡ s
unfolding rest_of
rest_zero b s = refl

pub rest_more : (b : ℕ) (s : List ℕ) (k : ℕ) → rest_of b s (k + 1) ≡ tail_of b (rest_of b s k)
unfolding rest_of
rest_more b s k = rw add-one

-- what `&s[a..]` holds
pub upward : (s : List ℕ) (a : ℕ) → take (length s - a) (drop a s) ≡ drop a s
upward s a = take_all (length s - a) (drop a s) (omega (arith, length-drop a s))

module _ (b : ℕ) (s : List ℕ) where
  abbrev starting : Bool → ℕ
  starting t = pick t (place_of b s + 1) (length s)

  within : (t : Bool) → ltb (place_of b s) (length s) ≡ t → starting t ≤ length s
  within true e = omega (arith, ltb-true (place_of b s) (length s) e)
  within false e = omega arith

  -- a start lies within the list
  pub started : start_of b s ≤ length s
  started = within (ltb (place_of b s) (length s)) refl

  after : (t : Bool) → ltb (place_of b s) (length s) ≡ t → drop (starting t) s ≡ tail_of b s
  after true e = rw add-one
  after false e =
      let h : length s ≤ place_of b s = ltb-false _ _ e in
      drop_of_length-le s {i = length s} (omega arith) ∙ sym (drop_of_length-le s {i = suc (place_of b s)} (omega arith))

  -- what follows the start is what stands after the first b
  pub from_start : drop (start_of b s) s ≡ tail_of b s
  from_start = after (ltb (place_of b s) (length s)) refl

  -- a start lies past the first byte
  starting_past : (t : Bool) → 0 < length s → 0 < starting t
  starting_past true h = omega arith
  starting_past false h = h

  pub start_past : 0 < length s → 0 < start_of b s
  start_past h = starting_past (ltb (place_of b s) (length s)) h
