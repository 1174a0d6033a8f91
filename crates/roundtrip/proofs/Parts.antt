-- A list of bytes taken apart at a separator, and put together again.
use Rattle.std.proofs.Common.{ℕ, zero, suc, ◌+◌, arith, ◌≡◌, refl, sym, ap, ◌∙◌, Bool, true, false, List, [], ◌∷◌, ◌++◌, eq-eqb, ne_eqb, eqb-true, eqb, length, take, drop}
use lib.Seq.{take-append_seam, take-length}
use Rattle.pcode.specs.Var.{pick}
use Rattle.fields.specs.Parts.{place_of, head_of, tail_of, rest_of, part_of, count_of}

-- a byte does not stand in a list
abbrev pub Without : ℕ → List ℕ → Type 0
Without b s = count_of b s ≡ 0

no_suc : (n : ℕ) → suc n ≡ 0 → ⊥
no_suc n e = omega (arith, e)

pub count_append : (b : ℕ) (xs ys : List ℕ) → count_of b (xs ++ ys) ≡ count_of b xs + count_of b ys
unfolding count_of
count_append b [] ys = omega arith
count_append b (x ∷ xs) ys = go (eqb x b) (count_append b xs ys)
  where
    go : (t : Bool) → count_of b (xs ++ ys) ≡ count_of b xs + count_of b ys →
        pick t (suc (count_of b (xs ++ ys))) (count_of b (xs ++ ys)) ≡ pick t (suc (count_of b xs)) (count_of b xs) + count_of b ys
    go true e = omega (arith, e)
    go false e = e

pub count_empty : (b : ℕ) → count_of b [] ≡ 0
unfolding count_of
count_empty b = refl

pub count_own : (b : ℕ) (ys : List ℕ) → count_of b (b ∷ ys) ≡ suc (count_of b ys)
unfolding count_of
count_own b ys = rw (eq-eqb b b refl)

pub count_other : (b x : ℕ) (ys : List ℕ) → (x ≡ b → ⊥) → count_of b (x ∷ ys) ≡ count_of b ys
unfolding count_of
count_other b x ys h = rw (ne_eqb x b h)

-- what a list without a byte tells of its first byte, and of the rest
pub without_head : (b x : ℕ) (xs : List ℕ) → Without b (x ∷ xs) → eqb x b ≡ false
unfolding count_of
without_head b x xs = go (eqb x b)
  where
    go : (t : Bool) → pick t (suc (count_of b xs)) (count_of b xs) ≡ 0 → t ≡ false
    go true e = absurd (no_suc _ e)
    go false e = refl

pub without_rest : (b x : ℕ) (xs : List ℕ) → Without b (x ∷ xs) → Without b xs
unfolding count_of
without_rest b x xs h = rw (without_head b x xs h) at h

pub without_append : (b : ℕ) (xs ys : List ℕ) → Without b xs → Without b ys → Without b (xs ++ ys)
without_append b xs ys h k = count_append b xs ys ∙ omega (arith, h, k)

-- two lists parted by the byte
module _ (b : ℕ) (ys : List ℕ) where
  pub place_at : (xs : List ℕ) → Without b xs → place_of b (xs ++ b ∷ ys) ≡ length xs
  unfolding place_of
  place_at [] h = rw (eq-eqb b b refl)
  place_at (x ∷ xs) h = rw (without_head b x xs h) (ap suc (place_at xs (without_rest b x xs h)))

  module _ (xs : List ℕ) (h : Without b xs) where
    pub head_at : head_of b (xs ++ b ∷ ys) ≡ xs
    head_at = ap (λ (n : ℕ). take n (xs ++ b ∷ ys)) (place_at xs h) ∙ take-append_seam xs (b ∷ ys)

    pub tail_at : tail_of b (xs ++ b ∷ ys) ≡ ys
    tail_at = ap (λ (n : ℕ). drop (suc n) (xs ++ b ∷ ys)) (place_at xs h) ∙ past xs
      where
        past : (zs : List ℕ) → drop (suc (length zs)) (zs ++ b ∷ ys) ≡ ys
        past [] = refl
        past (z ∷ zs) = past zs

    pub count_at : count_of b (xs ++ b ∷ ys) ≡ suc (count_of b ys)
    count_at = count_append b xs (b ∷ ys) ∙ omega (arith, h, count_own b ys)

-- a list without the byte is its own first part
pub place_none : (b : ℕ) (xs : List ℕ) → Without b xs → place_of b xs ≡ length xs
unfolding place_of
place_none b [] h = refl
place_none b (x ∷ xs) h = rw (without_head b x xs h) (ap suc (place_none b xs (without_rest b x xs h)))

pub head_none : (b : ℕ) (xs : List ℕ) → Without b xs → head_of b xs ≡ xs
head_none b xs h = ap (λ (n : ℕ). take n xs) (place_none b xs h) ∙ take-length xs

pub part_last : (b : ℕ) (xs : List ℕ) → Without b xs → part_of b xs 0 ≡ xs
unfolding rest_of
part_last b xs h = head_none b xs h

-- part 0 of two lists parted by the byte, and the parts that follow
module _ (b : ℕ) (xs : List ℕ) (h : Without b xs) (ys : List ℕ) where
  pub part_first : part_of b (xs ++ b ∷ ys) 0 ≡ xs
  unfolding rest_of
  part_first = head_at b ys xs h

  rest_next : (k : ℕ) → rest_of b (xs ++ b ∷ ys) (suc k) ≡ rest_of b ys k
  unfolding rest_of
  rest_next zero = tail_at b ys xs h
  rest_next (suc k) = ap (tail_of b) (rest_next k)

  pub part_next : (k : ℕ) → part_of b (xs ++ b ∷ ys) (suc k) ≡ part_of b ys k
  part_next k = ap (head_of b) (rest_next k)

-- the part before the first one is without it
pub head_without : (b : ℕ) (s : List ℕ) → Without b (head_of b s)
unfolding place_of count_of
head_without b [] = refl
head_without b (x ∷ s) = go (eqb x b) refl (head_without b s)
  where
    go : (t : Bool) → eqb x b ≡ t → Without b (head_of b s) → Without b (take (pick t zero (suc (place_of b s))) (x ∷ s))
    go true e h = refl
    go false e h = rw e h

-- a list with the byte is its first part, the byte, and what follows
pub split : (b n : ℕ) (s : List ℕ) → count_of b s ≡ suc n → (s ≡ head_of b s ++ b ∷ tail_of b s) × (count_of b (tail_of b s) ≡ n)
unfolding place_of count_of
split b n [] e = absurd (no_suc n (sym e))
split b n (x ∷ s) e₀ = go (eqb x b) refl e₀ (split b n s)
  where
    go : (t : Bool) → eqb x b ≡ t → pick t (suc (count_of b s)) (count_of b s) ≡ suc n →
        (count_of b s ≡ suc n → (s ≡ head_of b s ++ b ∷ tail_of b s) × (count_of b (tail_of b s) ≡ n)) →
        let p = pick t zero (suc (place_of b s)) in (x ∷ s ≡ take p (x ∷ s) ++ b ∷ drop (suc p) (x ∷ s)) × (count_of b (drop (suc p) (x ∷ s)) ≡ n)
    go true q e f = (ap (λ (y : ℕ). y ∷ s) (eqb-true x b q), omega (arith, e))
    go false q e f = (ap (λ (l : List ℕ). x ∷ l) (f e).0, (f e).1)

-- lists parted by the byte, each the same as another
pub parted : (b : ℕ) {p q x y : List ℕ} → p ≡ x → q ≡ y → p ++ b ∷ q ≡ x ++ b ∷ y
parted b {p = p} {y = y} e f = ap (λ (l : List ℕ). p ++ b ∷ l) f ∙ ap (λ (l : List ℕ). l ++ b ∷ y) e

-- part k and what follows it
module _ (b n : ℕ) (s : List ℕ) (k : ℕ) (e : count_of b (rest_of b s k) ≡ suc n) where
  part_cut : rest_of b s k ≡ part_of b s k ++ b ∷ rest_of b s (suc k)
  unfolding rest_of
  part_cut = (split b n (rest_of b s k) e).0

  rest_count : count_of b (rest_of b s (suc k)) ≡ n
  unfolding rest_of
  rest_count = (split b n (rest_of b s k) e).1

part_end : (b : ℕ) (s : List ℕ) (k : ℕ) → count_of b (rest_of b s k) ≡ 0 → rest_of b s k ≡ part_of b s k
part_end b s k e = sym (head_none b (rest_of b s k) e)

rest_none : (b : ℕ) (s : List ℕ) → rest_of b s 0 ≡ s
unfolding rest_of
rest_none b s = refl

-- what stands from part k on, where so many separators are left
module _ (b : ℕ) (s : List ℕ) where
  abbrev pub joined_from : ℕ → ℕ → List ℕ
  joined_from zero k = part_of b s k
  joined_from (suc n) k = part_of b s k ++ b ∷ joined_from n (suc k)

  rest_joined : (n k : ℕ) → count_of b (rest_of b s k) ≡ n → rest_of b s k ≡ joined_from n k
  rest_joined zero k e = part_end b s k e
  rest_joined (suc n) k e = part_cut b n s k e ∙ ap (λ (l : List ℕ). part_of b s k ++ b ∷ l) (rest_joined n (suc k) (rest_count b n s k e))

  -- a list is its parts, the byte between them
  pub parts_joined : (n : ℕ) → count_of b s ≡ n → s ≡ joined_from n 0
  parts_joined n e = sym (rest_none b s) ∙ rest_joined n 0 (ap (count_of b) (rest_none b s) ∙ e)
