-- Laws that the families' proofs share: copies of the whole, zeros, sizes, names. Assumes nothing.
use Rattle.std.proofs.Common.{◌≡◌, ℕ, zero, suc, ◌+◌, ◌<◌, Bool, true, false, ◌&&◌, eqb, List, [], ◌∷◌, length, get_or, replicate, refl, ap, ◌∙◌, arith, take_all, eqb-true}
use Rattle.bit.specs.Bits.{bit_of, code_of}
use Rattle.bit.specs.declared.Bit.TheVariants.{Zero}
use Rattle.bit_vec.specs.Lists.{bits, codes}
use Rattle.bit_vec.specs.Moves.{fit}
use Rattle.bit_vec.proofs.Moved.{fit_cut}
use Rattle.pcode.specs.declared.var.OutputExprId.{OutputExprId}
use Rattle.eval.specs.Name.{name_b, name_from}

-- a copy of the same size is the list itself
pub fit_self : (z n : ℕ) (a : List ℕ) → length a ≡ n → fit z n a ≡ a
fit_self z n a e = fit_cut z n a (omega arith) ∙ take_all n a (omega arith)

zero_round : bit_of (code_of Zero) ≡ Zero
unfolding bit_of code_of
zero_round = refl

pub bits_zero : (n : ℕ) → bits (replicate n (code_of Zero)) ≡ replicate n Zero
bits_zero zero = refl
bits_zero (suc n) = rw (zero_round, bits_zero n)

-- the size rules' tests
pub all_same : (a b o : ℕ) → (eqb a o && eqb b o) ≡ true → (a ≡ o) × (b ≡ o)
all_same a b o h = go (eqb a o) (eqb b o) refl refl h
  where
    go : (s t : Bool) → eqb a o ≡ s → eqb b o ≡ t → (s && t) ≡ true → (a ≡ o) × (b ≡ o)
    go true true p q h = (eqb-true a o p, eqb-true b o q)
    go true false p q h = absurd (let z : ◌≡◌ {A = ℕ} 0 1 = cc in omega arith)
    go false t p q h = absurd (let z : ◌≡◌ {A = ℕ} 0 1 = cc in omega arith)

-- names, place by place
pub name_at : (id : OutputExprId) (s : List ℕ) (j i : ℕ) → i < length s → code_of (name_b id (j + i) (bit_of (get_or s i 0))) ≡ get_or (codes (name_from id j (bits s))) i 0
name_at id [] j i h = absurd (omega (arith, h))
name_at id (x ∷ s) j zero h =
    let q : j + 0 ≡ j = omega arith in
    ap (λ (n : ℕ). code_of (name_b id n (bit_of x))) q
name_at id (x ∷ s) j (suc i) h =
    let q : j + suc i ≡ suc j + i = omega arith in
    ap (λ (n : ℕ). code_of (name_b id n (bit_of (get_or s i 0)))) q ∙ name_at id s (suc j) i (omega arith)

pub length_names : (id : OutputExprId) (j : ℕ) (s : List ℕ) → length (codes (name_from id j (bits s))) ≡ length s
length_names id j [] = refl
length_names id j (x ∷ s) = ap suc (length_names id (suc j) s)
