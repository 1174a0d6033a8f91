-- The loops that read a slice from the highest place down, and those that read one or two from the lowest up: a turn of each,
-- against the definitions. Assumes nothing.
use Rattle.std.proofs.Common.{subst, ◌≡◌, ℕ, suc, ◌+◌, ◌*◌, ◌%◌, ◌^◌, ◌≤◌, ◌<◌, Option, Some, None, List, [], ◌∷◌, ◌++◌, length, reverse, refl, sym, ◌∙◌, ap, arith, append_assoc, length-append, le-leb, pow_mono}
use lib.ListN.{length-map}
use native.Mathlib.Nat.{pow-succ'}
use Rattle.bit.specs.Bits.{bit_of}
use Rattle.bit.specs.declared.Bit.{Bit}
use Rattle.bit.specs.declared.Bit.TheVariants.{Zero, One, Unknown, Expr as Sym}
use Rattle.bit_vec.specs.Lists.{bits, value_of}
use Rattle.bit_vec.specs.Known.{fold_bits, cons_k, const_from, const_of, one_of, least, plus, count_k, count_ones, zeros_first, leading_zeros}

-- a fact of the places that are done, where the slice is what is left of it and these
pub record Down (P : List ℕ → Type 0) (s rest : List ℕ) : Type 0 where
  pub done : List ℕ
  pub whole : rest ++ done ≡ s
  pub holds : P done

module _ (P : List ℕ → Type 0) (s rest : List ℕ) where
  -- how many are done
  pub down_length : (w : Down P s rest) → length rest + length w.done ≡ length s
  down_length w = sym (length-append rest w.done) ∙ ap length w.whole

-- one undecided bit opens a constant and a count
open_here : (b : Bit) (k : Option ℕ) → value_of b ≡ None → cons_k b k ≡ None
open_here Zero k h = cc
open_here One k h = cc
open_here Unknown k h = refl
open_here (Sym e) k h = refl

open_cons : (b : Bit) → cons_k b None ≡ None
open_cons Zero = refl
open_cons One = refl
open_cons Unknown = refl
open_cons (Sym e) = refl

count_here : (b : Bit) (k : Option ℕ) → value_of b ≡ None → count_k b k ≡ None
count_here Zero k h = cc
count_here One k h = cc
count_here Unknown k h = refl
count_here (Sym e) k h = refl

count_cons : (b : Bit) → count_k b None ≡ None
count_cons Zero = refl
count_cons One = refl
count_cons Unknown = refl
count_cons (Sym e) = refl

pub value_le : (b : Bit) (v : ℕ) → value_of b ≡ Some v → v ≤ 1
value_le Zero v h = let e : 0 ≡ v = cc in omega arith
value_le One v h = let e : 1 ≡ v = cc in omega arith
value_le Unknown v h = absurd cc
value_le (Sym e) v h = absurd cc

-- a fold that one undecided bit opens
module _ (f : Bit → Option ℕ → Option ℕ) (o : (b : Bit) → f b None ≡ None) where
  fold_above : (xs ys : List ℕ) → fold_bits f (bits ys) ≡ None → fold_bits f (bits (xs ++ ys)) ≡ None
  fold_above [] ys h = h
  fold_above (x ∷ xs) ys h = rw (fold_above xs ys h) (o (bit_of x))

  fold_open : (P : List ℕ → Type 0) (s rest more : List ℕ) (x : ℕ) → Down P s rest → rest ≡ more ++ (x ∷ []) → ((k : Option ℕ) → f (bit_of x) k ≡ None) → fold_bits f (bits s) ≡ None
  fold_open P s rest more x w e h =
      let q : more ++ x ∷ w.done ≡ s = sym (append_assoc more (x ∷ []) w.done) ∙ ap (λ (t : List ℕ). t ++ w.done) (sym e) ∙ w.whole in
      subst (λ (l : List ℕ). fold_bits f (bits l) ≡ None) q (fold_above more (x ∷ w.done) (h (fold_bits f (bits w.done))))

pub const_open : (P : List ℕ → Type 0) (s rest more : List ℕ) (x : ℕ) → Down P s rest → rest ≡ more ++ (x ∷ []) → value_of (bit_of x) ≡ None → const_from (bits s) ≡ None
const_open P s rest more x w e h = fold_open cons_k open_cons P s rest more x w e (λ k. open_here (bit_of x) k h)

pub count_open : (P : List ℕ → Type 0) (s rest more : List ℕ) (x : ℕ) → Down P s rest → rest ≡ more ++ (x ∷ []) → value_of (bit_of x) ≡ None → count_ones (bits s) ≡ None
count_open P s rest more x w e h = fold_open count_k count_cons P s rest more x w e (λ k. count_here (bit_of x) k h)

-- a known constant is below 2 to the length, and where that is at most 64 it is the least amount too
abbrev pub Good : Option ℕ → ℕ → ℕ → Type 0
Good (Some n) l m = (n ≡ l) × (n < m)
Good None l m = Unit {0}

good_cons : (b : Bit) (k : Option ℕ) (l m : ℕ) → 2 * m ≤ 2 ^ 64 → Good k l m → Good (cons_k b k) ((2 * l + one_of b) % 2 ^ 64) (2 * m)
good_cons Zero (Some a) l m f h = omega arith
good_cons Zero None l m f h = tt
good_cons One (Some a) l m f h = omega arith
good_cons One None l m f h = tt
good_cons Unknown k l m f h = tt
good_cons (Sym x) k l m f h = tt

pub const_good : (xs : List Bit) → length xs ≤ 64 → Good (const_from xs) (least xs) (2 ^ length xs)
const_good [] h = omega arith
const_good (x ∷ xs) h =
    let p : 2 ^ suc (length xs) ≡ 2 * 2 ^ length xs = pow-succ' 2 (length xs) in
    let f : 2 ^ suc (length xs) ≤ 2 ^ 64 = pow_mono h in
    rw p (good_cons x (const_from xs) (least xs) (2 ^ length xs) (omega arith) (const_good xs (omega arith)))

-- the constant so far leaves room for a further bit
pub room : (s rest more : List ℕ) (x n : ℕ) → Down (λ d. const_from (bits d) ≡ Some n) s rest → rest ≡ more ++ (x ∷ []) → length s ≤ 64 → n < 9223372036854775808
room s rest more x n w e hs =
    let l : length (bits w.done) ≡ length w.done = length-map w.done bit_of in
    let r : length rest ≡ length more + 1 = ap length e ∙ length-append more (x ∷ []) in
    let k : length rest + length w.done ≡ length s = down_length _ s rest w in
    let g : Good (Some n) (least (bits w.done)) (2 ^ length (bits w.done)) = rw w.holds at (const_good (bits w.done) (omega arith)) in
    let f : 2 ^ length (bits w.done) ≤ 2 ^ 63 = pow_mono {j = 63} (omega arith) in
    omega (arith, g.1)

pub const_short : (s : List ℕ) → length s ≤ 64 → const_of (bits s) ≡ const_from (bits s)
const_short s h = simp (length-map, le-leb _ _ h)

-- how many zeros are passed, and what is left
pub record Passed (s rest : List ℕ) (n : ℕ) : Type 0 where
  pub decides : plus n (zeros_first (reverse (bits rest))) ≡ leading_zeros (bits s)
  pub within : n + length rest ≤ length s
