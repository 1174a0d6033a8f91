-- The bytes of a set: of a union, of what is left, of a run; sets with the same bytes are the same.
use Rattle.std.proofs.Common.{ℕ, zero, suc, ◌-◌, ◌*◌, ◌%◌, ◌^◌, ◌≤◌, ◌<◌, max, min, one-mul, mod-eq_of_lt, arith, ◌≡◌, refl, sym, ap, ◌∙◌, Bool, true, false, not, ◌&&◌, ◌||◌, eqb, leb, ltb, eq-eqb, leb-true, leb-false, ltb-true, ltb-false}
use lib.Bits.{bit_and, bit_or}
use lib.Pow.{pow-lt}
use Rattle.std.specs.Int.{w64, bit_at}
use Rattle.std.proofs.lemmas.Nat.Bits.{bit_at-lt, bit_at-zero, bit_at_and, bit_at_or, bit_at_not, bit_at_above, same_from_bits, bit_at_mask_inside, bit_at_mask_below, bit_at_mask_above}
use Rattle.vars.proofs.Rows.{ways}
use Rattle.live_bytes.specs.Bytes.{has, between, holds}

-- what a digit says
same_digit : (x y : ℕ) → x < 2 → y < 2 → eqb x 1 ≡ eqb y 1 → x ≡ y
same_digit zero zero h k e = refl
same_digit zero (suc zero) h k e = cc
same_digit zero (suc (suc y)) h k e = absurd (omega arith)
same_digit (suc zero) zero h k e = cc
same_digit (suc zero) (suc zero) h k e = refl
same_digit (suc zero) (suc (suc y)) h k e = absurd (omega arith)
same_digit (suc (suc x)) y h k e = absurd (omega arith)

or_digit : (x y : ℕ) → x < 2 → y < 2 → eqb (max x y) 1 ≡ (eqb x 1 || eqb y 1)
or_digit zero zero h k = refl
or_digit zero (suc zero) h k = refl
or_digit zero (suc (suc y)) h k = absurd (omega arith)
or_digit (suc zero) zero h k = refl
or_digit (suc zero) (suc zero) h k = refl
or_digit (suc zero) (suc (suc y)) h k = absurd (omega arith)
or_digit (suc (suc x)) y h k = absurd (omega arith)

and_digit : (x y : ℕ) → x < 2 → y < 2 → eqb (min x y) 1 ≡ (eqb x 1 && eqb y 1)
and_digit zero zero h k = refl
and_digit zero (suc zero) h k = refl
and_digit zero (suc (suc y)) h k = absurd (omega arith)
and_digit (suc zero) zero h k = refl
and_digit (suc zero) (suc zero) h k = refl
and_digit (suc zero) (suc (suc y)) h k = absurd (omega arith)
and_digit (suc (suc x)) y h k = absurd (omega arith)

not_digit : (x : ℕ) → x < 2 → eqb (1 - x) 1 ≡ not (eqb x 1)
not_digit zero h = refl
not_digit (suc zero) h = refl
not_digit (suc (suc x)) h = absurd (omega arith)

and_swap : (x y : Bool) → (x && y) ≡ (y && x)
and_swap true true = refl
and_swap true false = refl
and_swap false true = refl
and_swap false false = refl

or_swap : (x y : Bool) → (x || y) ≡ (y || x)
or_swap true true = refl
or_swap true false = refl
or_swap false true = refl
or_swap false false = refl

-- a union
pub has_or : (a b i : ℕ) → has (bit_or a b) i ≡ (has a i || has b i)
unfolding has
has_or a b i = ap (λ (n : ℕ). eqb n 1) (bit_at_or a b i) ∙ or_digit (bit_at a i) (bit_at b i) (bit_at-lt a i) (bit_at-lt b i)

-- what two sets share
pub has_and : (a b i : ℕ) → has (bit_and a b) i ≡ (has a i && has b i)
unfolding has
has_and a b i = ap (λ (n : ℕ). eqb n 1) (bit_at_and a b i) ∙ and_digit (bit_at a i) (bit_at b i) (bit_at-lt a i) (bit_at-lt b i)

pub has_zero : (i : ℕ) → has 0 i ≡ false
unfolding has
has_zero i = ap (λ (n : ℕ). eqb n 1) (bit_at-zero i)

has_above : (a i : ℕ) → a < 2 ^ 64 → 64 ≤ i → has a i ≡ false
unfolding has
has_above a i h l = ap (λ (n : ℕ). eqb n 1) (bit_at_above a 64 i h l)

-- what is not in a set
has_not : (a i : ℕ) → a < 2 ^ 64 → i < 64 → has (2 ^ 64 - 1 - a) i ≡ not (has a i)
unfolding has
has_not a i h l = ap (λ (n : ℕ). eqb n 1) (bit_at_not w64 a i h l) ∙ not_digit (bit_at a i) (bit_at-lt a i)

-- the sets after a change by the bytes m, which are those that f says
module _ (s m : ℕ) (f : ℕ → Bool) (e : holds f m) where
  pub added : holds (λ k. f k || has s k) (bit_or s m)
  added k = has_or s m k ∙ or_swap (has s k) (has m k) ∙ rw (e k)

  pub left : s < 2 ^ 64 → m < 2 ^ 64 → holds (λ k. not (f k) && has s k) (bit_and s (2 ^ 64 - 1 - m))
  left g h k =
      has_and s (2 ^ 64 - 1 - m) k ∙ ways (ltb k 64)
      (λ t. let l = ltb-true k 64 t in rw (has_not m k h l, e k) (and_swap (has s k) (not (f k))))
      (λ t. let l = ltb-false k 64 t in rw (has_above s k g l) (sym (and_swap (not (f k)) false)))

  pub shared : holds (λ k. f k && has s k) (bit_and s m)
  shared k = has_and s m k ∙ and_swap (has s k) (has m k) ∙ rw (e k)

-- 2^k as the code makes it
pub power : (k : ℕ) → k < 64 → (1 * 2 ^ k) % 2 ^ 64 ≡ 2 ^ k
power k h = rw one-mul (mod-eq_of_lt (pow-lt {i = k} {j = 64} h))

-- the bytes from o up to e
pub run_bytes : (o e : ℕ) → holds (between o e) (2 ^ e - 2 ^ min o e)
unfolding has
run_bytes o e k =
    ways (leb o k)
    (λ t. let u = leb-true o k t in ways (ltb k e)
    (λ w. let x = ltb-true k e w in rw (t, w) (ap (λ (n : ℕ). eqb n 1) (bit_at_mask_inside (min o e) e k (omega arith) x)))
    (λ w. let x = ltb-false k e w in rw (t, w) (ap (λ (n : ℕ). eqb n 1) (bit_at_mask_above (min o e) e k x))))
    (λ t. let u = leb-false o k t in ways (ltb k e)
    (λ w. let x = ltb-true k e w in rw t (ap (λ (n : ℕ). eqb n 1) (bit_at_mask_below (min o e) e k (omega arith))))
    (λ w. let x = ltb-false k e w in rw t (ap (λ (n : ℕ). eqb n 1) (bit_at_mask_above (min o e) e k x))))

-- sets with the same bytes are the same
pub same_bytes : (a b : ℕ) → ((k : ℕ) → has a k ≡ has b k) → a ≡ b
unfolding has
same_bytes a b f = same_from_bits a b (λ k. same_digit (bit_at a k) (bit_at b k) (bit_at-lt a k) (bit_at-lt b k) (f k))

-- only one set has the bytes that a test says
pub holds_unique : (f : ℕ → Bool) (a b : ℕ) → holds f a → holds f b → a ≡ b
holds_unique f a b x y = same_bytes a b (λ k. x k ∙ sym (y k))

-- a set with no byte is empty (has_zero is the converse)
pub empty_bytes : (a : ℕ) → holds (λ k. false) a → eqb a 0 ≡ true
empty_bytes a f = eq-eqb a 0 (same_bytes a 0 (λ k. f k ∙ sym (has_zero k)))
