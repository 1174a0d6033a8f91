-- What two halves stay below, and what a power of two cuts off such a number.
use Rattle.std.proofs.Common.{◌≡◌, ℕ, ◌+◌, ◌*◌, ◌/◌, ◌%◌, ◌^◌, ◌<◌, ◌≤◌, sym, subst, lt_of_lt_of_le, lit<, pow_mono}
use native.Mathlib.Nat.{mod-eq_of_lt, div-eq_of_lt}
use lib.Arith.{digits_lt}
use Rattle.wide.proofs.Halves.{turned}

-- two halves stand for a number below 2^128
pub below_128 : (lo hi : ℕ) → lo < 2 ^ 64 → hi < 2 ^ 64 → lo + 2 ^ 64 * hi < 2 ^ 128
below_128 lo hi h g = subst (λ (n : ℕ). n < 2 ^ 128) (sym (turned (2 ^ 64) (lit< tt) lo hi)) (digits_lt {q = hi} {m = 2 ^ 64} {r = lo} {c = 2 ^ 64} g h)

-- a number of 128 bits is its own lowest k bits, where k is 128 or more, and nothing of it stands above them
pub all_kept : (n k : ℕ) → n < 2 ^ 128 → 128 ≤ k → n % 2 ^ k ≡ n
all_kept n k h j = mod-eq_of_lt (lt_of_lt_of_le h (pow_mono {i = 128} {j = k} j))

pub none_left : (n k : ℕ) → n < 2 ^ 128 → 128 ≤ k → n / 2 ^ k ≡ 0
none_left n k h j = div-eq_of_lt (lt_of_lt_of_le h (pow_mono {i = 128} {j = k} j))
