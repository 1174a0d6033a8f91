-- A number of two digits lo + W * hi in a base W: its digits, and what a divisor of W sees of it.
use Rattle.std.proofs.Common.{◌≡◌, ℕ, ◌+◌, ◌*◌, ◌/◌, ◌%◌, ◌<◌, ap, ◌∙◌, mod-eq_of_lt, mul_assoc, mul_comm, zero-add, arith}
use native.Mathlib.Nat.{div-eq_of_lt, add-mul-mod_self_left, add-mul-div_left}

module _ (W : ℕ) (pos : 0 < W) where
  pub turned : (lo hi : ℕ) → lo + W * hi ≡ hi * W + lo
  turned lo hi = omega (arith, mul_comm W hi)

  pub low_digit : (lo hi : ℕ) → lo < W → (lo + W * hi) % W ≡ lo
  low_digit lo hi h = add-mul-mod_self_left lo W hi ∙ mod-eq_of_lt h

  pub high_digit : (lo hi : ℕ) → lo < W → (lo + W * hi) / W ≡ hi
  high_digit lo hi h = add-mul-div_left lo hi pos ∙ ap (λ (n : ℕ). n + hi) (div-eq_of_lt h) ∙ zero-add hi

  -- a divisor c of W sees the low digit alone
  pub cut_low : (lo hi c d : ℕ) → W ≡ c * d → (lo + W * hi) % c ≡ lo % c
  cut_low lo hi c d e = ap (λ (v : ℕ). (lo + v * hi) % c) e ∙ ap (λ (v : ℕ). (lo + v) % c) (mul_assoc c d hi) ∙ add-mul-mod_self_left lo c (d * hi)
