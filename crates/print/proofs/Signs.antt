-- A signed number without its sign.
use Rattle.std.proofs.Common.{◌≡◌, ℕ, ◌+◌, ◌<◌, ℤ, pos, negsuc, true, false, [], ◌∷◌, ◌++◌, refl, arith, ltb-true, nat_abs, add-one}
use lib.Signed.{lt_z}
use Rattle.print.specs.Texts.{id_text, digits_text}

small : (n : ℕ) → nat_abs (negsuc n) ≡ n + 1
small n = rw add-one

pub id_low : (z : ℤ) → lt_z z (pos 0) ≡ true → (45 ∷ []) ++ digits_text 5 (nat_abs z) ≡ id_text z
unfolding id_text
id_low (pos n) t = absurd (no (ltb-true n 0 t))
  where
    no : n < 0 → ⊥
    no h = omega arith
id_low (negsuc n) t = rw add-one

pub id_high : (z : ℤ) → lt_z z (pos 0) ≡ false → digits_text 5 (nat_abs z) ≡ id_text z
unfolding id_text
id_high (pos n) t = refl
id_high (negsuc n) t = cc
