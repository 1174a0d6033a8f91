-- Products and counts of symbolic bits agree with those of numbers.
use Rattle.std.proofs.Common.{ℕ, zero, suc, ◌+◌, ◌*◌, ◌%◌, ◌^◌, ◌≤◌, ◌<◌, ◌≡◌, refl, sym, ◌∙◌, ap, ap₂, subst, Bool, false, List, [], ◌∷◌, map-id, reverse, mul_comm, zero-mul, mul-zero, mul-one, add-zero, zero-add, arith, le-leb, length, Option, Some, None}
use mathlib.Core.List.{reverse-cons, reverse-reverse}
use native.Mathlib.Nat.{pow-succ'}
use borrow.Author.Tests.{lt-leb}
use lib.ListN.{length-reverse}
use Rattle.bit.specs.Bits.{one_if}
use Rattle.bit.specs.declared.Bit.{Bit}
use Rattle.bit.specs.declared.Bit.TheVariants.{Zero, One, Unknown, Expr as Sym}
use Rattle.bit_vec.specs.Known.{plus, count_k, count_ones, lead_k, zeros_first, leading_zeros, trail_k, trailing_zeros}
use Rattle.bit_vec.specs.Moves.{up, digits}
use Rattle.bit_vec.proofs.Lengths.{length_up}
use Rattle.eval.specs.Held.{plain}
use Rattle.eval.specs.Eval.{number_or, mul_by_ones, mul_by}
use Rattle.eval.proofs.Products.{trailing_within}
use Rattle.meaning.specs.Meaning.{count_ones as ones_of, leading_zeros as zeros_of}
use Rattle.sound.specs.Sound.{Valuation, Agree, Agrees, num, low}
use Rattle.sound.proofs.Numbers.{num_lt, num_head, num_tail, num_append, length_low, low_num, low_mod}
use Rattle.sound.proofs.Lists.{same_length, zeros, unknowns, append, sound_digits}
use Rattle.sound.proofs.Shifts.{ConstIs, num_up, up_agrees}

-- none: zero; one: a power of two, by the zeros below it
abbrev Ones : Option ℕ → ℕ → ℕ → Type 0
Ones (Some zero) t k = k ≡ 0
Ones (Some (suc zero)) t k = k ≡ 2 ^ t
Ones (Some (suc (suc m))) t k = Unit {0}
Ones None t k = Unit {0}

doubled : (c : Option ℕ) (t k : ℕ) → Ones c t k → Ones c (suc t) (0 + 2 * k)
doubled (Some zero) t k h = omega arith
doubled (Some (suc zero)) t k h = let p : 2 ^ suc t ≡ 2 * 2 ^ t = pow-succ' 2 t in omega arith
doubled (Some (suc (suc m))) t k h = tt
doubled None t k h = tt

one_more : (c : Option ℕ) (t k : ℕ) → Ones c t k → Ones (plus 1 c) 0 (1 + 2 * k)
one_more (Some zero) t k h = omega arith
one_more (Some (suc zero)) t k h = tt
one_more (Some (suc (suc m))) t k h = let e : 1 + suc (suc m) ≡ suc (suc (suc m)) = omega arith in subst (λ (n : ℕ). Ones (Some n) 0 (1 + 2 * k)) (sym e) tt
one_more None t k h = tt

-- one more bit set
count_more : (c : Option ℕ) (k : ℕ) → ConstIs c k → ConstIs (plus 1 c) (suc k)
count_more (Some n) k h = omega arith
count_more None k h = tt

module _ (ρ : Valuation) where
  ones_cons : (x : Bit) (v : Bool) (c : Option ℕ) (t k : ℕ) → Agree ρ x v → Ones c t k → Ones (count_k x c) (trail_k x t) (one_if v + 2 * k)
  ones_cons Zero v c t k h o = rw h (doubled c t k o)
  ones_cons One v c t k h o = rw h (one_more c t k o)
  ones_cons Unknown v c t k h o = tt
  ones_cons (Sym e) v c t k h o = tt

  ones : (xs : List Bit) (vs : List Bool) → Agrees ρ xs vs → Ones (count_ones xs) (trailing_zeros xs) (num vs)
  ones [] [] h = refl
  ones [] (v ∷ vs) h = absurd h
  ones (x ∷ xs) [] h = absurd h
  ones (x ∷ xs) (v ∷ vs) h = ones_cons x v (count_ones xs) (trailing_zeros xs) (num vs) h.0 (ones xs vs h.1)

  -- a known operand and another, of n bits
  by_ones : (c : Option ℕ) (t a : ℕ) (ys : List Bit) (ws : List Bool) (n : ℕ) → Ones c t a → Agrees ρ ys ws → length ws ≡ n → t ≤ n
      → Agrees ρ (mul_by_ones plain c t ys n) (low n ((a * num ws) % 2 ^ n))
  by_ones (Some zero) t a ys ws n o h e l = rw (low_mod n (a * num ws), o, zero-mul (num ws)) (zeros ρ n)
  by_ones (Some (suc zero)) t a ys ws n o h e l =
      let q : (a * num ws) % 2 ^ n ≡ num (up false t ws) = ap₂ (λ (x y : ℕ). (x * num ws) % 2 ^ y) o (sym e) ∙ ap (λ (x : ℕ). x % 2 ^ length ws) (mul_comm (2 ^ t) (num ws)) ∙ sym (num_up t ws (omega arith)) in
      rw (low_num n ((a * num ws) % 2 ^ n) (up false t ws) (length_up false t ws (omega arith) ∙ e) q) (up_agrees ρ t ys ws h)
  by_ones (Some (suc (suc m))) t a ys ws n o h e l = unknowns ρ n (low n ((a * num ws) % 2 ^ n)) (length_low n ((a * num ws) % 2 ^ n))
  by_ones None t a ys ws n o h e l = unknowns ρ n (low n ((a * num ws) % 2 ^ n)) (length_low n ((a * num ws) % 2 ^ n))

  -- `IntMul`, by what is known of its operands
  pub sound_mul : (c d : Option ℕ) (xs ys : List Bit) (vs ws : List Bool) (n : ℕ) → ConstIs c (num vs) → ConstIs d (num ws) → Agrees ρ xs vs → Agrees ρ ys ws
      → length vs ≡ n → length ws ≡ n → Agrees ρ (mul_by plain c d xs ys n) (low n ((num vs * num ws) % 2 ^ n))
  sound_mul (Some x) (Some y) xs ys vs ws n i j hx hy ex ey =
      rw (map-id (digits n (x * y)), low_mod n (num vs * num ws), ← i, ← j) (sound_digits ρ n (x * y))
  sound_mul (Some x) None xs ys vs ws n i j hx hy ex ey =
      rw (map-id xs)
      (by_ones (count_ones xs) (trailing_zeros xs) (num vs) ys ws n (ones xs vs hx) hy ey (omega (arith, trailing_within xs, same_length ρ xs vs hx)))
  sound_mul None (Some y) xs ys vs ws n i j hx hy ex ey =
      rw (map-id ys, mul_comm (num vs) (num ws))
      (by_ones (count_ones ys) (trailing_zeros ys) (num ws) xs vs n (ones ys ws hy) hx ex (omega (arith, trailing_within ys, same_length ρ ys ws hy)))
  sound_mul None None xs ys vs ws n i j hx hy ex ey = unknowns ρ n (low n ((num vs * num ws) % 2 ^ n)) (length_low n ((num vs * num ws) % 2 ^ n))

  -- a number cut to n bits, where it is known
  pub sound_number : (c : Option ℕ) (k n : ℕ) → ConstIs c k → Agrees ρ (number_or plain c n) (low n (k % 2 ^ n))
  sound_number (Some v) k n i = rw (map-id (digits n v), low_mod n k, ← i) (sound_digits ρ n v)
  sound_number None k n i = unknowns ρ n (low n (k % 2 ^ n)) (length_low n (k % 2 ^ n))

  count_cons : (x : Bit) (v : Bool) (c : Option ℕ) (k : ℕ) → Agree ρ x v → ConstIs c k → ConstIs (count_k x c) (one_if v + k)
  count_cons Zero v c k h i = rw (h, zero-add k) i
  count_cons One v c k h i = let e : 1 + k ≡ suc k = omega arith in rw (h, e) (count_more c k i)
  count_cons Unknown v c k h i = tt
  count_cons (Sym e) v c k h i = tt

  pub count_is : (xs : List Bit) (vs : List Bool) → Agrees ρ xs vs → ConstIs (count_ones xs) (ones_of (length vs) (num vs))
  unfolding ones_of
  count_is [] [] h = refl
  count_is [] (v ∷ vs) h = absurd h
  count_is (x ∷ xs) [] h = absurd h
  count_is (x ∷ xs) (v ∷ vs) h =
      rw (num_head v (num vs), num_tail v (num vs)) (count_cons x v (count_ones xs) (ones_of (length vs) (num vs)) h.0 (count_is xs vs h.1))

  reversed : (xs : List Bit) (vs : List Bool) → Agrees ρ xs vs → Agrees ρ (reverse xs) (reverse vs)
  reversed [] [] h = tt
  reversed [] (v ∷ vs) h = absurd h
  reversed (x ∷ xs) [] h = absurd h
  reversed (x ∷ xs) (v ∷ vs) h = rw (reverse-cons x xs, reverse-cons v vs) (append ρ (reverse xs) (x ∷ []) (reverse vs) (v ∷ []) (reversed xs vs h.1) (h.0, tt))

  -- the highest bit v above n bits whose number is r
  lead_cons : (x : Bit) (v : Bool) (c : Option ℕ) (n r : ℕ) → r < 2 ^ n → Agree ρ x v → ConstIs c (zeros_of n r) → ConstIs (lead_k x c) (zeros_of (suc n) (r + 2 ^ n * (one_if v + 0)))
  unfolding zeros_of
  lead_cons Zero v c n r l h i =
      let q : r + 2 ^ n * (0 + 0) ≡ r = ap (λ (m : ℕ). r + m) (mul-zero (2 ^ n)) ∙ add-zero r in
      rw (h, q, lt-leb (2 ^ n) r l) (count_more c (zeros_of n r) i)
  lead_cons One v c n r l h i =
      let q : 2 ^ n * (1 + 0) ≡ 2 ^ n = mul-one (2 ^ n) in
      rw (h, q, le-leb (2 ^ n) (r + 2 ^ n) (omega arith))
  lead_cons Unknown v c n r l h i = tt
  lead_cons (Sym e) v c n r l h i = tt

  lead_none : ◌≡◌ {A = ℕ} 0 (zeros_of 0 0)
  unfolding zeros_of
  lead_none = refl

  lead_from : (ys : List Bit) (us : List Bool) → Agrees ρ ys us → ConstIs (zeros_first ys) (zeros_of (length us) (num (reverse us)))
  lead_from [] [] h = lead_none
  lead_from [] (u ∷ us) h = absurd h
  lead_from (y ∷ ys) [] h = absurd h
  lead_from (y ∷ ys) (u ∷ us) h =
      let n : length (reverse us) ≡ length us = length-reverse us in
      let l : num (reverse us) < 2 ^ length us = rw n at (num_lt (reverse us)) in
      rw (reverse-cons u us, num_append (reverse us) (u ∷ []), n)
      (lead_cons y u (zeros_first ys) (length us) (num (reverse us)) l h.0 (lead_from ys us h.1))

  pub lead_is : (xs : List Bit) (vs : List Bool) → Agrees ρ xs vs → ConstIs (leading_zeros xs) (zeros_of (length vs) (num vs))
  lead_is xs vs h = rw (length-reverse vs, reverse-reverse vs) at (lead_from (reverse xs) (reverse vs) (reversed xs vs h))
