-- Signed comparisons and overflows of symbolic bits agree with those of two's complement.
use Rattle.std.proofs.Common.{ℕ, suc, ◌+◌, ◌*◌, ◌-◌, ◌%◌, ◌^◌, ◌≤◌, ◌<◌, ◌≡◌, refl, sym, ◌∙◌, Bool, true, false, not, ◌&&◌, ◌||◌, List, [], ◌∷◌, mod-eq_of_lt, arith, ltb-true, ltb-false, leb-true, leb-false, le-leb, eq-eqb, ne_eqb, eqb, ltb, leb, ◌+ℤ◌, ◌-ℤ◌, length}
use mathlib.Core.Bool.{or-false}
use native.Mathlib.Nat.{pow-succ', mod-eq-sub-mod}
use borrow.Author.Tests.{lt-leb}
use lib.Signed.{lt_z, le_z}
use Rattle.bit.specs.Bits.{not_b, and_b, or_b, xor_b}
use Rattle.bit.specs.declared.Bit.{Bit}
use Rattle.bit.specs.declared.Bit.TheVariants.{Zero}
use Rattle.bit_vec.specs.Lists.{last_place, add_overflow, sub_overflow, eq_bits}
use Rattle.bit_vec.specs.Moves.{last_of}
use Rattle.bit_vec.specs.declared.ripple.Ripple.TheVariants.{Add, Sub}
use Rattle.eval.specs.Eval.{signed_less}
use Rattle.meaning.specs.Meaning.{sign, signed, in_range}
use Rattle.concrete.proofs.Signs.{at, signs_carry, signs_borrow, less_by_lem, carry_by, borrow_by}
use Rattle.sound.specs.Sound.{Valuation, ◌xor◌, Agree, Agrees, num}
use Rattle.sound.proofs.Ops.{xor_false, xor_true, sound_not, sound_and, sound_or, sound_xor}
use Rattle.sound.proofs.Numbers.{num_lt, sign_last}
use Rattle.sound.proofs.Lists.{last}
use Rattle.sound.proofs.Sums.{sound_high, sound_out, ripple_n}
use Rattle.sound.proofs.Equal.{sound_equal}

-- overflow by the signs x, y of the operands and c of the wrapped result
abbrev over_add : Bool → Bool → Bool → Bool
over_add x y c = (not (x || y) && c) || ((x && y) && not c)

abbrev over_sub : Bool → Bool → Bool → Bool
over_sub x y c = (x xor y) && (c xor x)

-- less, by the difference's sign and overflow
abbrev less_by : Bool → Bool → Bool → Bool
less_by x y c = c xor over_sub x y c

-- at most is less, or equal
at_most : (a b c d : ℕ) → (a ≡ b → c ≡ d) → (c ≡ d → a ≡ b) → leb a b ≡ (ltb a b || eqb c d)
at_most a b c d f g = by (ltb a b) refl (leb a b) refl
  where
    by : (s : Bool) → ltb a b ≡ s → (t : Bool) → leb a b ≡ t → leb a b ≡ (ltb a b || eqb c d)
    by true p t q = rw p (le-leb a b (let l = ltb-true a b p in omega arith))
    by false p true q =
        let l = ltb-false a b p in
        let k = leb-true a b q in
        let e : a ≡ b = omega arith in
        rw p (q ∙ sym (eq-eqb c d (f e)))
    by false p false q =
        let k = leb-false a b q in
        rw p (q ∙ sym (ne_eqb c d (λ e. let z : a ≡ b = g e in omega arith)))

-- the two overflows are those by the signs
carry_signs : (x y c : Bool) → signs_carry x y c ≡ over_add x y c
carry_signs true true c = refl
carry_signs true false c = refl
carry_signs false true c = refl
carry_signs false false c = sym (or-false c)

borrow_signs : (x y c : Bool) → signs_borrow x y c ≡ over_sub x y c
borrow_signs true true c = refl
borrow_signs true false c = sym (xor_true c)
borrow_signs false true c = sym (xor_false c)
borrow_signs false false c = refl

xor_back : (c : Bool) → c xor (c xor true) ≡ true
xor_back true = refl
xor_back false = refl

xor_gone : (c : Bool) → c xor (c xor false) ≡ false
xor_gone true = refl
xor_gone false = refl

module _ (P Q a b : ℕ) (even : P ≡ Q + Q) (ha : a < P) (hb : b < P) where
  -- of operands of one sign, the wrapped difference's sign is the order
  same_sign : (t : Bool) → leb P (2 * a) ≡ t → leb P (2 * b) ≡ t → ltb a b ≡ leb P (2 * ((a + (P - b)) % P))
  same_sign t ea eb = by (ltb a b) refl (near t ea eb)
    where
      near : (s : Bool) → leb P (2 * a) ≡ s → leb P (2 * b) ≡ s → (2 * a < P + 2 * b) × (2 * b ≤ P + 2 * a)
      near true p q = let l = leb-true P (2 * a) p in let k = leb-true P (2 * b) q in (omega arith, omega arith)
      near false p q = let l = leb-false P (2 * a) p in let k = leb-false P (2 * b) q in (omega arith, omega arith)

      by : (s : Bool) → ltb a b ≡ s → (2 * a < P + 2 * b) × (2 * b ≤ P + 2 * a) → ltb a b ≡ leb P (2 * ((a + (P - b)) % P))
      by true p h =
          let l = ltb-true a b p in
          let s : a + (P - b) < P = omega arith in
          let m : (a + (P - b)) % P ≡ a + (P - b) = mod-eq_of_lt s in
          p ∙ sym (le-leb P (2 * ((a + (P - b)) % P)) (omega arith))
      by false p h =
          let l = ltb-false a b p in
          let s : P ≤ a + (P - b) = omega arith in
          let g : a + (P - b) - P < P = omega arith in
          let m : (a + (P - b)) % P ≡ (a + (P - b) - P) % P = mod-eq-sub-mod s in
          let n : (a + (P - b) - P) % P ≡ a + (P - b) - P = mod-eq_of_lt g in
          p ∙ sym (lt-leb P (2 * ((a + (P - b)) % P)) (omega arith))

  less_law : (x y : Bool) → leb P (2 * a) ≡ x → leb P (2 * b) ≡ y → lt_z (at P a) (at P b) ≡ less_by x y (leb P (2 * ((a + (P - b)) % P)))
  less_law true true ea eb = less_by_lem P Q a b even ha hb true true ea eb ∙ same_sign true ea eb ∙ sym (xor_false (leb P (2 * ((a + (P - b)) % P))))
  less_law true false ea eb = less_by_lem P Q a b even ha hb true false ea eb ∙ sym (xor_back (leb P (2 * ((a + (P - b)) % P))))
  less_law false true ea eb = less_by_lem P Q a b even ha hb false true ea eb ∙ sym (xor_gone (leb P (2 * ((a + (P - b)) % P))))
  less_law false false ea eb = less_by_lem P Q a b even ha hb false false ea eb ∙ same_sign false ea eb ∙ sym (xor_false (leb P (2 * ((a + (P - b)) % P))))

  at_most_law : (x y : Bool) → leb P (2 * a) ≡ x → leb P (2 * b) ≡ y → le_z (at P a) (at P b) ≡ (lt_z (at P a) (at P b) || eqb a b)
  at_most_law true true ea eb = simp (ea, eb) (at_most (P - 1 - b) (P - 1 - a) a b (λ e. omega arith) (λ e. omega arith))
  at_most_law true false ea eb = simp (ea, eb)
  at_most_law false true ea eb =
      let l = leb-false P (2 * a) ea in
      let k = leb-true P (2 * b) eb in
      simp (ea, eb) (sym (ne_eqb a b (λ e. omega arith)))
  at_most_law false false ea eb = simp (ea, eb) (at_most a b a b (λ e. e) (λ e. e))

-- signed comparisons and overflows of numbers of n bits, by signs
record Laws (n a b : ℕ) : Type 0 where
  less : lt_z (signed n a) (signed n b) ≡ less_by (sign n a) (sign n b) (sign n (ripple_n Sub n a b))
  most : le_z (signed n a) (signed n b) ≡ (lt_z (signed n a) (signed n b) || eqb a b)
  carry : not (in_range n (signed n a +ℤ signed n b)) ≡ over_add (sign n a) (sign n b) (sign n (ripple_n Add n a b))
  borrow : not (in_range n (signed n a -ℤ signed n b)) ≡ over_sub (sign n a) (sign n b) (sign n (ripple_n Sub n a b))

-- a width is none, or its power of two is even
laws : (vs ws : List Bool) → length vs ≡ length ws → Laws (length vs) (num vs) (num ws)
unfolding signed
laws [] [] e = record { less = refl; most = refl; carry = refl; borrow = refl }
laws [] (w ∷ ws) e = absurd (omega (arith, e))
laws (v ∷ vs) ws e =
    let P : ℕ = 2 ^ suc (length vs) in
    let a : ℕ = num (v ∷ vs) in
    let b : ℕ = num ws in
    let x : Bool = leb (2 ^ suc (length vs)) (2 * num (v ∷ vs)) in
    let y : Bool = leb (2 ^ suc (length vs)) (2 * num ws) in
    let p : 2 ^ suc (length vs) ≡ 2 * 2 ^ length vs = pow-succ' 2 (length vs) in
    let q : 2 ^ suc (length vs) ≡ 2 ^ length vs + 2 ^ length vs = omega arith in
    let ha : num (v ∷ vs) < 2 ^ suc (length vs) = num_lt (v ∷ vs) in
    let hb : num ws < 2 ^ suc (length vs) = rw e (num_lt ws) in
    record {
      less = less_law P (2 ^ length vs) a b q ha hb x y refl refl;
      most = at_most_law P (2 ^ length vs) a b q ha hb x y refl refl;
      carry = carry_by P (2 ^ length vs) a b q ha hb x y refl refl ∙ carry_signs x y (leb P (2 * ((a + b) % P)));
      borrow = borrow_by P (2 ^ length vs) a b q ha hb x y refl refl ∙ borrow_signs x y (leb P (2 * ((a + (P - b)) % P)));
    }

module _ (ρ : Valuation) (xs ys : List Bit) (vs ws : List Bool) (hx : Agrees ρ xs vs) (hy : Agrees ρ ys ws) (e : length vs ≡ length ws) where
  abbrev sign_x : Bool
  sign_x = sign (length vs) (num vs)

  abbrev sign_y : Bool
  sign_y = sign (length vs) (num ws)

  sound_sign_x : Agree ρ (last_of Zero xs) sign_x
  sound_sign_x = rw (sign_last vs) (last ρ Zero false xs vs refl hx)

  sound_sign_y : Agree ρ (last_of Zero ys) sign_y
  sound_sign_y = rw (e, sign_last ws) (last ρ Zero false ys ws refl hy)

  abbrev high_add : Bool
  high_add = sign (length vs) (ripple_n Add (length vs) (num vs) (num ws))

  abbrev high_sub : Bool
  high_sub = sign (length vs) (ripple_n Sub (length vs) (num vs) (num ws))

  over_add_lem : Agree ρ (add_overflow xs ys) (over_add sign_x sign_y high_add)
  over_add_lem =
      let x : Bit = last_of Zero xs in
      let y : Bit = last_of Zero ys in
      let c : Bit = (last_place Add xs ys).digit in
      let hc : Agree ρ (last_place Add xs ys).digit high_add = sound_high ρ Add xs ys vs ws hx hy e in
      sound_or ρ (and_b (not_b (or_b x y)) c) (and_b (and_b x y) (not_b c)) (not (sign_x || sign_y) && high_add) ((sign_x && sign_y) && not high_add)
      (sound_and ρ (not_b (or_b x y)) c (not (sign_x || sign_y)) high_add (sound_not ρ (or_b x y) (sign_x || sign_y) (sound_or ρ x y sign_x sign_y sound_sign_x sound_sign_y)) hc)
      (sound_and ρ (and_b x y) (not_b c) (sign_x && sign_y) (not high_add) (sound_and ρ x y sign_x sign_y sound_sign_x sound_sign_y) (sound_not ρ c high_add hc))

  over_sub_lem : Agree ρ (sub_overflow xs ys) (over_sub sign_x sign_y high_sub)
  over_sub_lem =
      let x : Bit = last_of Zero xs in
      let y : Bit = last_of Zero ys in
      let c : Bit = (last_place Sub xs ys).digit in
      let hc : Agree ρ (last_place Sub xs ys).digit high_sub = sound_high ρ Sub xs ys vs ws hx hy e in
      sound_and ρ (xor_b x y) (xor_b c x) (sign_x xor sign_y) (high_sub xor sign_x) (sound_xor ρ x y sign_x sign_y sound_sign_x sound_sign_y)
      (sound_xor ρ c x high_sub sign_x hc sound_sign_x)

  less_agrees : Agree ρ (signed_less xs ys) (less_by sign_x sign_y high_sub)
  less_agrees = sound_xor ρ (last_place Sub xs ys).digit (sub_overflow xs ys) high_sub (over_sub sign_x sign_y high_sub) (sound_high ρ Sub xs ys vs ws hx hy e) over_sub_lem

  pub sound_signed_less : Agree ρ (signed_less xs ys) (lt_z (signed (length vs) (num vs)) (signed (length vs) (num ws)))
  sound_signed_less = rw (laws vs ws e).less less_agrees

  pub sound_signed_most : Agree ρ (or_b (signed_less xs ys) (eq_bits xs ys)) (le_z (signed (length vs) (num vs)) (signed (length vs) (num ws)))
  sound_signed_most =
      rw (laws vs ws e).most
      (sound_or ρ (signed_less xs ys) (eq_bits xs ys) (lt_z (signed (length vs) (num vs)) (signed (length vs) (num ws))) (eqb (num vs) (num ws)) sound_signed_less
      (sound_equal ρ xs ys vs ws hx hy e))

  pub sound_signed_carry : Agree ρ (add_overflow xs ys) (not (in_range (length vs) (signed (length vs) (num vs) +ℤ signed (length vs) (num ws))))
  sound_signed_carry = rw (laws vs ws e).carry over_add_lem

  pub sound_signed_borrow : Agree ρ (sub_overflow xs ys) (not (in_range (length vs) (signed (length vs) (num vs) -ℤ signed (length vs) (num ws))))
  sound_signed_borrow = rw (laws vs ws e).borrow over_sub_lem

  -- unsigned: at most is less, or equal
  pub sound_at_most : Agree ρ (or_b (last_place Sub xs ys).carry (eq_bits xs ys)) (leb (num vs) (num ws))
  sound_at_most =
      rw (at_most (num vs) (num ws) (num vs) (num ws) (λ q. q) (λ q. q))
      (sound_or ρ (last_place Sub xs ys).carry (eq_bits xs ys) (ltb (num vs) (num ws)) (eqb (num vs) (num ws)) (sound_out ρ Sub xs ys vs ws hx hy e)
      (sound_equal ρ xs ys vs ws hx hy e))
