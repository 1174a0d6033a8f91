-- Every operation of the run class with an output, loads apart, is sound.
use Rattle.std.proofs.Common.{ℕ, ◌+◌, ◌*◌, ◌-◌, ◌/◌, ◌%◌, ◌^◌, ◌≤◌, ◌≡◌, refl, sym, ◌∙◌, ap, ap₂, Bool, true, false, not, ◌&&◌, List, map, map-id, add-zero, zero-add, arith, eqb-true, leb-true, eqb, length, drop, get_or, replicate}
use lib.ListN.{length-replicate}
use Rattle.bit.specs.Bits.{not_b}
use Rattle.bit.specs.declared.Bit.{Bit}
use Rattle.bit.specs.declared.Bit.TheVariants.{Zero}
use Rattle.bit_vec.specs.Lists.{logic_b, zip_bits, ripple_bits, eq_bits}
use Rattle.bit_vec.specs.Moves.{fit, last_of, truth}
use Rattle.bit_vec.specs.Known.{const_of, count_ones, leading_zeros}
use Rattle.bit_vec.specs.declared.logic.Logic.{Logic}
use Rattle.bit_vec.specs.declared.ripple.Ripple.TheVariants.{Add, Sub}
use Rattle.bit_vec.proofs.Moved.{length_fit}
use Rattle.eval.specs.Held.{plain, read_all, truth_of}
use Rattle.eval.specs.Eval.{subpiece_of, one_of, two_of, shift_bits, compare_b, bool_b}
use Rattle.eval.specs.Sizes.{fits_bits}
use Rattle.eval.proofs.Laws.{all_same}
use Rattle.meaning.specs.Meaning.{one_if, odd, sign, means_one, means_two, means_shift, means_compare, means_bool, meaning, count_ones as ones_of, leading_zeros as zeros_of}
use Rattle.pcode.specs.Var.{pick}
use Rattle.pcode.specs.Rules.{sizes_one}
use Rattle.pcode.specs.declared.op.OneOp.{OneOp}
use Rattle.pcode.specs.declared.op.OneOp.TheVariants.{Copy, ZeroExtend, SignExtend, IntNot, IntNegate, IntCountOnes, IntCountLeadingZeroes, BoolNot}
use Rattle.pcode.specs.declared.op.TwoOp.{TwoOp}
use Rattle.pcode.specs.declared.op.TwoOp.TheVariants.{IntAdd, IntSub, IntXor, IntOr, IntAnd, IntMul}
use Rattle.pcode.specs.declared.op.ShiftOp.{ShiftOp}
use Rattle.pcode.specs.declared.op.ShiftOp.TheVariants.{IntLeft, IntRight, IntSignedRight}
use Rattle.pcode.specs.declared.op.CompareOp.{CompareOp}
use Rattle.pcode.specs.declared.op.CompareOp.TheVariants.{IntEqual, IntNotEqual, IntLess, IntSignedLess, IntLessEqual, IntSignedLessEqual, IntCarry, IntSignedCarry, IntSignedBorrow}
use Rattle.pcode.specs.declared.op.BoolOp.{BoolOp}
use Rattle.pcode.specs.declared.op.BoolOp.TheVariants.{BoolAnd, BoolOr, BoolXor}
use Rattle.pcode.specs.declared.op.Op.{Op}
use Rattle.pcode.specs.declared.op.Op.TheVariants.{Trap, InstructionMarker, PcodeLabel, PcodeBranch, Branch, Load, Store, Call, Select, Subpiece, Opaque, Float, One, Two, Divide, Shift, Rotate, Compare, Bool as BoolOf}
use Rattle.sound.specs.Sound.{Valuation, Agree, Agrees, num, low, computes, Sound}
use Rattle.sound.proofs.Ops.{sound_not, sound_and, sound_or, sound_xor}
use Rattle.sound.proofs.Numbers.{when, num_drop, num_fit, num_false, low_num, low_fit, low_mod, sign_last}
use Rattle.sound.proofs.Lists.{same_length, filled, fitted, dropped, last, first, sound_truth}
use Rattle.sound.proofs.Logic.{sound_logic, sound_flip, odd_first, odd_differ}
use Rattle.sound.proofs.Sums.{sound_ripple, sound_out, ripple_n}
use Rattle.sound.proofs.Equal.{sound_equal}
use Rattle.sound.proofs.Signed.{sound_signed_less, sound_signed_most, sound_signed_carry, sound_signed_borrow, sound_at_most}
use Rattle.sound.proofs.Shifts.{const_num, sound_left, sound_right, sound_signed_right}
use Rattle.sound.proofs.Counts.{sound_mul, sound_number, count_is, lead_is}

-- one operand
module _ (ρ : Valuation) (xs : List Bit) (vs : List Bool) (hx : Agrees ρ xs vs) where
  sound_subpiece : (k o : ℕ) → Agrees ρ (subpiece_of plain k xs o) (low o ((num vs / 2 ^ (8 * k)) % 2 ^ o))
  sound_subpiece k o =
      rw (low_mod o (num vs / 2 ^ (8 * k)), ← num_drop (8 * k) vs, low_fit o (drop (8 * k) vs))
      (fitted ρ Zero false o (drop (8 * k) xs) (drop (8 * k) vs) refl (dropped ρ (8 * k) xs vs hx))

  sound_extend : (o : ℕ) → length vs ≤ o → Agrees ρ (fit (last_of Zero xs) o xs) (low o (pick (sign (length vs) (num vs)) (num vs + (2 ^ o - 2 ^ length vs)) (num vs)))
  sound_extend o l = go (sign (length vs) (num vs)) (rw (sign_last vs) (last ρ Zero false xs vs refl hx))
    where
      value : (u : Bool) → pick u (num vs + (2 ^ o - 2 ^ length vs)) (num vs) ≡ num vs + when u (2 ^ o - 2 ^ length vs)
      value true = refl
      value false = sym (add-zero (num vs))

      go : (u : Bool) → Agree ρ (last_of Zero xs) u → Agrees ρ (fit (last_of Zero xs) o xs) (low o (pick u (num vs + (2 ^ o - 2 ^ length vs)) (num vs)))
      go u h =
          rw (low_num o (pick u (num vs + (2 ^ o - 2 ^ length vs)) (num vs)) (fit u o vs) (length_fit u o vs) (value u ∙ sym (num_fit u o vs l)))
          (fitted ρ (last_of Zero xs) u o xs vs h hx)

  sound_negate : Agrees ρ (ripple_bits Sub (replicate (length vs) Zero) xs) (low (length vs) ((2 ^ length vs - num vs) % 2 ^ length vs))
  sound_negate =
      let n : length (replicate (length vs) false) ≡ length vs = length-replicate (length vs) false in
      let q : low (length (replicate (length vs) false)) (ripple_n Sub (length (replicate (length vs) false)) (num (replicate (length vs) false)) (num vs)) ≡ low (length vs) ((2 ^ length vs - num vs) % 2 ^ length vs) =
      ap₂ (λ (a b : ℕ). low a ((b + (2 ^ a - num vs)) % 2 ^ a)) n (num_false (length vs)) ∙ ap (λ (a : ℕ). low (length vs) (a % 2 ^ length vs)) (zero-add (2 ^ length vs - num vs)) in
      rw (← q) (sound_ripple ρ Sub (replicate (length vs) Zero) xs (replicate (length vs) false) vs (filled ρ (length vs) Zero false refl) hx n)

  sound_bool : (b : Bit) (t : Bool) (o : ℕ) → Agree ρ b t → Agrees ρ (truth_of plain b o) (low o (one_if t))
  sound_bool b t o h = rw (map-id (truth o b)) (sound_truth ρ o b t h)

  lowest : Agree ρ (get_or xs 0 Zero) (odd (num vs))
  lowest = rw (odd_first vs) (first ρ xs vs hx)

  sound_one : (k : OneOp) (b o : ℕ) → fits_bits (sizes_one k) (length vs) b o ≡ true → Agrees ρ (one_of plain k xs o) (low o (means_one k (length vs) o (num vs)))
  sound_one Copy b o f = rw (low_num o (num vs) vs (eqb-true (length vs) o f) refl) hx
  sound_one ZeroExtend b o f = rw (low_fit o vs) (fitted ρ Zero false o xs vs refl hx)
  sound_one SignExtend b o f = sound_extend o (leb-true (length vs) o f)
  sound_one IntNot b o f = rw (map-id xs, map-id (map not_b xs), ← eqb-true (length vs) o f) (sound_flip ρ xs vs hx)
  sound_one IntNegate b o f = rw (map-id xs, map-id (ripple_bits Sub (replicate o Zero) xs), ← eqb-true (length vs) o f) sound_negate
  sound_one IntCountOnes b o f = rw (map-id xs) (sound_number ρ (count_ones xs) (ones_of (length vs) (num vs)) o (count_is ρ xs vs hx))
  sound_one IntCountLeadingZeroes b o f = rw (map-id xs) (sound_number ρ (leading_zeros xs) (zeros_of (length vs) (num vs)) o (lead_is ρ xs vs hx))
  sound_one BoolNot b o f = sound_bool (not_b (get_or xs 0 Zero)) (not (odd (num vs))) o (sound_not ρ (get_or xs 0 Zero) (odd (num vs)) lowest)

-- two operands
module _ (ρ : Valuation) (xs ys : List Bit) (vs ws : List Bool) (hx : Agrees ρ xs vs) (hy : Agrees ρ ys ws) where
  -- of one size
  sound_pair : (k : TwoOp) → length vs ≡ length ws → Agrees ρ (two_of plain k xs ys (length vs)) (low (length vs) (means_two k (length vs) (num vs) (num ws)))
  sound_pair IntAdd e = rw (map-id xs, map-id ys, map-id (ripple_bits Add xs ys)) (sound_ripple ρ Add xs ys vs ws hx hy e)
  sound_pair IntSub e = rw (map-id xs, map-id ys, map-id (ripple_bits Sub xs ys)) (sound_ripple ρ Sub xs ys vs ws hx hy e)
  sound_pair IntXor e = rw (map-id xs, map-id ys, map-id (zip_bits (logic_b Logic.Xor) xs ys)) (sound_logic ρ Logic.Xor xs ys vs ws hx hy e)
  sound_pair IntOr e = rw (map-id xs, map-id ys, map-id (zip_bits (logic_b Logic.Or) xs ys)) (sound_logic ρ Logic.Or xs ys vs ws hx hy e)
  sound_pair IntAnd e = rw (map-id xs, map-id ys, map-id (zip_bits (logic_b Logic.And) xs ys)) (sound_logic ρ Logic.And xs ys vs ws hx hy e)
  sound_pair IntMul e = sound_mul ρ (const_of (read_all plain xs)) (const_of (read_all plain ys)) xs ys vs ws (length vs)
      (rw (map-id xs) (const_num ρ xs vs hx)) (rw (map-id ys) (const_num ρ ys ws hy)) hx hy refl (sym e)

  sound_two : (k : TwoOp) (o : ℕ) → (eqb (length vs) o && eqb (length ws) o) ≡ true → Agrees ρ (two_of plain k xs ys o) (low o (means_two k (length vs) (num vs) (num ws)))
  sound_two k o f =
      let s = all_same (length vs) (length ws) o f in
      rw (← s.0) (sound_pair k (s.0 ∙ sym s.1))

  sound_moved : (k : ShiftOp) (o : ℕ) → eqb (length vs) o ≡ true → Agrees ρ (shift_bits plain k xs ys) (low o (means_shift k (length vs) (num vs) (num ws)))
  sound_moved IntLeft o f = rw (map-id ys, ← eqb-true (length vs) o f) (sound_left ρ xs ys vs ws hx hy)
  sound_moved IntRight o f = rw (map-id ys, ← eqb-true (length vs) o f) (sound_right ρ xs ys vs ws hx hy)
  sound_moved IntSignedRight o f = rw (map-id ys, ← eqb-true (length vs) o f) (sound_signed_right ρ xs ys vs ws hx hy)

  sound_compare : (k : CompareOp) → length vs ≡ length ws → Agree ρ (compare_b k xs ys) (means_compare k (length vs) (num vs) (num ws))
  sound_compare IntEqual e = sound_equal ρ xs ys vs ws hx hy e
  sound_compare IntNotEqual e = sound_not ρ (eq_bits xs ys) (eqb (num vs) (num ws)) (sound_equal ρ xs ys vs ws hx hy e)
  sound_compare IntLess e = sound_out ρ Sub xs ys vs ws hx hy e
  sound_compare IntSignedLess e = sound_signed_less ρ xs ys vs ws hx hy e
  sound_compare IntLessEqual e = sound_at_most ρ xs ys vs ws hx hy e
  sound_compare IntSignedLessEqual e = sound_signed_most ρ xs ys vs ws hx hy e
  sound_compare IntCarry e = sound_out ρ Add xs ys vs ws hx hy e
  sound_compare IntSignedCarry e = sound_signed_carry ρ xs ys vs ws hx hy e
  sound_compare IntSignedBorrow e = sound_signed_borrow ρ xs ys vs ws hx hy e

  sound_boolean : (k : BoolOp) → Agree ρ (bool_b k (get_or xs 0 Zero) (get_or ys 0 Zero)) (means_bool k (num vs) (num ws))
  sound_boolean BoolAnd = sound_and ρ (get_or xs 0 Zero) (get_or ys 0 Zero) (odd (num vs)) (odd (num ws)) (lowest ρ xs vs hx) (lowest ρ ys ws hy)
  sound_boolean BoolOr = sound_or ρ (get_or xs 0 Zero) (get_or ys 0 Zero) (odd (num vs)) (odd (num ws)) (lowest ρ xs vs hx) (lowest ρ ys ws hy)
  sound_boolean BoolXor = rw (odd_differ vs ws) (sound_xor ρ (get_or xs 0 Zero) (get_or ys 0 Zero) (get_or vs 0 false) (get_or ws 0 false) (first ρ xs vs hx) (first ρ ys ws hy))

pub never : {A : Type 0} → false ≡ true → A
never e = absurd (let z : ◌≡◌ {A = ℕ} 0 1 = cc in omega arith)

-- the theorem
pub sound : (op : Op) → computes op ≡ true → Sound op
unfolding meaning
sound (Subpiece k) e ρ a b old vs ws f hx hy = sound_subpiece ρ a vs hx k (length old)
sound (One k) e ρ a b old vs ws f hx hy =
    let n : length a ≡ length vs = same_length ρ a vs hx in
    rw n (sound_one ρ a vs hx k (length b) (length old) (rw n at f))
sound (Two k) e ρ a b old vs ws f hx hy =
    let n : length a ≡ length vs = same_length ρ a vs hx in
    let m : length b ≡ length ws = same_length ρ b ws hy in
    rw n (sound_two ρ a b vs ws hx hy k (length old) (rw (n, m) at f))
sound (Shift k) e ρ a b old vs ws f hx hy =
    let n : length a ≡ length vs = same_length ρ a vs hx in
    rw n (sound_moved ρ a b vs ws hx hy k (length old) (rw n at f))
sound (Compare k) e ρ a b old vs ws f hx hy =
    let n : length a ≡ length vs = same_length ρ a vs hx in
    let m : length b ≡ length ws = same_length ρ b ws hy in
    let s : length vs ≡ length ws = eqb-true (length vs) (length ws) (rw (n, m) at f) in
    rw (n, map-id a, map-id b)
    (sound_bool ρ a vs hx (compare_b k a b) (means_compare k (length vs) (num vs) (num ws)) (length old) (sound_compare ρ a b vs ws hx hy k s))
sound (BoolOf k) e ρ a b old vs ws f hx hy =
    sound_bool ρ a vs hx (bool_b k (get_or a 0 Zero) (get_or b 0 Zero)) (means_bool k (num vs) (num ws)) (length old) (sound_boolean ρ a b vs ws hx hy k)
sound (Trap t) e ρ a b old vs ws f hx hy = never e
sound InstructionMarker e ρ a b old vs ws f hx hy = never e
sound (PcodeLabel l) e ρ a b old vs ws f hx hy = never e
sound (PcodeBranch l) e ρ a b old vs ws f hx hy = never e
sound (Branch n) e ρ a b old vs ws f hx hy = never e
sound (Load n) e ρ a b old vs ws f hx hy = never e
sound (Store n) e ρ a b old vs ws f hx hy = never e
sound (Call k n) e ρ a b old vs ws f hx hy = never e
sound (Select n) e ρ a b old vs ws f hx hy = never e
sound (Opaque k) e ρ a b old vs ws f hx hy = never e
sound (Float k) e ρ a b old vs ws f hx hy = never e
sound (Divide k) e ρ a b old vs ws f hx hy = never e
sound (Rotate k) e ρ a b old vs ws f hx hy = never e
