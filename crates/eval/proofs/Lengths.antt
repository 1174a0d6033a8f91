-- Evaluating keeps the output's length, whatever holds the bits. Assumes nothing.
use Rattle.std.proofs.Common.{Option, Some, None, Err, ◌≡◌, ℕ, zero, suc, ◌-◌, ◌*◌, ◌≤◌, Bool, true, false, eqb, ltb, List, length, replicate, sym, refl, ◌∙◌, arith, ltb-false, eqb-true}
use lib.ListN.{length-replicate, length-map}
use Rattle.bit.specs.Bits.{pick}
use Rattle.bit.specs.declared.Bit.{Bit}
use Rattle.bit.specs.declared.Bit.TheVariants.{Zero}
use Rattle.bit_vec.specs.declared.ripple.Ripple.{Ripple}
use Rattle.bit_vec.specs.declared.ripple.Ripple.TheVariants.{Add, Sub}
use Rattle.bit_vec.specs.declared.logic.Logic.{Logic}
use Rattle.bit_vec.specs.declared.logic.Logic.TheVariants as Logics
use Rattle.bit_vec.specs.Lists.{logic_b, each, still, digit_b, carry_b, zip_bits, ripple_bits}
use Rattle.bit_vec.specs.Moves.{up, down, last_of, digits, truth}
use Rattle.bit_vec.specs.Known.{const_of, count_ones, leading_zeros, trailing_zeros}
use Rattle.bit_vec.proofs.Moved.{length_fit, length_digits}
use Rattle.bit_vec.proofs.Lengths.{length_scan, length_up, length_down, length_rotate, length_shift, length_truth}
use Rattle.pcode.specs.declared.op.OneOp.{OneOp}
use Rattle.pcode.specs.declared.op.OneOp.TheVariants.{Copy, ZeroExtend, SignExtend, IntNot, IntNegate, IntCountOnes, IntCountLeadingZeroes, BoolNot}
use Rattle.pcode.specs.declared.op.TwoOp.{TwoOp}
use Rattle.pcode.specs.declared.op.TwoOp.TheVariants.{IntAdd, IntSub, IntXor, IntOr, IntAnd, IntMul}
use Rattle.pcode.specs.declared.op.ShiftOp.{ShiftOp}
use Rattle.pcode.specs.declared.op.ShiftOp.TheVariants.{IntLeft, IntRight, IntSignedRight}
use Rattle.pcode.specs.declared.op.RotateOp.{RotateOp}
use Rattle.pcode.specs.declared.op.RotateOp.TheVariants.{IntRotateLeft, IntRotateRight}
use Rattle.pcode.specs.declared.op.CallOp.{CallOp}
use Rattle.pcode.specs.declared.op.CallOp.TheVariants.{Arg, PcodeOp, Hook, HookIf, TracerLoad, TracerStore}
use Rattle.pcode.specs.declared.op.Op.{Op}
use Rattle.pcode.specs.declared.op.Op.TheVariants.{Trap, InstructionMarker, PcodeLabel, PcodeBranch, Branch, Load, Store, Call, Select, Subpiece, Opaque, Float, One, Two, Divide, Shift, Rotate, Compare, Bool as BoolOf}
use Rattle.pcode.specs.Rules.{sizes_one, size_rule}
use Rattle.eval.specs.declared.EvalError.TheVariants.{BadSizes, RotateTooFar}
use Rattle.eval.specs.Held.{Held, read_all, write_all, zero_of, unknown_of, truth_of}
use Rattle.eval.specs.Sizes.{fits_bits}
use Rattle.eval.specs.Eval.{number_or, one_of, mul_by_ones, mul_known, mul_by, two_of, shift_bits, turn_of, rotate_by, call_of, done, family_of, outcome_of}
use Rattle.eval.proofs.Laws.{all_same}
use Rattle.eval.proofs.Products.{trailing_within}

module _ {A : Type 0} (h : Held A) where
  all : (n : ℕ) → length (replicate n (unknown_of h)) ≡ n
  all n = length-replicate n (unknown_of h)

  read_length : (a : List A) → length (read_all h a) ≡ length a
  read_length a = length-map a h.read

  truths : (b : Bit) (n : ℕ) → length (truth_of h b n) ≡ n
  truths b n = length-map (truth n b) h.write ∙ length_truth n b

  numbers : (c : Option ℕ) (n : ℕ) → length (number_or h c n) ≡ n
  numbers (Some v) n = length-map (digits n v) h.write ∙ length_digits n v
  numbers None n = all n

  ripples : (op : Ripple) (xs ys : List Bit) (n : ℕ) → length xs ≡ n → length ys ≡ n → length (write_all h (ripple_bits op xs ys)) ≡ n
  ripples op xs ys n p q = length-map (ripple_bits op xs ys) h.write ∙ length_scan digit_b (carry_b op) Zero xs ys (p ∙ sym q) ∙ p

  logics : (op : Logic) (xs ys : List Bit) (n : ℕ) → length xs ≡ n → length ys ≡ n → length (write_all h (zip_bits (logic_b op) xs ys)) ≡ n
  logics op xs ys n p q = length-map (zip_bits (logic_b op) xs ys) h.write ∙ length_scan (each (logic_b op)) still tt xs ys (p ∙ sym q) ∙ p

  ones : (k : OneOp) (a : List A) (b n : ℕ) → fits_bits (sizes_one k) (length a) b n ≡ true → length (one_of h k a n) ≡ n
  ones Copy a b n f = eqb-true _ _ f
  ones ZeroExtend a b n f = length_fit (zero_of h) n a
  ones SignExtend a b n f = length_fit (last_of (zero_of h) a) n a
  ones IntNot a b n f = simp length-map (eqb-true _ _ f)
  ones IntNegate a b n f = ripples Sub (replicate n Zero) (read_all h a) n (length-replicate n Zero) (read_length a ∙ eqb-true _ _ f)
  ones IntCountOnes a b n f = numbers (count_ones (read_all h a)) n
  ones IntCountLeadingZeroes a b n f = numbers (leading_zeros (read_all h a)) n
  ones BoolNot a b n f = truths _ n

  by_ones : (c : Option ℕ) (k : ℕ) (other : List A) (n : ℕ) → k ≤ n → length other ≡ n → length (mul_by_ones h c k other n) ≡ n
  by_ones (Some zero) k other n l e = length-replicate n (zero_of h)
  by_ones (Some (suc zero)) k other n l e = length_up (zero_of h) k other (omega arith) ∙ e
  by_ones (Some (suc (suc m))) k other n l e = all n
  by_ones None k other n l e = all n

  knowns : (known other : List A) (n : ℕ) → length known ≡ n → length other ≡ n → length (mul_known h known other n) ≡ n
  knowns known other n p q =
      by_ones (count_ones (read_all h known)) (trailing_zeros (read_all h known)) other n (omega (arith, trailing_within (read_all h known), read_length known)) q

  muls : (c d : Option ℕ) (a b : List A) (n : ℕ) → length a ≡ n → length b ≡ n → length (mul_by h c d a b n) ≡ n
  muls (Some x) (Some y) a b n p q = length-map (digits n (x * y)) h.write ∙ length_digits n (x * y)
  muls (Some x) None a b n p q = knowns a b n p q
  muls None (Some y) a b n p q = knowns b a n q p
  muls None None a b n p q = all n

  twos : (k : TwoOp) (a b : List A) (n : ℕ) → (length a ≡ n) × (length b ≡ n) → length (two_of h k a b n) ≡ n
  twos IntAdd a b n s = ripples Add (read_all h a) (read_all h b) n (read_length a ∙ s.0) (read_length b ∙ s.1)
  twos IntSub a b n s = ripples Sub (read_all h a) (read_all h b) n (read_length a ∙ s.0) (read_length b ∙ s.1)
  twos IntXor a b n s = logics Logics.Xor (read_all h a) (read_all h b) n (read_length a ∙ s.0) (read_length b ∙ s.1)
  twos IntOr a b n s = logics Logics.Or (read_all h a) (read_all h b) n (read_length a ∙ s.0) (read_length b ∙ s.1)
  twos IntAnd a b n s = logics Logics.And (read_all h a) (read_all h b) n (read_length a ∙ s.0) (read_length b ∙ s.1)
  twos IntMul a b n s = muls (const_of (read_all h a)) (const_of (read_all h b)) a b n s.0 s.1

  shifts : (k : ShiftOp) (a b : List A) → length (shift_bits h k a b) ≡ length a
  shifts IntLeft a b = length_shift (up (zero_of h)) (zero_of h) (unknown_of h) (length_up (zero_of h)) a (read_all h b)
  shifts IntRight a b = length_shift (down (zero_of h)) (zero_of h) (unknown_of h) (length_down (zero_of h)) a (read_all h b)
  shifts IntSignedRight a b = length_shift (down (last_of (zero_of h) a)) (last_of (zero_of h) a) (unknown_of h) (length_down (last_of (zero_of h) a)) a (read_all h b)

  turns : (k : RotateOp) (s : ℕ) (a : List A) → s ≤ length a → length (turn_of k s a) ≡ length a
  turns IntRotateLeft s a l = length_rotate s a l
  turns IntRotateRight s a l = length_rotate (length a - s) a (omega arith)

  rotates : (k : RotateOp) (c : Option ℕ) (a old : List A) → length a ≡ length old → length (rotate_by h k c a old).cells ≡ length old
  rotates k (Some s) a old e = go (ltb (length a) s) refl
    where
      go : (t : Bool) → ltb (length a) s ≡ t → length (pick t (record { answer = Err RotateTooFar; cells = old }) (done (turn_of k s a))).cells ≡ length old
      go true p = refl
      go false p = turns k s a (ltb-false (length a) s p) ∙ e
  rotates k None a old e = all (length old)

  calls : (k : CallOp) (old : List A) → length (call_of h k old) ≡ length old
  calls Arg old = refl
  calls PcodeOp old = all (length old)
  calls Hook old = all (length old)
  calls HookIf old = all (length old)
  calls TracerLoad old = all (length old)
  calls TracerStore old = refl

  families : (op : Op) (a b old : List A) → fits_bits (size_rule op) (length a) (length b) (length old) ≡ true → length (family_of h op a b old).cells ≡ length old
  families (Trap t) a b old f = refl
  families InstructionMarker a b old f = refl
  families (PcodeLabel l) a b old f = refl
  families (PcodeBranch l) a b old f = refl
  families (Branch n) a b old f = refl
  families (Load n) a b old f = all (length old)
  families (Store n) a b old f = refl
  families (Call k n) a b old f = calls k old
  families (Select n) a b old f = all (length old)
  families (Subpiece k) a b old f = length_fit (zero_of h) (length old) _
  families (Opaque k) a b old f = all (length old)
  families (Float k) a b old f = all (length old)
  families (One k) a b old f = ones k a (length b) (length old) f
  families (Two k) a b old f = twos k a b (length old) (all_same _ _ _ f)
  families (Divide k) a b old f = all (length old)
  families (Shift k) a b old f = shifts k a b ∙ eqb-true _ _ f
  families (Rotate k) a b old f = rotates k (const_of (read_all h b)) a old (eqb-true _ _ f)
  families (Compare k) a b old f = truths _ (length old)
  families (BoolOf k) a b old f = truths _ (length old)

  -- the output is as long as before, whatever the operation and the answer
  pub length_outcome : (op : Op) (a b old : List A) → length (outcome_of h op a b old).cells ≡ length old
  length_outcome op a b old = go (eqb (length old) 0) (fits_bits (size_rule op) (length a) (length b) (length old)) refl
    where
      go : (s t : Bool) → fits_bits (size_rule op) (length a) (length b) (length old) ≡ t
          → length (pick s (done old) (pick t (family_of h op a b old) (record { answer = Err BadSizes; cells = old }))).cells ≡ length old
      go true t p = refl
      go false true p = families op a b old p
      go false false p = refl
