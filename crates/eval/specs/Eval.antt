-- What each operation gives on symbolic bits, by 01's "Symbolic rules".
use Rattle.std.specs.Prelude.{Option, Some, None, Result, Ok, Err, ℕ, zero, suc, ◌*◌, List, map, length, drop, replicate, ◌==◌, nat_lt}
use Rattle.bit.specs.Bits.{pick, not_b, and_b, or_b, xor_b}
use Rattle.bit.specs.declared.Bit.{Bit}
use Rattle.bit.specs.declared.Bit.TheVariants.{Zero}
use Rattle.bit_vec.specs.declared.logic.Logic.TheVariants as Logic
use Rattle.bit_vec.specs.declared.ripple.Ripple.TheVariants.{Add, Sub}
use Rattle.bit_vec.specs.Lists.{logic_b, zip_bits, ripple_bits, last_place, add_overflow, sub_overflow, eq_bits}
use Rattle.bit_vec.specs.Moves.{fit, last_of, up, rotate_left, rotate_right, digits}
use Rattle.bit_vec.specs.Known.{const_of, count_ones, leading_zeros, trailing_zeros, left_of, right_of}
use Rattle.pcode.specs.declared.op.OneOp.{OneOp}
use Rattle.pcode.specs.declared.op.OneOp.TheVariants.{Copy, ZeroExtend, SignExtend, IntNot, IntNegate, IntCountOnes, IntCountLeadingZeroes, BoolNot}
use Rattle.pcode.specs.declared.op.TwoOp.{TwoOp}
use Rattle.pcode.specs.declared.op.TwoOp.TheVariants.{IntAdd, IntSub, IntXor, IntOr, IntAnd, IntMul}
use Rattle.pcode.specs.declared.op.ShiftOp.{ShiftOp}
use Rattle.pcode.specs.declared.op.ShiftOp.TheVariants.{IntLeft, IntRight, IntSignedRight}
use Rattle.pcode.specs.declared.op.RotateOp.{RotateOp}
use Rattle.pcode.specs.declared.op.RotateOp.TheVariants.{IntRotateLeft, IntRotateRight}
use Rattle.pcode.specs.declared.op.CompareOp.{CompareOp}
use Rattle.pcode.specs.declared.op.CompareOp.TheVariants.{IntEqual, IntNotEqual, IntLess, IntSignedLess, IntLessEqual, IntSignedLessEqual, IntCarry, IntSignedCarry, IntSignedBorrow}
use Rattle.pcode.specs.declared.op.BoolOp.{BoolOp}
use Rattle.pcode.specs.declared.op.BoolOp.TheVariants.{BoolAnd, BoolOr, BoolXor}
use Rattle.pcode.specs.declared.op.CallOp.{CallOp}
use Rattle.pcode.specs.declared.op.CallOp.TheVariants.{Arg, PcodeOp, Hook, HookIf, TracerLoad, TracerStore}
use Rattle.pcode.specs.declared.op.Op.{Op}
use Rattle.pcode.specs.declared.op.Op.TheVariants.{Trap, InstructionMarker, PcodeLabel, PcodeBranch, Branch, Load, Store, Call, Select, Subpiece, Opaque, Float, One, Two, Divide, Shift, Rotate, Compare, Bool as BoolOf}
use Rattle.pcode.specs.Rules.{size_rule}
use Rattle.eval.specs.declared.EvalError.{EvalError}
use Rattle.eval.specs.declared.EvalError.TheVariants.{RotateTooFar, BadSizes}
use Rattle.eval.specs.Held.{Held, read_all, write_all, zero_of, unknown_of, all_unknown, lowest_of, truth_of}
use Rattle.eval.specs.Sizes.{fits_bits}

-- a known number cut to n bits, else all unknown
abbrev pub number_or : {A : Type 0} → Held A → Option ℕ → ℕ → List A
number_or h (Some v) n = write_all h (digits n v)
number_or h None n = all_unknown h n

-- `Subpiece(k)`: from byte k on, cut to n bits, zero past the end
abbrev pub subpiece_of : {A : Type 0} → Held A → ℕ → List A → ℕ → List A
subpiece_of h k a n = fit (zero_of h) n (drop (8 * k) a)

-- one operand a, an output of n bits. Counting ones needs every bit known; leading zeros the bits down to the highest one, or all
abbrev pub one_of : {A : Type 0} → Held A → OneOp → List A → ℕ → List A
one_of h Copy a n = a
one_of h ZeroExtend a n = fit (zero_of h) n a
one_of h SignExtend a n = fit (last_of (zero_of h) a) n a
one_of h IntNot a n = write_all h (map not_b (read_all h a))
one_of h IntNegate a n = write_all h (ripple_bits Sub (replicate n Zero) (read_all h a))
one_of h IntCountOnes a n = number_or h (count_ones (read_all h a)) n
one_of h IntCountLeadingZeroes a n = number_or h (leading_zeros (read_all h a)) n
one_of h BoolNot a n = truth_of h (not_b (lowest_of h a)) n

-- by how many ones the known operand has: none, it is zero; one, it is a power of two; else unknown
abbrev pub mul_by_ones : {A : Type 0} → Held A → Option ℕ → ℕ → List A → ℕ → List A
mul_by_ones h (Some zero) k other n = replicate n (zero_of h)
mul_by_ones h (Some (suc zero)) k other n = up (zero_of h) k other
mul_by_ones h (Some (suc (suc m))) k other n = all_unknown h n
mul_by_ones h None k other n = all_unknown h n

-- one known zero, zero; one known power of two, left shift; else unknown
abbrev pub mul_known : {A : Type 0} → Held A → List A → List A → ℕ → List A
mul_known h known other n = mul_by_ones h (count_ones (read_all h known)) (trailing_zeros (read_all h known)) other n

-- by which operands are known
abbrev pub mul_by : {A : Type 0} → Held A → Option ℕ → Option ℕ → List A → List A → ℕ → List A
mul_by h (Some x) (Some y) a b n = write_all h (digits n (x * y))
mul_by h (Some x) None a b n = mul_known h a b n
mul_by h None (Some y) a b n = mul_known h b a n
mul_by h None None a b n = all_unknown h n

-- `IntMul`: both known, product, cut to n bits
abbrev pub mul_of : {A : Type 0} → Held A → List A → List A → ℕ → List A
mul_of h a b n = mul_by h (const_of (read_all h a)) (const_of (read_all h b)) a b n

-- two operands and an output of one size
abbrev pub two_of : {A : Type 0} → Held A → TwoOp → List A → List A → ℕ → List A
two_of h IntAdd a b n = write_all h (ripple_bits Add (read_all h a) (read_all h b))
two_of h IntSub a b n = write_all h (ripple_bits Sub (read_all h a) (read_all h b))
two_of h IntXor a b n = write_all h (zip_bits (logic_b Logic.Xor) (read_all h a) (read_all h b))
two_of h IntOr a b n = write_all h (zip_bits (logic_b Logic.Or) (read_all h a) (read_all h b))
two_of h IntAnd a b n = write_all h (zip_bits (logic_b Logic.And) (read_all h a) (read_all h b))
two_of h IntMul a b n = mul_of h a b n

-- a value a and an amount b
abbrev pub shift_bits : {A : Type 0} → Held A → ShiftOp → List A → List A → List A
shift_bits h IntLeft a b = left_of (zero_of h) (unknown_of h) a (read_all h b)
shift_bits h IntRight a b = right_of (zero_of h) (unknown_of h) a (read_all h b)
shift_bits h IntSignedRight a b = right_of (last_of (zero_of h) a) (unknown_of h) a (read_all h b)

-- what evaluating comes to: its answer, and the output's cells afterwards
pub record Outcome (A : Type 0) : Type 0 where
  pub answer : Result (Unit {0}) EvalError
  pub cells : List A

-- an answer without refusal
abbrev pub done : {A : Type 0} → List A → Outcome A
done xs = record { answer = Ok tt; cells = xs }

-- a rotate by s
abbrev pub turn_of : {A : Type 0} → RotateOp → ℕ → List A → List A
turn_of IntRotateLeft s a = rotate_left s a
turn_of IntRotateRight s a = rotate_right s a

-- s not known, all unknown; a known s above the width is refused
abbrev pub rotate_by : {A : Type 0} → Held A → RotateOp → Option ℕ → List A → List A → Outcome A
rotate_by h k (Some s) a old = pick (nat_lt (length a) s) (record { answer = Err RotateTooFar; cells = old }) (done (turn_of k s a))
rotate_by h k None a old = done (all_unknown h (length old))

-- by the amount, if it is known
abbrev pub rotate_of : {A : Type 0} → Held A → RotateOp → List A → List A → List A → Outcome A
rotate_of h k a b old = rotate_by h k (const_of (read_all h b)) a old

-- the difference's sign, exclusive or its overflow
abbrev pub signed_less : List Bit → List Bit → Bit
signed_less xs ys = xor_b (last_place Sub xs ys).digit (sub_overflow xs ys)

-- comparisons, carries, the borrow: less is the difference's borrow, less or equal is less, or equal
abbrev pub compare_b : CompareOp → List Bit → List Bit → Bit
compare_b IntEqual xs ys = eq_bits xs ys
compare_b IntNotEqual xs ys = not_b (eq_bits xs ys)
compare_b IntLess xs ys = (last_place Sub xs ys).carry
compare_b IntSignedLess xs ys = signed_less xs ys
compare_b IntLessEqual xs ys = or_b (last_place Sub xs ys).carry (eq_bits xs ys)
compare_b IntSignedLessEqual xs ys = or_b (signed_less xs ys) (eq_bits xs ys)
compare_b IntCarry xs ys = (last_place Add xs ys).carry
compare_b IntSignedCarry xs ys = add_overflow xs ys
compare_b IntSignedBorrow xs ys = sub_overflow xs ys

-- on bit 0 of each operand
abbrev pub bool_b : BoolOp → Bit → Bit → Bit
bool_b BoolAnd x y = and_b x y
bool_b BoolOr x y = or_b x y
bool_b BoolXor x y = xor_b x y

-- `Arg` and `TracerStore` leave the output alone; `PcodeOp`, hooks and loads: all unknown
abbrev pub call_of : {A : Type 0} → Held A → CallOp → List A → List A
call_of h Arg old = old
call_of h PcodeOp old = all_unknown h (length old)
call_of h Hook old = all_unknown h (length old)
call_of h HookIf old = all_unknown h (length old)
call_of h TracerLoad old = all_unknown h (length old)
call_of h TracerStore old = old

-- an operation whose sizes are right, on operands a and b; `old` is the output before.
-- Divisions, floats, `Select`, loads, `PcodeOp`, hooks, `MultiEqual` and `Indirect`: all unknown
abbrev pub family_of : {A : Type 0} → Held A → Op → List A → List A → List A → Outcome A
family_of h (Trap t) a b old = done old
family_of h InstructionMarker a b old = done old
family_of h (PcodeLabel l) a b old = done old
family_of h (PcodeBranch l) a b old = done old
family_of h (Branch n) a b old = done old
family_of h (Load n) a b old = done (all_unknown h (length old))
family_of h (Store n) a b old = done old
family_of h (Call k n) a b old = done (call_of h k old)
family_of h (Select n) a b old = done (all_unknown h (length old))
family_of h (Subpiece k) a b old = done (subpiece_of h k a (length old))
family_of h (Opaque k) a b old = done (all_unknown h (length old))
family_of h (Float k) a b old = done (all_unknown h (length old))
family_of h (One k) a b old = done (one_of h k a (length old))
family_of h (Two k) a b old = done (two_of h k a b (length old))
family_of h (Divide k) a b old = done (all_unknown h (length old))
family_of h (Shift k) a b old = done (shift_bits h k a b)
family_of h (Rotate k) a b old = rotate_of h k a b old
family_of h (Compare k) a b old = done (truth_of h (compare_b k (read_all h a) (read_all h b)) (length old))
family_of h (BoolOf k) a b old = done (truth_of h (bool_b k (lowest_of h a) (lowest_of h b)) (length old))

-- without an output nothing is evaluated; sizes that break the operation's rule are refused, with the output left alone
abbrev pub outcome_of : {A : Type 0} → Held A → Op → List A → List A → List A → Outcome A
outcome_of h op a b old =
    pick (length old == 0)
    (done old)
    (pick (fits_bits (size_rule op) (length a) (length b) (length old))
    (family_of h op a b old)
    (record { answer = Err BadSizes; cells = old }))
