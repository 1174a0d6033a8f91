-- What an operation means: the P-code reference and 01's "Meaning of an operation", on numbers. Widths are in bits; w is an operand's
-- width, o the output's; a and b are the operands, each below two to its width.
use Rattle.std.specs.Prelude.{ℕ, zero, suc, ◌+◌, ◌-◌, ◌*◌, ◌/◌, ◌%◌, ◌^◌, Bool, true, false, not, ◌&&◌, ◌||◌, eqb, ltb, leb, ℤ, pos, negsuc, ◌+ℤ◌, ◌-ℤ◌}
use Rattle.std.specs.Int.Bits.{bit_and, bit_or, bit_xor}
use Rattle.std.specs.Int.Signed.{lt_z, le_z, mag}
use Rattle.pcode.specs.Var.{pick}
use Rattle.pcode.specs.declared.op.OneOp.{OneOp}
use Rattle.pcode.specs.declared.op.OneOp.TheVariants.{Copy, ZeroExtend, SignExtend, IntNot, IntNegate, IntCountOnes, IntCountLeadingZeroes, BoolNot}
use Rattle.pcode.specs.declared.op.TwoOp.{TwoOp}
use Rattle.pcode.specs.declared.op.TwoOp.TheVariants.{IntAdd, IntSub, IntXor, IntOr, IntAnd, IntMul}
use Rattle.pcode.specs.declared.op.ShiftOp.{ShiftOp}
use Rattle.pcode.specs.declared.op.ShiftOp.TheVariants.{IntLeft, IntRight, IntSignedRight}
use Rattle.pcode.specs.declared.op.CompareOp.{CompareOp}
use Rattle.pcode.specs.declared.op.CompareOp.TheVariants.{IntEqual, IntNotEqual, IntLess, IntSignedLess, IntLessEqual, IntSignedLessEqual, IntCarry, IntSignedCarry, IntSignedBorrow}
use Rattle.pcode.specs.declared.op.BoolOp.{BoolOp}
use Rattle.pcode.specs.declared.op.BoolOp.TheVariants.{BoolAnd, BoolOr, BoolXor}
use Rattle.pcode.specs.declared.op.Op.{Op}
use Rattle.pcode.specs.declared.op.Op.TheVariants.{Trap, InstructionMarker, PcodeLabel, PcodeBranch, Branch, Load, Store, Call, Select, Subpiece, Opaque, Float, One, Two, Divide, Shift, Rotate, Compare, Bool as BoolOf}

-- a truth value as a number: bit 0, the rest zero
abbrev pub one_if : Bool → ℕ
one_if true = 1
one_if false = 0

-- bit 0 of a number
abbrev pub odd : ℕ → Bool
odd a = eqb (a % 2) 1

-- the sign of a number of w bits: its highest bit
abbrev pub sign : ℕ → ℕ → Bool
sign w a = leb (2 ^ w) (2 * a)

-- two's complement: the integer that w bits stand for
unfoldable pub signed : ℕ → ℕ → ℤ
signed w a = pick (sign w a) (negsuc (2 ^ w - 1 - a)) (pos a)

-- an integer has a two's complement of w bits
abbrev pub in_range : ℕ → ℤ → Bool
in_range w z = ltb (2 * mag z) (2 ^ w)

-- how many of the lowest w bits are one
unfoldable pub count_ones : ℕ → ℕ → ℕ
count_ones zero a = 0
count_ones (suc w) a = a % 2 + count_ones w (a / 2)

-- how many zeros stand above the highest one, of w bits
unfoldable pub leading_zeros : ℕ → ℕ → ℕ
leading_zeros zero a = 0
leading_zeros (suc w) a = pick (leb (2 ^ w) a) 0 (suc (leading_zeros w a))

-- IntNegate is zero minus a, IntNot flips bits; counts are cut to the output
abbrev pub means_one : OneOp → ℕ → ℕ → ℕ → ℕ
means_one Copy w o a = a
means_one ZeroExtend w o a = a
means_one SignExtend w o a = pick (sign w a) (a + (2 ^ o - 2 ^ w)) a
means_one IntNot w o a = 2 ^ w - 1 - a
means_one IntNegate w o a = (2 ^ w - a) % 2 ^ w
means_one IntCountOnes w o a = count_ones w a % 2 ^ o
means_one IntCountLeadingZeroes w o a = leading_zeros w a % 2 ^ o
means_one BoolNot w o a = one_if (not (odd a))

-- add, sub and mul wrap at the width
abbrev pub means_two : TwoOp → ℕ → ℕ → ℕ → ℕ
means_two IntAdd w a b = (a + b) % 2 ^ w
means_two IntSub w a b = (a + (2 ^ w - b)) % 2 ^ w
means_two IntXor w a b = bit_xor a b
means_two IntOr w a b = bit_or a b
means_two IntAnd w a b = bit_and a b
means_two IntMul w a b = (a * b) % 2 ^ w

-- shifts are a product or a quotient by a power of two; by the width or more they give zero
abbrev pub shift_left : ℕ → ℕ → ℕ → ℕ
shift_left w a b = pick (leb w b) 0 ((a * 2 ^ b) % 2 ^ w)

-- right by the width or more gives zero
abbrev pub shift_right : ℕ → ℕ → ℕ → ℕ
shift_right w a b = pick (leb w b) 0 (a / 2 ^ b)

-- a signed right shift of a negative number flips the bits, shifts, and flips them back: the sign comes in from above
abbrev pub means_shift : ShiftOp → ℕ → ℕ → ℕ → ℕ
means_shift IntLeft w a b = shift_left w a b
means_shift IntRight w a b = shift_right w a b
means_shift IntSignedRight w a b = pick (sign w a) (2 ^ w - 1 - shift_right w (2 ^ w - 1 - a) b) (shift_right w a b)

-- comparisons, carries and the borrow, by their numbers; signed ones by two's complement
abbrev pub means_compare : CompareOp → ℕ → ℕ → ℕ → Bool
means_compare IntEqual w a b = eqb a b
means_compare IntNotEqual w a b = not (eqb a b)
means_compare IntLess w a b = ltb a b
means_compare IntSignedLess w a b = lt_z (signed w a) (signed w b)
means_compare IntLessEqual w a b = leb a b
means_compare IntSignedLessEqual w a b = le_z (signed w a) (signed w b)
means_compare IntCarry w a b = leb (2 ^ w) (a + b)
means_compare IntSignedCarry w a b = not (in_range w (signed w a +ℤ signed w b))
means_compare IntSignedBorrow w a b = not (in_range w (signed w a -ℤ signed w b))

-- boolean operations use bit 0 of each operand
abbrev pub means_bool : BoolOp → ℕ → ℕ → Bool
means_bool BoolAnd a b = odd a && odd b
means_bool BoolOr a b = odd a || odd b
means_bool BoolXor a b = not (eqb (a % 2) (b % 2))

-- what an operation gives for operands a of w bits and b, in an output of o bits; 0 for operations that give nothing by themselves
unfoldable pub meaning : Op → ℕ → ℕ → ℕ → ℕ → ℕ
meaning (Trap t) w o a b = 0
meaning InstructionMarker w o a b = 0
meaning (PcodeLabel l) w o a b = 0
meaning (PcodeBranch l) w o a b = 0
meaning (Branch n) w o a b = 0
meaning (Load n) w o a b = 0
meaning (Store n) w o a b = 0
meaning (Call k n) w o a b = 0
meaning (Select n) w o a b = 0
meaning (Subpiece k) w o a b = (a / 2 ^ (8 * k)) % 2 ^ o
meaning (Opaque k) w o a b = 0
meaning (Float k) w o a b = 0
meaning (One k) w o a b = means_one k w o a
meaning (Two k) w o a b = means_two k w a b
meaning (Divide k) w o a b = 0
meaning (Shift k) w o a b = means_shift k w a b
meaning (Rotate k) w o a b = 0
meaning (Compare k) w o a b = one_if (means_compare k w a b)
meaning (BoolOf k) w o a b = one_if (means_bool k a b)
