-- Worked examples of what an operation means, computed: the drive's position past 32,767 among them.
use Rattle.std.specs.Prelude.{◌≡◌, refl}
use Rattle.pcode.specs.declared.op.OneOp.TheVariants.{SignExtend, IntNegate, IntCountLeadingZeroes}
use Rattle.pcode.specs.declared.op.TwoOp.TheVariants.{IntAdd, IntSub}
use Rattle.pcode.specs.declared.op.ShiftOp.TheVariants.{IntLeft, IntSignedRight}
use Rattle.pcode.specs.declared.op.CompareOp.TheVariants.{IntSignedLess, IntLess, IntSignedCarry, IntSignedBorrow}
use Rattle.pcode.specs.declared.op.Op.TheVariants.{Subpiece, One, Two, Shift, Compare}
use Rattle.meaning.specs.Meaning.{meaning, signed, leading_zeros}

open_door : meaning (Two IntAdd) 16 16 32767 1 ≡ 32768
unfolding meaning
open_door = refl

signed_less_lem : meaning (Compare IntSignedLess) 16 8 32768 0 ≡ 1
unfolding meaning signed
signed_less_lem = refl

unsigned_less : meaning (Compare IntLess) 16 8 32768 0 ≡ 0
unfolding meaning
unsigned_less = refl

overflows : meaning (Compare IntSignedCarry) 16 8 32767 1 ≡ 1
unfolding meaning signed
overflows = refl

stays_in_range : meaning (Compare IntSignedBorrow) 16 8 32768 65535 ≡ 0
unfolding meaning signed
stays_in_range = refl

wraps : meaning (Two IntSub) 16 16 0 1 ≡ 65535
unfolding meaning
wraps = refl

negated : meaning (One IntNegate) 8 8 1 0 ≡ 255
unfolding meaning
negated = refl

extended : meaning (One SignExtend) 8 16 128 0 ≡ 65408
unfolding meaning
extended = refl

piece : meaning (Subpiece 1) 32 8 305419896 0 ≡ 86
unfolding meaning
piece = refl

sign_comes_in : meaning (Shift IntSignedRight) 8 8 128 3 ≡ 240
unfolding meaning
sign_comes_in = refl

past_the_width : meaning (Shift IntLeft) 8 8 255 8 ≡ 0
unfolding meaning
past_the_width = refl

zeros_above_lem : meaning (One IntCountLeadingZeroes) 16 8 256 0 ≡ 7
unfolding meaning leading_zeros
zeros_above_lem = refl
