-- Operations and codes: an operation is the one with its code and number, and the one with a code has that code.
use Rattle.std.proofs.Common.{Option, None, Some, ℕ, zero, suc, ◌+◌, ◌-◌, ◌<◌, ◌≤◌, arith, not-suc-le-zero, le_of_suc-le-suc, eq-or-lt_of_le, ◌≡◌, refl, sym, ap, subst, ◌∙◌, ◌⊎◌, inl, inr, Bool, true, false, eqb-true, leb-true, eqb, ltb}
use Rattle.pcode.specs.Names.{code_of, number_of, op_of, takes_number}
use Rattle.pcode.specs.declared.op.OneOp.{OneOp}
use Rattle.pcode.specs.declared.op.OneOp.TheVariants.{Copy, ZeroExtend, SignExtend, IntNot, IntNegate, IntCountOnes, IntCountLeadingZeroes, BoolNot}
use Rattle.pcode.specs.declared.op.TwoOp.{TwoOp}
use Rattle.pcode.specs.declared.op.TwoOp.TheVariants.{IntAdd, IntSub, IntXor, IntOr, IntAnd, IntMul}
use Rattle.pcode.specs.declared.op.DivideOp.{DivideOp}
use Rattle.pcode.specs.declared.op.DivideOp.TheVariants.{IntDiv, IntSignedDiv, IntRem, IntSignedRem}
use Rattle.pcode.specs.declared.op.ShiftOp.{ShiftOp}
use Rattle.pcode.specs.declared.op.ShiftOp.TheVariants.{IntLeft, IntRight, IntSignedRight}
use Rattle.pcode.specs.declared.op.RotateOp.{RotateOp}
use Rattle.pcode.specs.declared.op.RotateOp.TheVariants.{IntRotateLeft, IntRotateRight}
use Rattle.pcode.specs.declared.op.CompareOp.{CompareOp}
use Rattle.pcode.specs.declared.op.CompareOp.TheVariants.{IntEqual, IntNotEqual, IntLess, IntSignedLess, IntLessEqual, IntSignedLessEqual, IntCarry, IntSignedCarry, IntSignedBorrow}
use Rattle.pcode.specs.declared.op.BoolOp.{BoolOp}
use Rattle.pcode.specs.declared.op.BoolOp.TheVariants.{BoolAnd, BoolOr, BoolXor}
use Rattle.pcode.specs.declared.op.FloatOp.{FloatOp}
use Rattle.pcode.specs.declared.op.FloatOp.TheVariants.{FloatAdd, FloatSub, FloatMul, FloatDiv, FloatNegate, FloatAbs, FloatSqrt, FloatCeil, FloatFloor, FloatRound, FloatIsNan, FloatEqual, FloatNotEqual, FloatLess, FloatLessEqual}
use Rattle.pcode.specs.declared.op.OpaqueOp.{OpaqueOp}
use Rattle.pcode.specs.declared.op.OpaqueOp.TheVariants.{IntToFloat, UintToFloat, FloatToFloat, FloatToInt, MultiEqual, Indirect}
use Rattle.pcode.specs.declared.op.TrapOp.{TrapOp}
use Rattle.pcode.specs.declared.op.TrapOp.TheVariants.{Invalid, Exception}
use Rattle.pcode.specs.declared.op.CallOp.{CallOp}
use Rattle.pcode.specs.declared.op.CallOp.TheVariants.{Arg, PcodeOp, Hook, HookIf, TracerLoad, TracerStore}
use Rattle.pcode.specs.declared.op.Op.{Op}
use Rattle.pcode.specs.declared.op.Op.TheVariants.{Trap, InstructionMarker, PcodeLabel, PcodeBranch, Branch, Load, Store, Call, Select, Subpiece, Opaque, Float, One, Two, Divide, Shift, Rotate, Compare, Bool as BoolOf}
use Rattle.roundtrip.proofs.Names.{every, every_at}

-- the number that is read for an operation: 0 where it has none
abbrev pub value_in : Option ℕ → ℕ
value_in None = 0
value_in (Some n) = n

abbrev pub has : Option ℕ → Bool
has None = false
has (Some n) = true

-- an operation is the one with its code and number, and has a number just where its code takes one
pub record Coded (op : Op) : Type 0 where
  pub below : ltb (code_of op) 72 ≡ true
  pub same : op_of (code_of op) (value_in (number_of op)) ≡ op
  pub takes : takes_number (code_of op) ≡ has (number_of op)

one_coded : (k : OneOp) → Coded (One k)
unfolding op_of
one_coded Copy = record { below = refl; same = refl; takes = refl }
one_coded ZeroExtend = record { below = refl; same = refl; takes = refl }
one_coded SignExtend = record { below = refl; same = refl; takes = refl }
one_coded IntNot = record { below = refl; same = refl; takes = refl }
one_coded IntNegate = record { below = refl; same = refl; takes = refl }
one_coded IntCountOnes = record { below = refl; same = refl; takes = refl }
one_coded IntCountLeadingZeroes = record { below = refl; same = refl; takes = refl }
one_coded BoolNot = record { below = refl; same = refl; takes = refl }

two_coded : (k : TwoOp) → Coded (Two k)
unfolding op_of
two_coded IntAdd = record { below = refl; same = refl; takes = refl }
two_coded IntSub = record { below = refl; same = refl; takes = refl }
two_coded IntXor = record { below = refl; same = refl; takes = refl }
two_coded IntOr = record { below = refl; same = refl; takes = refl }
two_coded IntAnd = record { below = refl; same = refl; takes = refl }
two_coded IntMul = record { below = refl; same = refl; takes = refl }

divide_coded : (k : DivideOp) → Coded (Divide k)
unfolding op_of
divide_coded IntDiv = record { below = refl; same = refl; takes = refl }
divide_coded IntSignedDiv = record { below = refl; same = refl; takes = refl }
divide_coded IntRem = record { below = refl; same = refl; takes = refl }
divide_coded IntSignedRem = record { below = refl; same = refl; takes = refl }

shift_coded : (k : ShiftOp) → Coded (Shift k)
unfolding op_of
shift_coded IntLeft = record { below = refl; same = refl; takes = refl }
shift_coded IntRight = record { below = refl; same = refl; takes = refl }
shift_coded IntSignedRight = record { below = refl; same = refl; takes = refl }

rotate_coded : (k : RotateOp) → Coded (Rotate k)
unfolding op_of
rotate_coded IntRotateLeft = record { below = refl; same = refl; takes = refl }
rotate_coded IntRotateRight = record { below = refl; same = refl; takes = refl }

compare_coded : (k : CompareOp) → Coded (Compare k)
unfolding op_of
compare_coded IntEqual = record { below = refl; same = refl; takes = refl }
compare_coded IntNotEqual = record { below = refl; same = refl; takes = refl }
compare_coded IntLess = record { below = refl; same = refl; takes = refl }
compare_coded IntSignedLess = record { below = refl; same = refl; takes = refl }
compare_coded IntLessEqual = record { below = refl; same = refl; takes = refl }
compare_coded IntSignedLessEqual = record { below = refl; same = refl; takes = refl }
compare_coded IntCarry = record { below = refl; same = refl; takes = refl }
compare_coded IntSignedCarry = record { below = refl; same = refl; takes = refl }
compare_coded IntSignedBorrow = record { below = refl; same = refl; takes = refl }

bool_coded : (k : BoolOp) → Coded (BoolOf k)
unfolding op_of
bool_coded BoolAnd = record { below = refl; same = refl; takes = refl }
bool_coded BoolOr = record { below = refl; same = refl; takes = refl }
bool_coded BoolXor = record { below = refl; same = refl; takes = refl }

float_coded : (k : FloatOp) → Coded (Float k)
unfolding op_of
float_coded FloatAdd = record { below = refl; same = refl; takes = refl }
float_coded FloatSub = record { below = refl; same = refl; takes = refl }
float_coded FloatMul = record { below = refl; same = refl; takes = refl }
float_coded FloatDiv = record { below = refl; same = refl; takes = refl }
float_coded FloatNegate = record { below = refl; same = refl; takes = refl }
float_coded FloatAbs = record { below = refl; same = refl; takes = refl }
float_coded FloatSqrt = record { below = refl; same = refl; takes = refl }
float_coded FloatCeil = record { below = refl; same = refl; takes = refl }
float_coded FloatFloor = record { below = refl; same = refl; takes = refl }
float_coded FloatRound = record { below = refl; same = refl; takes = refl }
float_coded FloatIsNan = record { below = refl; same = refl; takes = refl }
float_coded FloatEqual = record { below = refl; same = refl; takes = refl }
float_coded FloatNotEqual = record { below = refl; same = refl; takes = refl }
float_coded FloatLess = record { below = refl; same = refl; takes = refl }
float_coded FloatLessEqual = record { below = refl; same = refl; takes = refl }

opaque_coded : (k : OpaqueOp) → Coded (Opaque k)
unfolding op_of
opaque_coded IntToFloat = record { below = refl; same = refl; takes = refl }
opaque_coded UintToFloat = record { below = refl; same = refl; takes = refl }
opaque_coded FloatToFloat = record { below = refl; same = refl; takes = refl }
opaque_coded FloatToInt = record { below = refl; same = refl; takes = refl }
opaque_coded MultiEqual = record { below = refl; same = refl; takes = refl }
opaque_coded Indirect = record { below = refl; same = refl; takes = refl }

trap_coded : (k : TrapOp) → Coded (Trap k)
unfolding op_of
trap_coded Invalid = record { below = refl; same = refl; takes = refl }
trap_coded Exception = record { below = refl; same = refl; takes = refl }

call_coded : (k : CallOp) (n : ℕ) → Coded (Call k n)
unfolding op_of
call_coded Arg n = record { below = refl; same = refl; takes = refl }
call_coded PcodeOp n = record { below = refl; same = refl; takes = refl }
call_coded Hook n = record { below = refl; same = refl; takes = refl }
call_coded HookIf n = record { below = refl; same = refl; takes = refl }
call_coded TracerLoad n = record { below = refl; same = refl; takes = refl }
call_coded TracerStore n = record { below = refl; same = refl; takes = refl }

pub op_coded : (op : Op) → Coded op
unfolding op_of
op_coded (Trap k) = trap_coded k
op_coded InstructionMarker = record { below = refl; same = refl; takes = refl }
op_coded (PcodeLabel n) = record { below = refl; same = refl; takes = refl }
op_coded (PcodeBranch n) = record { below = refl; same = refl; takes = refl }
op_coded (Branch n) = record { below = refl; same = refl; takes = refl }
op_coded (Load n) = record { below = refl; same = refl; takes = refl }
op_coded (Store n) = record { below = refl; same = refl; takes = refl }
op_coded (Call k n) = call_coded k n
op_coded (Select n) = record { below = refl; same = refl; takes = refl }
op_coded (Subpiece n) = record { below = refl; same = refl; takes = refl }
op_coded (Opaque k) = opaque_coded k
op_coded (Float k) = float_coded k
op_coded (One k) = one_coded k
op_coded (Two k) = two_coded k
op_coded (Divide k) = divide_coded k
op_coded (Shift k) = shift_coded k
op_coded (Rotate k) = rotate_coded k
op_coded (Compare k) = compare_coded k
op_coded (BoolOf k) = bool_coded k

-- the operation with a code has that code
own : (n : ℕ) → every 72 (λ k. eqb (code_of (op_of k n)) k) ≡ true
unfolding op_of
own n = refl

pub code_op : (k n : ℕ) → k < 72 → code_of (op_of k n) ≡ k
code_op k n h = eqb-true _ _ (every_at 72 (λ (i : ℕ). eqb (code_of (op_of i n)) i) (own n) k h)

-- and has the number given, where its code takes one
none_of : (m : Option ℕ) → has m ≡ false → m ≡ None
none_of None e = refl
none_of (Some n) e = cc

pub number_none : (k n : ℕ) → k < 72 → takes_number k ≡ false → number_of (op_of k n) ≡ None
number_none k n h e = none_of _ (sym (op_coded (op_of k n)).takes ∙ ap takes_number (code_op k n h) ∙ e)

abbrev Each : ℕ → (ℕ → Type 0) → Type 0
Each zero P = Unit {0}
Each (suc n) P = P n × Each n P

each_at : (n : ℕ) (P : ℕ → Type 0) → Each n P → (k : ℕ) → k < n → P k
each_at zero P e k h = absurd (not-suc-le-zero h)
each_at (suc n) P e k h = go (each_at n P e.1) (eq-or-lt_of_le (le_of_suc-le-suc h))
  where
    go : ((j : ℕ) → j < n → P j) → (k ≡ n) ⊎ (k < n) → P k
    go f (inl i) = subst P (sym i) e.0
    go f (inr i) = f k i

numbered : (n : ℕ) → Each 13 (λ j. number_of (op_of (59 + j) n) ≡ Some n)
unfolding op_of
numbered n = (refl, (refl, (refl, (refl, (refl, (refl, (refl, (refl, (refl, (refl, (refl, (refl, (refl, tt)))))))))))))

pub number_some : (k n : ℕ) → k < 72 → takes_number k ≡ true → number_of (op_of k n) ≡ Some n
number_some k n h e =
    let g : 59 ≤ k = leb-true 59 k e in
    let q : 59 + (k - 59) ≡ k = omega arith in
    subst (λ (i : ℕ). number_of (op_of i n) ≡ Some n) q (each_at 13 (λ (j : ℕ). number_of (op_of (59 + j) n) ≡ Some n) (numbered n) (k - 59) (omega arith))
