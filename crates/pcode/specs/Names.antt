-- The operations' names in the text form, and their codes: the place of an operation's name in the list of names.
use Rattle.std.specs.Prelude.{ℕ, ◌-◌, Bool, true, false, List, [], ◌∷◌, Option, None, Some, map, eqb, leb, ltb, get_or}
use Prim.Native.String.{String, [] as end, ◌∷◌ as ◌then◌}
use Prim.Native.Char.{code}
use Rattle.pcode.specs.Var.{pick}
use Rattle.pcode.specs.declared.op.OneOp.{OneOp}
use Rattle.pcode.specs.declared.op.OneOp.TheVariants.{Copy, ZeroExtend, SignExtend, IntNot, IntNegate, IntCountOnes, IntCountLeadingZeroes, BoolNot}
use Rattle.pcode.specs.declared.op.TwoOp.{TwoOp}
use Rattle.pcode.specs.declared.op.TwoOp.TheVariants.{IntAdd, IntSub, IntXor, IntOr, IntAnd, IntMul}
use Rattle.pcode.specs.declared.op.DivideOp.{DivideOp}
use Rattle.pcode.specs.declared.op.DivideOp.TheVariants.{IntDiv, IntSignedDiv, IntRem, IntSignedRem}
use Rattle.pcode.specs.declared.op.ShiftOp.{ShiftOp}
use Rattle.pcode.specs.declared.op.ShiftOp.TheVariants.{IntLeft, IntRight, IntSignedRight}
use Rattle.pcode.specs.declared.op.RotateOp.{RotateOp}
use Rattle.pcode.specs.declared.op.RotateOp.TheVariants.{IntRotateLeft, IntRotateRight}
use Rattle.pcode.specs.declared.op.CompareOp.{CompareOp}
use Rattle.pcode.specs.declared.op.CompareOp.TheVariants.{IntEqual, IntNotEqual, IntLess, IntSignedLess, IntLessEqual, IntSignedLessEqual, IntCarry, IntSignedCarry, IntSignedBorrow}
use Rattle.pcode.specs.declared.op.BoolOp.{BoolOp}
use Rattle.pcode.specs.declared.op.BoolOp.TheVariants.{BoolAnd, BoolOr, BoolXor}
use Rattle.pcode.specs.declared.op.FloatOp.{FloatOp}
use Rattle.pcode.specs.declared.op.FloatOp.TheVariants.{FloatAdd, FloatSub, FloatMul, FloatDiv, FloatNegate, FloatAbs, FloatSqrt, FloatCeil, FloatFloor, FloatRound, FloatIsNan, FloatEqual, FloatNotEqual, FloatLess, FloatLessEqual}
use Rattle.pcode.specs.declared.op.OpaqueOp.{OpaqueOp}
use Rattle.pcode.specs.declared.op.OpaqueOp.TheVariants.{IntToFloat, UintToFloat, FloatToFloat, FloatToInt, MultiEqual, Indirect}
use Rattle.pcode.specs.declared.op.TrapOp.{TrapOp}
use Rattle.pcode.specs.declared.op.TrapOp.TheVariants.{Invalid, Exception}
use Rattle.pcode.specs.declared.op.CallOp.{CallOp}
use Rattle.pcode.specs.declared.op.CallOp.TheVariants.{Arg, PcodeOp, Hook, HookIf, TracerLoad, TracerStore}
use Rattle.pcode.specs.declared.op.Op.{Op}
use Rattle.pcode.specs.declared.op.Op.TheVariants.{Trap, InstructionMarker, PcodeLabel, PcodeBranch, Branch, Load, Store, Call, Select, Subpiece, Opaque, Float, One, Two, Divide, Shift, Rotate, Compare, Bool as BoolOf}

-- a text as its bytes
abbrev pub bytes_of : String → List ℕ
bytes_of end = []
bytes_of (c then s) = code c ∷ bytes_of s

-- the names; those from `Subpiece` on have a number
abbrev pub names : List String
names =
    "Copy" ∷ "ZeroExtend" ∷ "SignExtend" ∷ "IntNot" ∷ "IntNegate" ∷ "IntCountOnes" ∷ "IntCountLeadingZeroes" ∷ "BoolNot" ∷ "IntAdd" ∷
    "IntSub" ∷ "IntXor" ∷ "IntOr" ∷ "IntAnd" ∷ "IntMul" ∷ "IntDiv" ∷ "IntSignedDiv" ∷ "IntRem" ∷ "IntSignedRem" ∷ "IntLeft" ∷ "IntRight" ∷
    "IntSignedRight" ∷ "IntRotateLeft" ∷ "IntRotateRight" ∷ "IntEqual" ∷ "IntNotEqual" ∷ "IntLess" ∷ "IntSignedLess" ∷ "IntLessEqual" ∷
    "IntSignedLessEqual" ∷ "IntCarry" ∷ "IntSignedCarry" ∷ "IntSignedBorrow" ∷ "BoolAnd" ∷ "BoolOr" ∷ "BoolXor" ∷ "FloatAdd" ∷ "FloatSub" ∷
    "FloatMul" ∷ "FloatDiv" ∷ "FloatNegate" ∷ "FloatAbs" ∷ "FloatSqrt" ∷ "FloatCeil" ∷ "FloatFloor" ∷ "FloatRound" ∷ "FloatIsNan" ∷
    "FloatEqual" ∷ "FloatNotEqual" ∷ "FloatLess" ∷ "FloatLessEqual" ∷ "IntToFloat" ∷ "UintToFloat" ∷ "FloatToFloat" ∷ "FloatToInt" ∷
    "MultiEqual" ∷ "Indirect" ∷ "Invalid" ∷ "Exception" ∷ "InstructionMarker" ∷ "Subpiece" ∷ "Select" ∷ "Load" ∷ "Store" ∷ "Branch" ∷
    "PcodeBranch" ∷ "PcodeLabel" ∷ "Arg" ∷ "PcodeOp" ∷ "Hook" ∷ "HookIf" ∷ "TracerLoad" ∷ "TracerStore" ∷ []

-- the bytes of the name at a place; none past the last
unfoldable pub name_of : ℕ → List ℕ
name_of k = get_or (map bytes_of names) k []

-- two byte strings are the same
abbrev pub eq_bytes : List ℕ → List ℕ → Bool
eq_bytes [] [] = true
eq_bytes [] (y ∷ ys) = false
eq_bytes (x ∷ xs) [] = false
eq_bytes (x ∷ xs) (y ∷ ys) = pick (eqb x y) (eq_bytes xs ys) false

-- a code takes a number: `Subpiece` and those after it
abbrev pub takes_number : ℕ → Bool
takes_number c = leb 59 c

-- the codes, family by family
abbrev pub code_one_op : OneOp → ℕ
code_one_op Copy = 0
code_one_op ZeroExtend = 1
code_one_op SignExtend = 2
code_one_op IntNot = 3
code_one_op IntNegate = 4
code_one_op IntCountOnes = 5
code_one_op IntCountLeadingZeroes = 6
code_one_op BoolNot = 7

-- codes of the two-operand operations
abbrev pub code_two_op : TwoOp → ℕ
code_two_op IntAdd = 8
code_two_op IntSub = 9
code_two_op IntXor = 10
code_two_op IntOr = 11
code_two_op IntAnd = 12
code_two_op IntMul = 13

-- codes of the divisions
abbrev pub code_divide_op : DivideOp → ℕ
code_divide_op IntDiv = 14
code_divide_op IntSignedDiv = 15
code_divide_op IntRem = 16
code_divide_op IntSignedRem = 17

-- codes of the shifts
abbrev pub code_shift_op : ShiftOp → ℕ
code_shift_op IntLeft = 18
code_shift_op IntRight = 19
code_shift_op IntSignedRight = 20

-- codes of the rotates
abbrev pub code_rotate_op : RotateOp → ℕ
code_rotate_op IntRotateLeft = 21
code_rotate_op IntRotateRight = 22

-- codes of the comparisons, carries and the borrow
abbrev pub code_compare_op : CompareOp → ℕ
code_compare_op IntEqual = 23
code_compare_op IntNotEqual = 24
code_compare_op IntLess = 25
code_compare_op IntSignedLess = 26
code_compare_op IntLessEqual = 27
code_compare_op IntSignedLessEqual = 28
code_compare_op IntCarry = 29
code_compare_op IntSignedCarry = 30
code_compare_op IntSignedBorrow = 31

-- codes of the boolean operations
abbrev pub code_bool_op : BoolOp → ℕ
code_bool_op BoolAnd = 32
code_bool_op BoolOr = 33
code_bool_op BoolXor = 34

-- codes of the float operations
abbrev pub code_float_op : FloatOp → ℕ
code_float_op FloatAdd = 35
code_float_op FloatSub = 36
code_float_op FloatMul = 37
code_float_op FloatDiv = 38
code_float_op FloatNegate = 39
code_float_op FloatAbs = 40
code_float_op FloatSqrt = 41
code_float_op FloatCeil = 42
code_float_op FloatFloor = 43
code_float_op FloatRound = 44
code_float_op FloatIsNan = 45
code_float_op FloatEqual = 46
code_float_op FloatNotEqual = 47
code_float_op FloatLess = 48
code_float_op FloatLessEqual = 49

-- codes of the conversions, `MultiEqual` and `Indirect`
abbrev pub code_opaque_op : OpaqueOp → ℕ
code_opaque_op IntToFloat = 50
code_opaque_op UintToFloat = 51
code_opaque_op FloatToFloat = 52
code_opaque_op FloatToInt = 53
code_opaque_op MultiEqual = 54
code_opaque_op Indirect = 55

-- codes of the `Invalid` and `Exception`
abbrev pub code_trap_op : TrapOp → ℕ
code_trap_op Invalid = 56
code_trap_op Exception = 57

-- codes of the operations with a number and a free form
abbrev pub code_call_op : CallOp → ℕ
code_call_op Arg = 66
code_call_op PcodeOp = 67
code_call_op Hook = 68
code_call_op HookIf = 69
code_call_op TracerLoad = 70
code_call_op TracerStore = 71

-- the place of an operation's name in the list of names
abbrev pub code_of : Op → ℕ
code_of (Trap k) = code_trap_op k
code_of InstructionMarker = 58
code_of (PcodeLabel n) = 65
code_of (PcodeBranch n) = 64
code_of (Branch n) = 63
code_of (Load n) = 61
code_of (Store n) = 62
code_of (Call k n) = code_call_op k
code_of (Select n) = 60
code_of (Subpiece n) = 59
code_of (Opaque k) = code_opaque_op k
code_of (Float k) = code_float_op k
code_of (One k) = code_one_op k
code_of (Two k) = code_two_op k
code_of (Divide k) = code_divide_op k
code_of (Shift k) = code_shift_op k
code_of (Rotate k) = code_rotate_op k
code_of (Compare k) = code_compare_op k
code_of (BoolOf k) = code_bool_op k

-- the number that stands in an operation's second field
abbrev pub number_of : Op → Option ℕ
number_of (Trap k) = None
number_of InstructionMarker = None
number_of (PcodeLabel l) = Some l.0
number_of (PcodeBranch l) = Some l.0
number_of (Branch n) = Some n
number_of (Load n) = Some n
number_of (Store n) = Some n
number_of (Call k n) = Some n
number_of (Select n) = Some n
number_of (Subpiece n) = Some n
number_of (Opaque k) = None
number_of (Float k) = None
number_of (One k) = None
number_of (Two k) = None
number_of (Divide k) = None
number_of (Shift k) = None
number_of (Rotate k) = None
number_of (Compare k) = None
number_of (BoolOf k) = None

-- the operations without a number, family by family, in the order of their names
abbrev pub one_ops : List OneOp
one_ops = Copy ∷ ZeroExtend ∷ SignExtend ∷ IntNot ∷ IntNegate ∷ IntCountOnes ∷ IntCountLeadingZeroes ∷ BoolNot ∷ []

-- the two-operand operations in the order of their codes
abbrev pub two_ops : List TwoOp
two_ops = IntAdd ∷ IntSub ∷ IntXor ∷ IntOr ∷ IntAnd ∷ IntMul ∷ []

-- the divisions in the order of their codes
abbrev pub divide_ops : List DivideOp
divide_ops = IntDiv ∷ IntSignedDiv ∷ IntRem ∷ IntSignedRem ∷ []

-- the shifts in the order of their codes
abbrev pub shift_ops : List ShiftOp
shift_ops = IntLeft ∷ IntRight ∷ IntSignedRight ∷ []

-- the rotates in the order of their codes
abbrev pub rotate_ops : List RotateOp
rotate_ops = IntRotateLeft ∷ IntRotateRight ∷ []

-- the comparisons, carries and the borrow in the order of their codes
abbrev pub compare_ops : List CompareOp
compare_ops = IntEqual ∷ IntNotEqual ∷ IntLess ∷ IntSignedLess ∷ IntLessEqual ∷ IntSignedLessEqual ∷ IntCarry ∷ IntSignedCarry ∷ IntSignedBorrow ∷ []

-- the boolean operations in the order of their codes
abbrev pub bool_ops : List BoolOp
bool_ops = BoolAnd ∷ BoolOr ∷ BoolXor ∷ []

-- the float operations in the order of their codes
abbrev pub float_ops : List FloatOp
float_ops = FloatAdd ∷ FloatSub ∷ FloatMul ∷ FloatDiv ∷ FloatNegate ∷ FloatAbs ∷ FloatSqrt ∷ FloatCeil ∷ FloatFloor ∷ FloatRound ∷ FloatIsNan ∷ FloatEqual ∷ FloatNotEqual ∷ FloatLess ∷ FloatLessEqual ∷ []

-- the conversions, `MultiEqual` and `Indirect` in the order of their codes
abbrev pub opaque_ops : List OpaqueOp
opaque_ops = IntToFloat ∷ UintToFloat ∷ FloatToFloat ∷ FloatToInt ∷ MultiEqual ∷ Indirect ∷ []

-- the `Invalid` and `Exception` in the order of their codes
abbrev pub trap_ops : List TrapOp
trap_ops = Invalid ∷ Exception ∷ []

-- the operations with a number and a free form in the order of their codes
abbrev pub call_ops : List CallOp
call_ops = Arg ∷ PcodeOp ∷ Hook ∷ HookIf ∷ TracerLoad ∷ TracerStore ∷ []

-- the operations with the number n that are no calls
abbrev pub with_number : ℕ → ℕ → Op
with_number c n =
    get_or (Subpiece n ∷ Select n ∷ Load n ∷ Store n ∷ Branch n ∷ PcodeBranch (record { 0 = n }) ∷ []) c (PcodeLabel (record { 0 = n }))

-- the operation with a code and a number; `Invalid` past the last code
unfoldable pub op_of : ℕ → ℕ → Op
op_of c n =
    pick (ltb c 8) (One (get_or one_ops c Copy))
    (pick (ltb c 14) (Two (get_or two_ops (c - 8) IntAdd))
    (pick (ltb c 18) (Divide (get_or divide_ops (c - 14) IntDiv))
    (pick (ltb c 21) (Shift (get_or shift_ops (c - 18) IntLeft))
    (pick (ltb c 23) (Rotate (get_or rotate_ops (c - 21) IntRotateLeft))
    (pick (ltb c 32) (Compare (get_or compare_ops (c - 23) IntEqual))
    (pick (ltb c 35) (BoolOf (get_or bool_ops (c - 32) BoolAnd))
    (pick (ltb c 50) (Float (get_or float_ops (c - 35) FloatAdd))
    (pick (ltb c 56) (Opaque (get_or opaque_ops (c - 50) IntToFloat))
    (pick (ltb c 58) (Trap (get_or trap_ops (c - 56) Invalid))
    (pick (ltb c 59) InstructionMarker
    (pick (ltb c 66) (with_number (c - 59) n)
    (pick (ltb c 72) (Call (get_or call_ops (c - 66) Arg) n) (Trap Invalid)))))))))))))
