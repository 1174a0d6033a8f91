-- 01's lists: which operations have an output, operands, side effects, and the size rule of each.
use Rattle.std.specs.Prelude.{ℕ, Bool, true, false, not, ◌&&◌, eqb, leb}
use Rattle.pcode.specs.declared.op.Need.{Need}
use Rattle.pcode.specs.declared.op.Need.TheVariants.{Never, May, Must}
use Rattle.pcode.specs.declared.op.CallOp.{CallOp}
use Rattle.pcode.specs.declared.op.CallOp.TheVariants.{Arg, PcodeOp, Hook, HookIf, TracerLoad, TracerStore}
use Rattle.pcode.specs.declared.op.OneOp.{OneOp}
use Rattle.pcode.specs.declared.op.OneOp.TheVariants.{Copy, ZeroExtend, SignExtend, IntNot, IntNegate, IntCountOnes, IntCountLeadingZeroes, BoolNot}
use Rattle.pcode.specs.declared.op.SizeRule.{SizeRule}
use Rattle.pcode.specs.declared.op.SizeRule.TheVariants.{Any, FirstIsOutput, FirstFitsOutput, AllSame, OperandsSame, AtMostFirst}
use Rattle.pcode.specs.declared.op.Op.{Op}
use Rattle.pcode.specs.declared.op.Op.TheVariants.{Trap, InstructionMarker, PcodeLabel, PcodeBranch, Branch, Load, Store, Call, Select, Subpiece, Opaque, Float, One, Two, Divide, Shift, Rotate, Compare, Bool as BoolOf}

-- a need is met where the operand or output is there, or is not
abbrev pub meets : Need → Bool → Bool
meets Never there = not there
meets May there = true
meets Must there = there

-- no output: Arg, TracerStore; optional: the others
abbrev pub call_output : CallOp → Need
call_output Arg = Never
call_output PcodeOp = May
call_output Hook = May
call_output HookIf = May
call_output TracerLoad = May
call_output TracerStore = Never

-- No output: Store, TracerStore, Branch, PcodeBranch, PcodeLabel, Arg, Exception, InstructionMarker, Invalid. Optional: Load, TracerLoad,
-- PcodeOp, Hook, HookIf. All others must have one.
abbrev pub output_need : Op → Need
output_need (Trap t) = Never
output_need InstructionMarker = Never
output_need (PcodeLabel l) = Never
output_need (PcodeBranch l) = Never
output_need (Branch n) = Never
output_need (Load n) = May
output_need (Store n) = Never
output_need (Call k n) = call_output k
output_need (Select n) = Must
output_need (Subpiece n) = Must
output_need (Opaque k) = Must
output_need (Float k) = Must
output_need (One k) = Must
output_need (Two k) = Must
output_need (Divide k) = Must
output_need (Shift k) = Must
output_need (Rotate k) = Must
output_need (Compare k) = Must
output_need (BoolOf k) = Must

-- One- and two-operand integer and boolean operations, Copy, Subpiece, both extends, Load, Store, Branch, PcodeBranch need a first operand;
-- the rest are free.
abbrev pub first_need : Op → Need
first_need (Trap t) = May
first_need InstructionMarker = May
first_need (PcodeLabel l) = May
first_need (PcodeBranch l) = Must
first_need (Branch n) = Must
first_need (Load n) = Must
first_need (Store n) = Must
first_need (Call k n) = May
first_need (Select n) = May
first_need (Subpiece n) = Must
first_need (Opaque k) = May
first_need (Float k) = May
first_need (One k) = Must
first_need (Two k) = Must
first_need (Divide k) = Must
first_need (Shift k) = Must
first_need (Rotate k) = Must
first_need (Compare k) = Must
first_need (BoolOf k) = Must

-- Two-operand integer and boolean operations and Store need a second operand; one-operand ones, Copy, Subpiece and both extends take none;
-- the rest are free.
abbrev pub second_need : Op → Need
second_need (Trap t) = May
second_need InstructionMarker = May
second_need (PcodeLabel l) = May
second_need (PcodeBranch l) = May
second_need (Branch n) = May
second_need (Load n) = May
second_need (Store n) = Must
second_need (Call k n) = May
second_need (Select n) = May
second_need (Subpiece n) = Never
second_need (Opaque k) = May
second_need (Float k) = May
second_need (One k) = Never
second_need (Two k) = Must
second_need (Divide k) = Must
second_need (Shift k) = Must
second_need (Rotate k) = Must
second_need (Compare k) = Must
second_need (BoolOf k) = Must

-- those without an output or with an optional one have side effects, the others none
abbrev pub is_must : Need → Bool
is_must Never = false
is_must May = false
is_must Must = true

-- those that need no output, or may lack one, have side effects
abbrev pub side_effects : Op → Bool
side_effects op = not (is_must (output_need op))

-- what each size rule asks of the operands' sizes a, b and the output's o
abbrev pub fits_rule : SizeRule → ℕ → ℕ → ℕ → Bool
fits_rule Any a b o = true
fits_rule FirstIsOutput a b o = eqb a o
fits_rule FirstFitsOutput a b o = leb a o
fits_rule AllSame a b o = eqb a o && eqb b o
fits_rule OperandsSame a b o = eqb a b
fits_rule (AtMostFirst k) a b o = leb k a

-- Copy, IntNot, IntNegate: a = o. Extends: a at most o. Counts and BoolNot: any.
abbrev pub sizes_one : OneOp → SizeRule
sizes_one Copy = FirstIsOutput
sizes_one ZeroExtend = FirstFitsOutput
sizes_one SignExtend = FirstFitsOutput
sizes_one IntNot = FirstIsOutput
sizes_one IntNegate = FirstIsOutput
sizes_one IntCountOnes = Any
sizes_one IntCountLeadingZeroes = Any
sizes_one BoolNot = Any

-- Subpiece k: k at most a. Add, sub, and, or, xor, mul, divisions: a = b = o. Shifts and rotates: a = o. Comparisons, carries, borrow: a = b.
abbrev pub size_rule : Op → SizeRule
size_rule (Trap t) = Any
size_rule InstructionMarker = Any
size_rule (PcodeLabel l) = Any
size_rule (PcodeBranch l) = Any
size_rule (Branch n) = Any
size_rule (Load n) = Any
size_rule (Store n) = Any
size_rule (Call k n) = Any
size_rule (Select n) = Any
size_rule (Subpiece n) = AtMostFirst n
size_rule (Opaque k) = Any
size_rule (Float k) = Any
size_rule (One k) = sizes_one k
size_rule (Two k) = AllSame
size_rule (Divide k) = AllSame
size_rule (Shift k) = FirstIsOutput
size_rule (Rotate k) = FirstIsOutput
size_rule (Compare k) = OperandsSame
size_rule (BoolOf k) = Any
