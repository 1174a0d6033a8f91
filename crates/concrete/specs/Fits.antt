-- What the evaluator's parts ask of widths and operands; a checked statement meets it.
use Rattle.std.specs.Prelude.{ℕ, ◌^◌, ◌<◌, ◌≤◌}
use Rattle.pcode.specs.declared.op.OneOp.{OneOp}
use Rattle.pcode.specs.declared.op.OneOp.TheVariants.{Copy, ZeroExtend, SignExtend, IntNot, IntNegate, IntCountOnes, IntCountLeadingZeroes, BoolNot}
use Rattle.pcode.specs.declared.op.Op.{Op}
use Rattle.pcode.specs.declared.op.Op.TheVariants.{Trap, InstructionMarker, PcodeLabel, PcodeBranch, Branch, Load, Store, Call, Select, Subpiece, Opaque, Float, One, Two, Divide, Shift, Rotate, Compare, Bool as BoolOf}

-- a width from 1 to 128 bits, and an operand below two to it
pub record Alone (w a : ℕ) : Type 0 where
  pub some : 0 < w
  pub most : w ≤ 128
  pub first : a < 2 ^ w

-- a width, and two numbers that it holds
pub record Both (w a b : ℕ) : Type 0 where
  pub some : 0 < w
  pub most : w ≤ 128
  pub first : a < 2 ^ w
  pub second : b < 2 ^ w

-- a sign extension goes to no narrower width
abbrev pub Grows : OneOp → ℕ → ℕ → Type 0
Grows Copy w o = Unit {0}
Grows ZeroExtend w o = Unit {0}
Grows SignExtend w o = w ≤ o
Grows IntNot w o = Unit {0}
Grows IntNegate w o = Unit {0}
Grows IntCountOnes w o = Unit {0}
Grows IntCountLeadingZeroes w o = Unit {0}
Grows BoolNot w o = Unit {0}

-- what an operation asks of its operands a of w bits and b, and of the output's width o
abbrev pub Applies : Op → ℕ → ℕ → ℕ → ℕ → Type 0
Applies (Trap t) w o a b = Unit {0}
Applies InstructionMarker w o a b = Unit {0}
Applies (PcodeLabel l) w o a b = Unit {0}
Applies (PcodeBranch l) w o a b = Unit {0}
Applies (Branch n) w o a b = Unit {0}
Applies (Load n) w o a b = Unit {0}
Applies (Store n) w o a b = Unit {0}
Applies (Call k n) w o a b = Unit {0}
Applies (Select n) w o a b = Unit {0}
Applies (Subpiece n) w o a b = Unit {0}
Applies (Opaque k) w o a b = Unit {0}
Applies (Float k) w o a b = Unit {0}
Applies (One k) w o a b = Alone w a × Grows k w o × (o ≤ 128)
Applies (Two k) w o a b = Both w a b
Applies (Divide k) w o a b = Unit {0}
Applies (Shift k) w o a b = Alone w a
Applies (Rotate k) w o a b = Unit {0}
Applies (Compare k) w o a b = Both w a b
Applies (BoolOf k) w o a b = Unit {0}
