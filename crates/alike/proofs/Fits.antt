-- What the laws ask of a statement: parts that lie in their rows, and no output where nothing is written.
use Rattle.std.proofs.Common.{◌+◌, ◌≤◌, ◌≡◌, List, [], ◌∷◌}
use Rattle.pcode.specs.Var.{as_operand}
use Rattle.pcode.specs.declared.var.Operand.{Operand}
use Rattle.pcode.specs.declared.var.Operand.TheVariants.{None, Const, Var}
use Rattle.pcode.specs.Var.{Output}
use Rattle.std.specs.declared.option.Option.TheVariants as Out
use Rattle.pcode.specs.declared.block.Stmt.{Stmt}
use Rattle.step.specs.Steps.{act_of}
use Rattle.step.specs.declared.Act.{Act}

-- a part lies in a variable's 16 bytes
abbrev pub InRow : Operand → Type 0
InRow None = Unit {0}
InRow (Const v n) = Unit {0}
InRow (Var v) = v.offset + v.size ≤ 16

-- only a load and an operation without side effects have an output
abbrev pub Quiet : Act → Output → Type 0
Quiet Act.Nothing o = o ≡ Out.None
Quiet Act.Marks o = o ≡ Out.None
Quiet (Act.Jumps l) o = o ≡ Out.None
Quiet (Act.Exits n) o = o ≡ Out.None
Quiet (Act.Loads n) o = Unit {0}
Quiet (Act.Stores n) o = o ≡ Out.None
Quiet Act.Computes o = Unit {0}

-- what the checks give of a statement of the run class
pub record Fit (s : Stmt) : Type 0 where
  pub first : InRow s.first
  pub second : InRow s.second
  pub output : InRow (as_operand s.output)
  pub quiet : Quiet (act_of s.op) s.output

abbrev pub AllFit : List Stmt → Type 0
AllFit [] = Unit {0}
AllFit (s ∷ ss) = Fit s × AllFit ss
