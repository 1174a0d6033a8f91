-- What a statement reads and writes: values of operands, and the rows after an output.
use Rattle.std.specs.Prelude.{ℕ, ◌+◌, ◌*◌, ◌<◌, ◌≤◌, ◌≡◌, true, List, [], length, get_or}
use Rattle.pcode.specs.Var.{cut, size_of, size_out}
use Rattle.pcode.specs.Block.{has_id}
use Rattle.pcode.specs.declared.var.VarId.{VarId}
use Rattle.pcode.specs.declared.var.VarNode.{VarNode}
use Rattle.pcode.specs.declared.var.Operand.{Operand}
use Rattle.pcode.specs.declared.var.Operand.TheVariants.{None, Const, Var}
use Rattle.pcode.specs.Var.{Output}
use Rattle.std.specs.declared.option.Option.TheVariants as Out
use Rattle.pcode.specs.declared.block.Stmt.{Stmt}
use Rattle.vars.specs.Vars.{row_of}
use Rattle.meaning.specs.Meaning.{meaning}
use Rattle.concrete.specs.Fits.{Applies}
use Rattle.state.specs.Bytes.{read_of, write_of}

-- an operand's value: 0 for none, a constant cut to its size, the number in a variable's bytes
abbrev pub value_in : List VarId → List (List ℕ) → Operand → ℕ
value_in ids rows None = 0
value_in ids rows (Const v n) = cut v n
value_in ids rows (Var v) = read_of rows (row_of ids v.id) v.offset v.size

-- the rows after a number was written to an output
abbrev pub written : List VarId → List (List ℕ) → Output → ℕ → List (List ℕ)
written ids rows Out.None v = rows
written ids rows (Out.Some o) v = write_of rows (row_of ids o.id) o.offset o.size v

-- what an operation gives for a statement's operands; both are read before the output is written
unfoldable pub result_in : List VarId → List (List ℕ) → Stmt → ℕ
result_in ids rows s =
    meaning s.op (8 * size_of s.first) (8 * size_out s.output) (value_in ids rows s.first) (value_in ids rows s.second)

-- every byte of every row is below 256
abbrev pub Bytes : List (List ℕ) → Type 0
Bytes rows = (r k : ℕ) → get_or (get_or rows r []) k 0 < 256

-- a part lies in a row of a table of at most 112
pub record Held (ids : List VarId) (v : VarNode) : Type 0 where
  pub named : has_id ids v.id ≡ true
  pub room : length ids ≤ 112
  pub inside : v.offset + v.size ≤ 16

-- an operand that the state holds
abbrev pub HeldOperand : List VarId → Operand → Type 0
HeldOperand ids None = Unit {0}
HeldOperand ids (Const v n) = n ≤ 16
HeldOperand ids (Var v) = Held ids v

-- an output that the state holds
abbrev pub HeldOutput : List VarId → Output → Type 0
HeldOutput ids Out.None = Unit {0}
HeldOutput ids (Out.Some v) = Held ids v

-- what a statement without side effects asks before it is run
pub record Ready (ids : List VarId) (rows : List (List ℕ)) (s : Stmt) : Type 0 where
  pub first : HeldOperand ids s.first
  pub second : HeldOperand ids s.second
  pub applies : Applies s.op (8 * size_of s.first) (8 * size_out s.output) (value_in ids rows s.first) (value_in ids rows s.second)

-- a statement that may be run, its output too
pub record ReadyOut (ids : List VarId) (rows : List (List ℕ)) (s : Stmt) : Type 0 where
  pub operands : Ready ids rows s
  pub output : HeldOutput ids s.output

-- a statement without side effects changes part of one row
unfoldable pub plain_step : List VarId → List (List ℕ) → Stmt → List (List ℕ)
plain_step ids rows s = written ids rows s.output (result_in ids rows s)
