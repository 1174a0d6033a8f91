-- What a statement ends, the parts of variables that it names, and their rows.
use Rattle.std.specs.Prelude.{ℕ, ◌<◌, ◌≤◌, ◌≡◌, Bool, true, false, List, pos, length, get_or}
use Rattle.pcode.specs.Var.{as_operand}
use Rattle.pcode.specs.Block.{has_id, blank_stmt}
use Rattle.pcode.specs.declared.var.VarId.{VarId}
use Rattle.pcode.specs.declared.var.VarNode.{VarNode}
use Rattle.pcode.specs.declared.var.Operand.{Operand}
use Rattle.pcode.specs.declared.var.Operand.TheVariants.{None, Const, Var}
use Rattle.pcode.specs.declared.block.Stmt.{Stmt}
use Rattle.pcode.specs.declared.op.Op.{Op}
use Rattle.vars.specs.Vars.{ids_of, row_of}
use Rattle.live_tables.specs.declared.rows.Edge.{Edge}
use Rattle.live_tables.specs.declared.rows.Edge.TheVariants.{Inside, Branch, Label, Marker}
use Rattle.live_tables.specs.declared.rows.Rows.{Rows}

-- a branch, a label, a marker, or none of them
abbrev pub edge_of : Op → Edge
edge_of (Op.Trap t) = Inside
edge_of Op.InstructionMarker = Marker
edge_of (Op.PcodeLabel l) = Label
edge_of (Op.PcodeBranch l) = Branch
edge_of (Op.Branch n) = Branch
edge_of (Op.Load n) = Inside
edge_of (Op.Store n) = Inside
edge_of (Op.Call k n) = Inside
edge_of (Op.Select n) = Inside
edge_of (Op.Subpiece n) = Inside
edge_of (Op.Opaque k) = Inside
edge_of (Op.Float k) = Inside
edge_of (Op.One k) = Inside
edge_of (Op.Two k) = Inside
edge_of (Op.Divide k) = Inside
edge_of (Op.Shift k) = Inside
edge_of (Op.Rotate k) = Inside
edge_of (Op.Compare k) = Inside
edge_of (Op.Bool k) = Inside

-- a branch, a label or a marker ends a stretch
abbrev pub ends : Edge → Bool
ends Inside = false
ends Branch = true
ends Label = true
ends Marker = true

-- the edge is a label
abbrev pub is_label : Edge → Bool
is_label Inside = false
is_label Branch = false
is_label Label = true
is_label Marker = false

-- the edge is a marker
abbrev pub is_marker : Edge → Bool
is_marker Inside = false
is_marker Branch = false
is_marker Label = false
is_marker Marker = true

-- the id that names no variable
abbrev pub no_id : VarId
no_id = record { 0 = pos 0 }

-- no bytes of no variable
abbrev pub no_part : VarNode
no_part = record { id = no_id; offset = 0; size = 0 }

-- the part of a variable that an operand names
abbrev pub part_of : Operand → VarNode
part_of None = no_part
part_of (Const v n) = no_part
part_of (Var v) = v

-- the operand is a variable
abbrev pub is_var : Operand → Bool
is_var None = false
is_var (Const v n) = false
is_var (Var v) = true

-- the row of an operand's variable among the ids l
abbrev pub row_in : List VarId → Operand → ℕ
row_in l None = 0
row_in l (Const v n) = 0
row_in l (Var v) = row_of l v.id

-- the rows of a statement's output, first and second operand
unfoldable pub rows_of : List VarId → Stmt → Rows
rows_of l s = record { output = row_in l (as_operand s.output); first = row_in l s.first; second = row_in l s.second }

-- rows of nothing
abbrev pub no_row : Rows
no_row = record { output = 0; first = 0; second = 0 }

-- the rows of each statement
abbrev pub RowsAre : List VarId → List Stmt → List Rows → Type 0
RowsAre l ss rows = (i : ℕ) → i < length ss → get_or rows i no_row ≡ rows_of l (get_or ss i blank_stmt)

-- the ids that the statements name are among the at most 112 of l
pub record Named (l : List VarId) (ss : List Stmt) : Type 0 where
  pub small : length l ≤ 112
  pub names : (i : ℕ) (id : VarId) → i < length ss → has_id (ids_of (get_or ss i blank_stmt)) id ≡ true → has_id l id ≡ true
