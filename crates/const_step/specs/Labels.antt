-- Which labels are kept, and what a label and a skip give.
use Rattle.std.specs.Prelude.{ℕ, ◌+◌, Bool, false, ◌||◌, List, [], ◌∷◌, Option, None as Nothing, Some, map, eqb}
use Rattle.pcode.specs.Var.{pick, same_label}
use Rattle.pcode.specs.Block.{stmt_of}
use Rattle.pcode.specs.declared.var.PcodeLabel.{PcodeLabel}
use Rattle.pcode.specs.declared.var.Operand.TheVariants.{None, Const}
use Rattle.std.specs.declared.option.Option.TheVariants as Out
use Rattle.pcode.specs.declared.op.Op.TheVariants as Ops
use Rattle.pcode.specs.declared.block.Stmt.{Stmt}
use Rattle.widen.specs.Turn.{turn_of}
use Rattle.widen.specs.Widen.{nothing_m, one_m, two_m}
use Rattle.widen.specs.declared.turn.Turn.{Turn}
use Rattle.widen.specs.declared.turn.Turn.TheVariants.{Plain, Marker, Label, Jump, Exit, Hook}
use Rattle.widen.specs.declared.widen.Made.{Made}

-- one above the label that is branched to; 0 for other statements
abbrev pub target_by : Turn → ℕ
target_by Plain = 0
target_by Marker = 0
target_by (Label l) = 0
target_by (Jump l) = 1 + l.0
target_by Exit = 0
target_by Hook = 0

-- a statement's target
abbrev pub target_of : Stmt → ℕ
target_of s = target_by (turn_of s.op)

-- a target is among these
unfoldable pub has_target : List ℕ → ℕ → Bool
has_target [] t = false
has_target (x ∷ xs) t = eqb x t || has_target xs t

-- the labels that some statements branch to
abbrev pub targets_of : List Stmt → List ℕ
targets_of ss = map target_of ss

-- a label reached by a kept or added earlier branch, or any branch below it
abbrev pub reached_by : List ℕ → List ℕ → PcodeLabel → Bool
reached_by below made l = has_target made (1 + l.0) || has_target below (1 + l.0)

-- a `PcodeBranch` with `c1:1`
abbrev pub branch_of : PcodeLabel → Stmt
branch_of l = stmt_of (Ops.PcodeBranch l) Out.None (Const 1 1) None

-- a kept label has no operands
abbrev pub label_stmt : PcodeLabel → Stmt
label_stmt l = stmt_of (Ops.PcodeLabel l) Out.None None None

-- a skip ends at its own label
abbrev pub arrives_of : Option PcodeLabel → PcodeLabel → Option PcodeLabel
arrives_of Nothing l = Nothing
arrives_of (Some t) l = pick (same_label t l) Nothing (Some t)

-- a skip meeting a kept label not its own becomes a `PcodeBranch` there
abbrev pub kept_label : Option PcodeLabel → PcodeLabel → Made
kept_label Nothing l = one_m (label_stmt l)
kept_label (Some t) l = two_m (branch_of t) (label_stmt l)

-- a kept label; others vanish
abbrev pub label_of : Option PcodeLabel → PcodeLabel → Bool → Made
label_of k l kept = pick kept (kept_label (arrives_of k l) l) (nothing_m (arrives_of k l))

-- a skip meeting the end becomes a `PcodeBranch` there
abbrev pub end_of : Option PcodeLabel → Made
end_of Nothing = nothing_m Nothing
end_of (Some t) = one_m (branch_of t)
