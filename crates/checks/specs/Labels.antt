-- Refusal 6: labels that stand twice, and branches to labels that are not in the block.
use Rattle.std.specs.Prelude.{ℕ, ◌+◌, Bool, true, false, not, ◌||◌, List, [], ◌∷◌, take, Result, Ok, Err}
use Rattle.pcode.specs.Var.{pick, same_label}
use Rattle.pcode.specs.declared.var.PcodeLabel.{PcodeLabel as Label}
use Rattle.pcode.specs.declared.op.Op.{Op}
use Rattle.pcode.specs.declared.op.Op.TheVariants.{Trap, InstructionMarker, PcodeLabel, PcodeBranch, Branch, Load, Store, Call, Select, Subpiece, Opaque, Float, One, Two, Divide, Shift, Rotate, Compare, Bool as BoolOf}
use Rattle.pcode.specs.declared.block.Stmt.{Stmt}
use Rattle.pcode.specs.declared.refusal.Refusal.{Refusal}
use Rattle.pcode.specs.declared.refusal.Refusal.TheVariants.{BadLabel}
use Rattle.checks.specs.declared.label.LabelUse.{LabelUse}
use Rattle.checks.specs.declared.label.LabelUse.TheVariants.{None, Stands, Named}

-- the label that an operation is, or that it branches to
abbrev pub label_of : Op → LabelUse
label_of (Trap t) = None
label_of InstructionMarker = None
label_of (PcodeLabel l) = Stands l
label_of (PcodeBranch l) = Named l
label_of (Branch n) = None
label_of (Load n) = None
label_of (Store n) = None
label_of (Call k n) = None
label_of (Select n) = None
label_of (Subpiece n) = None
label_of (Opaque k) = None
label_of (Float k) = None
label_of (One k) = None
label_of (Two k) = None
label_of (Divide k) = None
label_of (Shift k) = None
label_of (Rotate k) = None
label_of (Compare k) = None
label_of (BoolOf k) = None

-- a use that is that label standing
abbrev pub stands : LabelUse → Label → Bool
stands None l = false
stands (Stands m) l = same_label m l
stands (Named m) l = false

-- an operation is that label
abbrev pub is_label : Op → Label → Bool
is_label op l = stands (label_of op) l

-- a label stands among statements
unfoldable pub has_label : List Stmt → Label → Bool
has_label [] l = false
has_label (s ∷ ss) l = is_label s.op l || has_label ss l

-- a label does not stand among the statements above it, a branch's label stands in the block
abbrev pub good_use : List Stmt → List Stmt → LabelUse → Bool
good_use block above None = true
good_use block above (Stands l) = not (has_label above l)
good_use block above (Named l) = has_label block l

-- the same, by the operation
abbrev pub good_label : List Stmt → List Stmt → Op → Bool
good_label block above op = good_use block above (label_of op)

-- the first statement, from place i on, that breaks the rule
unfoldable pub labels_from : List Stmt → ℕ → List Stmt → Result (Unit {0}) Refusal
labels_from block i [] = Ok tt
labels_from block i (s ∷ ss) = pick (good_label block (take i block) s.op) (labels_from block (i + 1) ss) (Err (BadLabel i))
