-- The run class, and refusal 16.
use Rattle.std.specs.Prelude.{ℕ, ◌+◌, Bool, true, false, List, [], ◌∷◌, take}
use Rattle.pcode.specs.Var.{pick}
use Rattle.pcode.specs.declared.block.Stmt.{Stmt}
use Rattle.pcode.specs.declared.op.Op.{Op}
use Rattle.pcode.specs.declared.op.Op.TheVariants.{Trap, InstructionMarker, PcodeLabel, PcodeBranch, Branch, Load, Store, Call, Select, Subpiece, Opaque, Float, One, Two, Divide, Shift, Rotate, Compare, Bool as BoolOf}
use Rattle.checks.specs.Labels.{has_label}
use Rattle.machine.specs.declared.class.Class.{Class}

-- 01's own class: no rotates, no divisions
abbrev pub own_class : Class
own_class = record { rotates = false; divisions = false }

-- Copy, Subpiece, extends, integer and boolean operations except rotates and divisions, Load, Store, Branch, PcodeBranch, PcodeLabel, marker
abbrev pub in_class : Class → Op → Bool
in_class c (Trap t) = false
in_class c InstructionMarker = true
in_class c (PcodeLabel l) = true
in_class c (PcodeBranch l) = true
in_class c (Branch n) = true
in_class c (Load n) = true
in_class c (Store n) = true
in_class c (Call k n) = false
in_class c (Select n) = false
in_class c (Subpiece n) = true
in_class c (Opaque k) = false
in_class c (Float k) = false
in_class c (One k) = true
in_class c (Two k) = true
in_class c (Divide k) = c.divisions
in_class c (Shift k) = true
in_class c (Rotate k) = c.rotates
in_class c (Compare k) = true
in_class c (BoolOf k) = true

-- a branch to a label that stands above it
abbrev pub backward : List Stmt → Op → Bool
backward above (Trap t) = false
backward above InstructionMarker = false
backward above (PcodeLabel l) = false
backward above (PcodeBranch l) = has_label above l
backward above (Branch n) = false
backward above (Load n) = false
backward above (Store n) = false
backward above (Call k n) = false
backward above (Select n) = false
backward above (Subpiece n) = false
backward above (Opaque k) = false
backward above (Float k) = false
backward above (One k) = false
backward above (Two k) = false
backward above (Divide k) = false
backward above (Shift k) = false
backward above (Rotate k) = false
backward above (Compare k) = false
backward above (BoolOf k) = false

-- an operation outside the class, or a branch to a label above it
abbrev pub outside : Class → List Stmt → Op → Bool
outside c above op = pick (in_class c op) (backward above op) true

-- the place, from i on, of the first such statement of a block; past its end where there is none
unfoldable pub first_outside : Class → List Stmt → ℕ → List Stmt → ℕ
first_outside c block i [] = i
first_outside c block i (s ∷ ss) = pick (outside c (take i block) s.op) i (first_outside c block (i + 1) ss)
