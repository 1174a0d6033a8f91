-- Which of the first pass's rules an operation falls under.
use Rattle.pcode.specs.declared.op.CallOp.{CallOp}
use Rattle.pcode.specs.declared.op.CallOp.TheVariants as Calls
use Rattle.pcode.specs.declared.op.Op.{Op}
use Rattle.pcode.specs.declared.op.Op.TheVariants.{Trap, InstructionMarker, PcodeLabel, PcodeBranch, Branch, Load, Store, Call, Select, Subpiece, Opaque, Float, One, Two, Divide, Shift, Rotate, Compare, Bool as BoolOf}
use Rattle.widen.specs.declared.turn.Turn.{Turn}
use Rattle.widen.specs.declared.turn.Turn.TheVariants.{Plain, Marker, Label, Jump, Exit, Hook}

-- `Hook` and `HookIf` are hooks
abbrev pub turn_call : CallOp → Turn
turn_call Calls.Arg = Plain
turn_call Calls.PcodeOp = Plain
turn_call Calls.Hook = Hook
turn_call Calls.HookIf = Hook
turn_call Calls.TracerLoad = Plain
turn_call Calls.TracerStore = Plain

-- markers, labels, the two kinds of branches and hooks have rules of their own
abbrev pub turn_of : Op → Turn
turn_of (Trap t) = Plain
turn_of InstructionMarker = Marker
turn_of (PcodeLabel l) = Label l
turn_of (PcodeBranch l) = Jump l
turn_of (Branch n) = Exit
turn_of (Load n) = Plain
turn_of (Store n) = Plain
turn_of (Call k n) = turn_call k
turn_of (Select n) = Plain
turn_of (Subpiece n) = Plain
turn_of (Opaque k) = Plain
turn_of (Float k) = Plain
turn_of (One k) = Plain
turn_of (Two k) = Plain
turn_of (Divide k) = Plain
turn_of (Shift k) = Plain
turn_of (Rotate k) = Plain
turn_of (Compare k) = Plain
turn_of (BoolOf k) = Plain
