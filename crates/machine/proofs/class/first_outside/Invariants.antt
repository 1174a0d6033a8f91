use Rattle.std.proofs.Common.{◌≡◌, drop}
use Rattle.machine.specs.Class.{first_outside}
use Rattle.machine.proofs.class.first_outside.Given as goal

abbrev pub invariant-loop-i : goal.invariant-loop-i
invariant-loop-i l = first_outside l.class l.stmts 0 l.stmts ≡ first_outside l.class l.stmts l.i (drop l.i l.stmts)
