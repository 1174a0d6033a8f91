use Rattle.std.proofs.Common.{◌≤◌}
use Rattle.vars.proofs.Joining.{Going}
use Rattle.vars.proofs.named.Given as goal

abbrev pub invariant-loop-i : goal.invariant-loop-i
invariant-loop-i l = (k : l.cap ≤ 112) → Going l.cap k l.stmts l.i l.vars
