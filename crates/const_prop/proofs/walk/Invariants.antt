use Rattle.std.proofs.Common.{◌≡◌, length}
use Rattle.const_eval.specs.State.{known_of}
use Rattle.simplify.specs.Simplify.{Rows}
use Rattle.const_prop.proofs.Walks.{Going}
use Rattle.const_prop.proofs.walk.Given as goal

abbrev pub invariant-loop-i : goal.invariant-loop-i
invariant-loop-i l =
    Going (record { vars = l.vars; temp = l.temp; block = l.stmts }) (length l.stmts) l.i l.result.count (known_of l.known) l.skip l.least l.result.stmts l.jumps × Rows l.ca l.cb l.out × (length l.jumps ≡ length l.initial.jumps)
