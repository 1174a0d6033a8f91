use Rattle.std.proofs.Common.{◌≡◌, drop}
use Rattle.checks.specs.Statements.{checks_from}
use Rattle.checks.proofs.stmt.statements.Given as goal

abbrev pub invariant-loop-i : goal.invariant-loop-i
invariant-loop-i l = checks_from 0 l.stmts ≡ checks_from l.i (drop l.i l.stmts)
