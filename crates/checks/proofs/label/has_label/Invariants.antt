use Rattle.std.proofs.Common.{◌≡◌, drop}
use Rattle.checks.specs.Labels.{has_label}
use Rattle.checks.proofs.label.has_label.Given as goal

abbrev pub invariant-loop-s : goal.invariant-loop-s
invariant-loop-s l = has_label l.stmts l.l ≡ has_label (drop l.s-index l.stmts) l.l
