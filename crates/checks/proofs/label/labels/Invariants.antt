use Rattle.std.proofs.Common.{◌≡◌, drop}
use Rattle.checks.specs.Labels.{labels_from}
use Rattle.checks.proofs.label.labels.Given as goal

abbrev pub invariant-loop-i : goal.invariant-loop-i
invariant-loop-i l = labels_from l.stmts 0 l.stmts ≡ labels_from l.stmts l.i (drop l.i l.stmts)
