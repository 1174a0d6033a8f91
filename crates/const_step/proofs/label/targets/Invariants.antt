use Rattle.std.proofs.Common.{◌≡◌, ◌++◌, take, drop}
use Rattle.const_step.specs.Labels.{targets_of}
use Rattle.const_step.proofs.label.targets.Given as goal

abbrev pub invariant-loop-i : goal.invariant-loop-i
invariant-loop-i l = l.jumps ≡ targets_of (take l.i l.stmts) ++ drop l.i l.initial.jumps
