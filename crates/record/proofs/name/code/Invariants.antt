use Rattle.std.proofs.Common.{◌≡◌, ◌+◌}
use Rattle.record.specs.Names.{code_named}
use Rattle.record.proofs.Names.{code_from}
use Rattle.record.proofs.name.code.Given as goal

abbrev pub invariant-loop-k : goal.invariant-loop-k
invariant-loop-k l = code_named l.s ≡ l.k + code_from l.k l.s
