use Rattle.std.proofs.Common.{◌≡◌}
use Rattle.fields.specs.Parts.{rest_of}
use Rattle.fields.proofs.part.part.Given as goal

abbrev pub invariant-loop-i : goal.invariant-loop-i
invariant-loop-i l = l.s ≡ rest_of l.b l.whole l.i
