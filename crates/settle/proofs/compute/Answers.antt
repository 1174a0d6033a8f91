use Rattle.std.proofs.Common.{rules}
use Rattle.settle.specs.Settle.{named}
use Rattle.settle.proofs.compute.Goals as goal

pub returns-clause-out_after : goal.returns-clause-out_after
unfolding named
returns-clause-out_after c = search rules
