use Rattle.std.proofs.Common.{arith, rules}
use Rattle.wide.specs.Value.{value_of}
use Rattle.print.proofs.Writes.{then, retold}
use Rattle.trace.proofs.Words.{halved}
use Rattle.trace.proofs.pair.Goals as goal

pub returns : goal.returns
unfolding value_of
returns c = retold (halved c.args.x.lo c.args.x.hi (search rules)) (omega arith) (then {k = 1} {l = 1} (omega arith) c.word-p.ensures c.word.ensures)
