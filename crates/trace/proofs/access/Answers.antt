use Rattle.std.proofs.Common.{arith}
use Rattle.print.proofs.Writes.{then}
use Rattle.trace.specs.Words.{access_words}
use Rattle.trace.proofs.access.Goals as goal

pub returns : goal.returns
unfolding access_words
returns c = then {k = 1} {l = 5} (omega arith) c.word-p.ensures (then {k = 1} {l = 4} (omega arith) (rw c.from.ensures at c.word-q.ensures) (then {k = 2} {l = 2} (omega arith) c.pair-x.ensures c.pair.ensures))
