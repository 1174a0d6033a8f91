use Rattle.std.proofs.Common.{arith}
use Rattle.print.proofs.Writes.{then}
use Rattle.trace.specs.Words.{state_words}
use Rattle.trace.proofs.shown.Goals as goal

pub returns : goal.returns
unfolding state_words
returns c = then {k = 1} {l = 225} (omega arith) c.word-p.ensures (then {k = 1} {l = 224} (omega arith) c.word-q.ensures c.lasting.ensures)
