use Rattle.std.proofs.Common.{arith}
use Rattle.print.specs.Texts.{const_text}
use Rattle.print.proofs.Writes.{then}
use Rattle.print.proofs.put.constant.Goals as goal

pub returns : goal.returns
unfolding const_text
returns c = then {k = 1} {l = 24} (omega arith) c.byte-p.ensures (then {k = 20} {l = 4} (omega arith) c.decimal-q.ensures (then {k = 1} {l = 3} (omega arith) c.byte-r.ensures c.decimal.ensures))
