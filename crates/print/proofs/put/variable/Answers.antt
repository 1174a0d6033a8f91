use Rattle.std.proofs.Common.{arith}
use Rattle.print.specs.Texts.{var_text}
use Rattle.print.proofs.Writes.{then}
use Rattle.print.proofs.put.variable.Goals as goal

pub returns : goal.returns
unfolding var_text
returns c = then {k = 1} {l = 14} (omega arith) c.byte-p.ensures (then {k = 6} {l = 8} (omega arith) c.id-q.ensures (then {k = 1} {l = 7} (omega arith) c.byte-r.ensures (then {k = 3} {l = 4} (omega arith) c.decimal-s.ensures (then {k = 1} {l = 3} (omega arith) c.byte-t.ensures c.decimal.ensures))))
