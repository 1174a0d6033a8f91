use Rattle.std.proofs.Common.{arith}
use Rattle.print.specs.Printing.{operands_text}
use Rattle.print.proofs.Writes.{then}
use Rattle.print.proofs.print.operand_fields.Goals as goal

pub returns : goal.returns
unfolding operands_text
returns c = then {k = 25} {l = 53} (omega arith) c.operand-a.ensures (then {k = 1} {l = 52} (omega arith) c.byte-b.ensures (then {k = 25} {l = 27} (omega arith) c.operand-c.ensures (then {k = 1} {l = 26} (omega arith) c.byte-d.ensures (then {k = 25} {l = 1} (omega arith) c.operand-e.ensures c.byte.ensures))))
