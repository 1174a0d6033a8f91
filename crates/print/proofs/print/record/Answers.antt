use Rattle.std.proofs.Common.{arith, ap, ◌++◌}
use Rattle.pcode.specs.declared.var.Operand.{Operand}
use Rattle.print.specs.Printing.{record_text, op_text, operands_text}
use Rattle.print.proofs.Writes.{then, retold}
use Rattle.print.proofs.print.record.Goals as goal

pub returns : goal.returns
unfolding record_text
returns c = let s = c.args.s in
    retold (ap (λ (o : Operand). op_text s.op ++ operands_text o s.first s.second) c.from.ensures) (omega arith) (then {k = 28} {l = 78} (omega arith) c.op_fields-a.ensures c.operand_fields.ensures)
