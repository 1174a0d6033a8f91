use Rattle.std.proofs.Common.{◌*◌, arith}
use Rattle.print.proofs.Writes.{then, retold, none}
use Rattle.print.proofs.Records.{printed_none, printed_more}
use Rattle.print.proofs.print.records.Goals as goal

pub loop-s-init : goal.loop-s-init
loop-s-init c = retold (printed_none c.args.stmts.now) (omega arith) (none c.args.out.now 0)

pub loop-s-preserved : goal.loop-s-preserved
loop-s-preserved c = let l = c.loop-s in
    retold (printed_more c.args.stmts.now l.s-index (omega arith)) (omega arith) (then {k = 106 * l.s-index} {l = 106} (omega arith) l.invariant c.record-at.ensures)
