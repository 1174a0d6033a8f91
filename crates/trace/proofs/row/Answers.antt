use Rattle.std.proofs.Common.{arith, sym, ap, ◌∙◌, Bool, [], take}
use Rattle.pcode.specs.Var.{pick}
use Rattle.state.specs.Bytes.{num_of}
use Rattle.print.proofs.Writes.{none, retold}
use Rattle.trace.specs.Words.{halves}
use Rattle.trace.proofs.row.Goals as goal

pub returns-then-lasting : goal.returns-then-lasting
returns-then-lasting c = retold (ap halves c.number.ensures ∙ sym (ap (λ (t : Bool). pick t (halves (num_of (take 16 c.args.bytes))) []) c.if-lasting.true)) (omega arith) c.pair.ensures

pub returns : goal.returns
returns c = retold (sym (ap (λ (t : Bool). pick t (halves (num_of (take 16 c.args.bytes))) []) c.if-lasting.false)) (omega arith) (none c.args.trace.now c.args.at)
