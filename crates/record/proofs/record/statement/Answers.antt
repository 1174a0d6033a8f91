use Rattle.record.proofs.Known.{known}
use Rattle.record.specs.Operands.{operand_of, output_of}
use Rattle.record.specs.Names.{code_read}
use Rattle.record.specs.Records.{number_in, statement_of}
use Rattle.record.proofs.Names.{code_some, code_none}
use Rattle.record.proofs.record.statement.Goals as goal

pub returns-in_err-k : goal.returns-in_err-k
unfolding statement_of
returns-in_err-k c = rw c.from_residual.ensures (simp (code_none _ (known code_read c.part.ensures c.code.ensures c.in_err-k.was)))

pub returns-in_err-n : goal.returns-in_err-n
unfolding statement_of
returns-in_err-n c =
    let e = code_some _ c.in_ok-k.k (known code_read c.part.ensures c.code.ensures c.in_ok-k.was) in
    rw c.from_residual-in_err-n.ensures (simp (e.0, e.1, known (number_in c.in_ok-k.k) c.part-2.ensures c.number.ensures c.in_err-n.was))

pub returns-in_err-o : goal.returns-in_err-o
unfolding statement_of
returns-in_err-o c =
    let e = code_some _ c.in_ok-k.k (known code_read c.part.ensures c.code.ensures c.in_ok-k.was) in
    rw c.from_residual-in_err-o.ensures (simp (e.0, e.1, known (number_in c.in_ok-k.k) c.part-2.ensures c.number.ensures c.in_ok-n.was, known output_of c.part-3.ensures c.output.ensures c.in_err-o.was))

pub returns-in_err-a : goal.returns-in_err-a
unfolding statement_of
returns-in_err-a c =
    let e = code_some _ c.in_ok-k.k (known code_read c.part.ensures c.code.ensures c.in_ok-k.was) in
    rw c.from_residual-in_err-a.ensures (simp (e.0, e.1, known (number_in c.in_ok-k.k) c.part-2.ensures c.number.ensures c.in_ok-n.was, known output_of c.part-3.ensures c.output.ensures c.in_ok-o.was, known operand_of c.part-4.ensures c.operand.ensures c.in_err-a.was))

pub returns-in_err-b : goal.returns-in_err-b
unfolding statement_of
returns-in_err-b c =
    let e = code_some _ c.in_ok-k.k (known code_read c.part.ensures c.code.ensures c.in_ok-k.was) in
    rw c.from_residual-in_err-b.ensures (simp (e.0, e.1, known (number_in c.in_ok-k.k) c.part-2.ensures c.number.ensures c.in_ok-n.was, known output_of c.part-3.ensures c.output.ensures c.in_ok-o.was, known operand_of c.part-4.ensures c.operand.ensures c.in_ok-a.was, known operand_of c.part-5.ensures c.operand-2.ensures c.in_err-b.was))

pub returns : goal.returns
unfolding statement_of
returns c =
    let e = code_some _ c.in_ok-k.k (known code_read c.part.ensures c.code.ensures c.in_ok-k.was) in
    simp (c.new.ensures, c.named.ensures, e.0, e.1, known (number_in c.in_ok-k.k) c.part-2.ensures c.number.ensures c.in_ok-n.was, known output_of c.part-3.ensures c.output.ensures c.in_ok-o.was, known operand_of c.part-4.ensures c.operand.ensures c.in_ok-a.was, known operand_of c.part-5.ensures c.operand-2.ensures c.in_ok-b.was)
