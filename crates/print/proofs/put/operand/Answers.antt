use Rattle.std.proofs.Common.{arith, sym, ap}
use Rattle.print.specs.Texts.{operand_text}
use Rattle.print.proofs.Writes.{retold}
use Rattle.print.proofs.put.operand.Goals as goal

pub returns-in-None : goal.returns-in-None
returns-in-None c = retold (sym (ap operand_text c.in-None.is)) (omega arith) c.byte.ensures

pub returns-in-Const : goal.returns-in-Const
returns-in-Const c = retold (sym (ap operand_text c.in-Const.is)) (omega arith) c.constant.ensures

pub returns-in-Var : goal.returns-in-Var
returns-in-Var c = retold (sym (ap operand_text c.in-Var.is)) (omega arith) c.variable.ensures
