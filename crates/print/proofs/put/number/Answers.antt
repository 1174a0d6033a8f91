use Rattle.std.proofs.Common.{arith, sym, ap, ◌∙◌}
use Rattle.print.specs.Texts.{number_text}
use Rattle.print.proofs.Writes.{retold}
use Rattle.print.proofs.put.number.Goals as goal

pub returns-in-None : goal.returns-in-None
returns-in-None c = retold (sym (ap number_text (sym c.number.ensures ∙ c.in-None.is))) (omega arith) c.byte.ensures

pub returns-in-Some : goal.returns-in-Some
returns-in-Some c = retold (sym (ap number_text (sym c.number.ensures ∙ c.in-Some.is))) (omega arith) c.decimal.ensures
