use Rattle.std.proofs.Common.{sym, ◌∙◌, eq-eqb, ne_eqb}
use Rattle.fields.specs.Decimals.{decimal_of}
use Rattle.record.proofs.Known.{known}
use Rattle.record.specs.Operands.{id_of, var_of}
use Rattle.record.proofs.operand.variable.Goals as goal

pub returns-then-count-ne2 : goal.returns-then-count-ne2
unfolding var_of
returns-then-count-ne2 c = simp (ne_eqb _ _ (λ e. c.if-count-ne2.true (c.count.ensures ∙ e)))

pub returns-in_err-v : goal.returns-in_err-v
unfolding var_of
returns-in_err-v c = rw c.from_residual.ensures (simp (eq-eqb _ _ (sym c.count.ensures ∙ c.if-count-ne2.false), known id_of c.part.ensures c.id.ensures c.in_err-v.was))

pub returns-in_err-offset : goal.returns-in_err-offset
unfolding var_of
returns-in_err-offset c = rw c.from_residual-in_err-offset.ensures (simp (eq-eqb _ _ (sym c.count.ensures ∙ c.if-count-ne2.false), known id_of c.part.ensures c.id.ensures c.in_ok-v.was, known (decimal_of 255) c.part-2.ensures c.byte.ensures c.in_err-offset.was))

pub returns-in_err-size : goal.returns-in_err-size
unfolding var_of
returns-in_err-size c = rw c.from_residual-in_err-size.ensures (simp (eq-eqb _ _ (sym c.count.ensures ∙ c.if-count-ne2.false), known id_of c.part.ensures c.id.ensures c.in_ok-v.was, known (decimal_of 255) c.part-2.ensures c.byte.ensures c.in_ok-offset.was, known (decimal_of 255) c.part-3.ensures c.byte-2.ensures c.in_err-size.was))

pub returns : goal.returns
unfolding var_of
returns c = simp (eq-eqb _ _ (sym c.count.ensures ∙ c.if-count-ne2.false), known id_of c.part.ensures c.id.ensures c.in_ok-v.was, known (decimal_of 255) c.part-2.ensures c.byte.ensures c.in_ok-offset.was, known (decimal_of 255) c.part-3.ensures c.byte-2.ensures c.in_ok-size.was)
