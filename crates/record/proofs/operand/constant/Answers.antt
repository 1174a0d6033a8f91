use Rattle.std.proofs.Common.{sym, ◌∙◌, ◌-◌, ◌^◌, eq-eqb, ne_eqb}
use Rattle.fields.specs.Decimals.{decimal_of}
use Rattle.record.proofs.Known.{known}
use Rattle.record.specs.Operands.{const_of}
use Rattle.record.proofs.operand.constant.Goals as goal

pub returns-then-count-ne1 : goal.returns-then-count-ne1
unfolding const_of
returns-then-count-ne1 c = simp (ne_eqb _ _ (λ e. c.if-count-ne1.true (c.count.ensures ∙ e)))

pub returns-in_err-v : goal.returns-in_err-v
unfolding const_of
returns-in_err-v c = rw c.from_residual.ensures (simp (eq-eqb _ _ (sym c.count.ensures ∙ c.if-count-ne1.false), known (decimal_of (2 ^ 64 - 1)) c.part.ensures c.decimal.ensures c.in_err-v.was))

pub returns-in_err-size : goal.returns-in_err-size
unfolding const_of
returns-in_err-size c = rw c.from_residual-in_err-size.ensures (simp (eq-eqb _ _ (sym c.count.ensures ∙ c.if-count-ne1.false), known (decimal_of (2 ^ 64 - 1)) c.part.ensures c.decimal.ensures c.in_ok-v.was, known (decimal_of 255) c.part-2.ensures c.byte.ensures c.in_err-size.was))

pub returns : goal.returns
unfolding const_of
returns c = simp (eq-eqb _ _ (sym c.count.ensures ∙ c.if-count-ne1.false), known (decimal_of (2 ^ 64 - 1)) c.part.ensures c.decimal.ensures c.in_ok-v.was, known (decimal_of 255) c.part-2.ensures c.byte.ensures c.in_ok-size.was)
