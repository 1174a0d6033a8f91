use Rattle.std.proofs.Common.{arith, sym, ◌∙◌}
use Rattle.fields.proofs.Decimals.{digits_end, digits_bad, digits_more}
use Rattle.fields.proofs.decimal.digits.Goals as goal

pub returns-in_err-v : goal.returns-in_err-v
returns-in_err-v c = let a = c.args in
    let l = c.loop-b in
    c.from_residual.ensures ∙ sym (l.invariant ∙ digits_bad a.limit l.v a.s.now l.b-index (omega arith) (sym c.step.ensures ∙ c.in_err-v.was))

pub loop-b-preserved : goal.loop-b-preserved
loop-b-preserved c = let a = c.args in
    let l = c.loop-b in
    l.invariant ∙ digits_more a.limit l.v a.s.now l.b-index (omega arith) c.in_ok-v.v (sym c.step.ensures ∙ c.in_ok-v.was)

pub returns : goal.returns
returns c = let a = c.args in
    let l = c.loop-b in
    sym (l.invariant ∙ digits_end a.limit l.v a.s.now l.b-index (omega arith))
