use Rattle.std.proofs.Common.{sym, ◌∙◌, arith}
use Rattle.vars.proofs.Rows.{row_end, row_found, row_passed}
use Rattle.vars.proofs.Vars.row.Goals as goal

pub loop-i-preserved : goal.loop-i-preserved
loop-i-preserved c = c.loop-i.invariant ∙ row_passed c.held-ids.result.now c.args.id c.loop-i.i _ c.loop-i-test.true (sym c.eq.ensures ∙ c.if-eq.false)

pub returns-then-eq : goal.returns-then-eq
returns-then-eq c =
    let e = row_found c.held-ids.result.now c.args.id c.loop-i.i _ c.loop-i-test.true (sym c.eq.ensures ∙ c.if-eq.true) in
    rw (sym c.held-ids.ensures) (omega (arith, c.loop-i.invariant))

pub returns : goal.returns
returns c =
    let e = row_end c.held-ids.result.now c.args.id c.loop-i.i c.loop-i-test.false in
    rw (sym c.held-ids.ensures) (omega (arith, c.loop-i.invariant))
