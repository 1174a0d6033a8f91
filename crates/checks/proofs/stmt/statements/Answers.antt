use Rattle.std.proofs.Common.{◌≡◌, ◌∙◌, sym, Err, rules}
use Rattle.checks.proofs.Walks.{walk_end, walk_here, checks_end, checks_more, checks_stop}
use Rattle.checks.proofs.stmt.statements.Goals as goal

pub returns-in_err-statement : goal.returns-in_err-statement
returns-in_err-statement c =
    let why = c.in_err-statement.field-0.0 in
    let h : c.from_residual.result ≡ Err why = search rules in
    let s = sym c.statement.ensures ∙ c.in_err-statement.was in
    h ∙ sym (c.loop-i.invariant ∙ checks_stop c.loop-i.i _ _ _ (walk_here c.args.stmts.now c.loop-i.i _ c.loop-i-test.true) why s)

pub loop-i-preserved : goal.loop-i-preserved
loop-i-preserved c =
    let s = sym c.statement.ensures ∙ c.in_ok-statement.was in
    c.loop-i.invariant ∙ checks_more c.loop-i.i _ _ _ (walk_here c.args.stmts.now c.loop-i.i _ c.loop-i-test.true) s

pub returns : goal.returns
returns c = sym (c.loop-i.invariant ∙ checks_end c.loop-i.i _ (walk_end c.args.stmts.now c.loop-i.i c.loop-i-test.false))
