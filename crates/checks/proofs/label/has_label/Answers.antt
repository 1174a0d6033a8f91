use Rattle.std.proofs.Common.{◌∙◌, sym}
use Rattle.checks.proofs.Walks.{walk_end, walk_here, label_end, label_more, label_here}
use Rattle.checks.proofs.label.has_label.Goals as goal

pub returns-then-is_label : goal.returns-then-is_label
returns-then-is_label c =
    sym (c.loop-s.invariant ∙ label_here _ c.args.l _ _ (walk_here c.args.stmts.now c.loop-s.s-index _ c.loop-s-test.true) (sym c.is_label.ensures ∙ c.if-is_label.true))

pub loop-s-preserved : goal.loop-s-preserved
loop-s-preserved c =
    c.loop-s.invariant ∙ label_more _ c.args.l _ _ (walk_here c.args.stmts.now c.loop-s.s-index _ c.loop-s-test.true) (sym c.is_label.ensures ∙ c.if-is_label.false)

pub returns : goal.returns
returns c = sym (c.loop-s.invariant ∙ label_end _ c.args.l (walk_end c.args.stmts.now c.loop-s.s-index c.loop-s-test.false))
