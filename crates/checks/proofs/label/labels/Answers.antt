use Rattle.std.proofs.Common.{◌∙◌, sym}
use Rattle.checks.proofs.Walks.{walk_end, walk_here, labels_end, labels_more, labels_stop}
use Rattle.checks.proofs.label.labels.Goals as goal

pub returns-then-not-good_label : goal.returns-then-not-good_label
returns-then-not-good_label c = let l = c.args.stmts.now in
    sym (c.loop-i.invariant ∙ labels_stop l c.loop-i.i _ _ _ (walk_here l c.loop-i.i _ c.loop-i-test.true) (sym c.good_label.ensures ∙ c.if-not-good_label.true))

pub loop-i-preserved : goal.loop-i-preserved
loop-i-preserved c = let l = c.args.stmts.now in
    c.loop-i.invariant ∙ labels_more l c.loop-i.i _ _ _ (walk_here l c.loop-i.i _ c.loop-i-test.true) (sym c.good_label.ensures ∙ c.if-not-good_label.false)

pub returns : goal.returns
returns c = let l = c.args.stmts.now in sym (c.loop-i.invariant ∙ labels_end l c.loop-i.i _ (walk_end l c.loop-i.i c.loop-i-test.false))
