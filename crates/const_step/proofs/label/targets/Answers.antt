use Rattle.std.proofs.Common.{◌++◌, take, drop, set, ◌∙◌, ap, arith, add-one}
use Rattle.const_step.specs.Labels.{targets_of}
use Rattle.const_step.proofs.Targets.{targets_turn}
use Rattle.const_step.proofs.label.targets.Goals as goal

pub loop-i-preserved : goal.loop-i-preserved
loop-i-preserved c =
    let a = c.args in
    let i = c.loop-i.i in
    rw (add-one i)
    (ap (λ l. set l i c.target.result) c.loop-i.invariant
    ∙ ap (λ v. set (targets_of (take i a.stmts.now) ++ drop i a.jumps.now) i v) c.target.ensures
    ∙ targets_turn a.stmts.now a.jumps.now i _ c.loop-i-test.true (omega arith))
