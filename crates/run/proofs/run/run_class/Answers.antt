use Rattle.std.proofs.Common.{sym, ◌∙◌, length}
use Rattle.pcode.specs.Block.{held, second_limits}
use Rattle.checks.proofs.Passing.{passing}
use Rattle.run.proofs.Ready.{runnable}
use Rattle.run.proofs.Ended.{done}
use Rattle.run.proofs.run.run_class.Goals as goal

pub named_run-requires : goal.named_run-requires
named_run-requires c = let a = c.args in
    let e = done _ a.class (held a.block.now) (length a.trace.now) (sym c.outcome_of.ensures ∙ c.in_ok-outcome_of.was) in
    let p = passing second_limits a.block.now e.0 in
    rw c.held.ensures (p.short, p.vars, runnable a.block.now e.0, e.1)
