use Rattle.std.proofs.Common.{ap}
use Rattle.const_eval.specs.State.{known_of}
use Rattle.simplify.specs.Simplify.{Change}
use Rattle.const_step.proofs.Turns.{simplify_in}
use Rattle.const_step.proofs.step.at_other.Goals as goal

pub widen-requires : goal.widen-requires
widen-requires c =
    let a = c.args in
    let x = c.simplify-x in
    simplify_in a.vars.now a.turn a.s (known_of a.known.now) (known_of x.new.known) x.result c.requires.0
    (ap (λ (z : Change). z.state) x.ensures.result_after)
    (ap (λ (z : Change). z.simple) x.ensures.result_after)
