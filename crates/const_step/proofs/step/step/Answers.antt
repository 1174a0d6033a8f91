use Rattle.std.proofs.Common.{sym, subst}
use Rattle.const_eval.specs.State.{State, known_of}
use Rattle.simplify.specs.Simplify.{Apt}
use Rattle.const_step.proofs.Turns.{forgotten_apt}
use Rattle.const_step.proofs.step.step.Goals as goal

pub at_other-requires : goal.at_other-requires
at_other-requires c =
    let a = c.args in
    (subst (λ (z : State). Apt a.vars.now a.s z) (sym c.forget.ensures.after) (forgotten_apt a.vars.now a.temp.now a.s (known_of a.known.now) c.requires.0), c.requires.1)
