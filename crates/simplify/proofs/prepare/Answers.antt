use Rattle.const_eval.specs.State.{known_of}
use Rattle.simplify.proofs.Grows.{second_ready}
use Rattle.simplify.proofs.prepare.Goals as goal

pub operand-y-requires : goal.operand-y-requires
operand-y-requires c =
    let a = c.args in
    let x = c.operand-x in
    let r = second_ready a.vars.now a.s (known_of a.known.now) (known_of x.new.known) c.requires.0 x.ensures.used.state in
    (r.0, r.1, c.requires.2)
