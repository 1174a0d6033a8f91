use Rattle.const_eval.specs.State.{known_of}
use Rattle.uses.specs.Operands.{place_of}
use Rattle.uses.proofs.Replaced.{use_after}
use Rattle.uses.proofs.variable.Goals as goal

pub stored-value-requires : goal.stored-value-requires
stored-value-requires c =
    let a = c.args in
    use_after (place_of a.vars.now a.v) c.place-p.result (known_of a.known.now) (known_of c.first_use.new.self) c.requires.0 c.requires.1 c.place-p.ensures c.first_use.ensures.after
