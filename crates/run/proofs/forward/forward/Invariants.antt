use Rattle.vars.specs.Vars.{held_ids}
use Rattle.run.proofs.Going.{given_of, Going}
use Rattle.run.proofs.forward.forward.Given as goal

abbrev pub invariant-loop-s : goal.invariant-loop-s
invariant-loop-s l = Going (given_of l.marks (held_ids l.vars) l.answers l.stmts l.initial.state l.initial.trace) l.s-index l.flow l.state l.loads l.trace l.at
