use Rattle.const_eval.specs.State.{known_of}
use Rattle.uses.proofs.Replaced.{found_fit}
use Rattle.uses.proofs.becomes.Goals as goal

pub given-requires : goal.given-requires
given-requires c = found_fit (known_of c.args.known.now) c.args.key.now c.lookup.result c.requires c.lookup.ensures
