use Rattle.std.proofs.Common.{refl}
use Rattle.vars.specs.Vars.{no_ids}
use Rattle.vars.proofs.Vars.none.Goals as goal

pub returns : goal.returns
unfolding no_ids
returns c = refl
