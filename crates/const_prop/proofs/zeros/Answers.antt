use Rattle.std.proofs.Common.{refl}
use Rattle.const_prop.specs.Pass.{zeros}
use Rattle.const_prop.proofs.zeros.Goals as goal

pub returns : goal.returns
unfolding zeros
returns g c = refl
