use Rattle.std.proofs.Common.{refl}
use Rattle.const_eval.specs.Map.{place_at}
use Rattle.const_eval.proofs.map.place_at.Goals as goal

pub returns : goal.returns
unfolding place_at
returns c = refl
