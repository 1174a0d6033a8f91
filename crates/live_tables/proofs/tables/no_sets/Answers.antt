use Rattle.std.proofs.Common.{refl}
use Rattle.live_tables.specs.Tables.{no_sets}
use Rattle.live_tables.proofs.tables.no_sets.Goals as goal

pub returns : goal.returns
unfolding no_sets
returns c = refl
