use Rattle.std.proofs.Common.{refl}
use Rattle.live_tables.specs.Tables.{no_flags}
use Rattle.live_tables.proofs.tables.no_flags.Goals as goal

pub returns : goal.returns
unfolding no_flags
returns c = refl
