use Rattle.bit_vec.proofs.Shifted.{high_law}
use Rattle.bit_vec.proofs.shift.unknown_below.Goals as goal

pub returns : goal.returns
returns c = high_law c.args.out.now _ _ c.args.m _ _ c.requires c.fill.ensures c.repeat.ensures
