use Rattle.bit_vec.proofs.Shifted.{down_law}
use Rattle.bit_vec.proofs.shift.shift_down.Goals as goal

pub returns : goal.returns
returns c = down_law c.args.out.now c.args.a.now _ c.args.k c.args.high c.requires.0 c.requires.1 c.copy_any.ensures
