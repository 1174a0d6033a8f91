use Rattle.bit_vec.proofs.Shifted.{copy_law}
use Rattle.bit_vec.proofs.moves.copy_any.Goals as goal

pub returns : goal.returns
returns c = copy_law c.args.out.now c.args.other.now _ _ _ c.args.high c.min-n.ensures c.copy.ensures c.repeat.ensures
