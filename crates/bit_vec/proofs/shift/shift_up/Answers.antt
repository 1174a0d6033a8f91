use Rattle.bit_vec.proofs.Shifted.{up_law}
use Rattle.bit_vec.proofs.shift.shift_up.Goals as goal

pub returns : goal.returns
returns c = up_law c.args.out.now c.args.a.now _ _ c.args.k _ c.requires.0 c.requires.1 (rw c.encode-zero.ensures at c.copy_any.ensures) (rw c.encode-zero.ensures at c.repeat.ensures)
