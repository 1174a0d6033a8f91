use Rattle.std.proofs.Common.{arith}
use Rattle.eval.proofs.Products.{trailing_le}
use Rattle.eval.proofs.product.mul_known.Goals as goal

pub shift_up-requires : goal.shift_up-requires
shift_up-requires c = (c.requires.1, omega (arith, c.known_trailing_zeros.ensures, trailing_le c.args.known.now))
