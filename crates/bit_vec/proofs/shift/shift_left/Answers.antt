use Rattle.std.proofs.Common.{◌∙◌, sym, arith}
use Rattle.bit_vec.specs.Lists.{bits}
use Rattle.bit_vec.proofs.Shifted.{const_least}
use Rattle.bit_vec.proofs.shift.shift_left.Goals as goal

pub shift_up-requires : goal.shift_up-requires
shift_up-requires c = (c.requires, omega (arith, c.min-m.ensures, const_least (bits c.args.shift.now) _ (sym c.get_const.ensures ∙ c.in-Some.is)))
