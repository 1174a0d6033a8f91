use Rattle.std.proofs.Common.{◌∙◌, sym, arith}
use Rattle.bit_vec.specs.Lists.{bits}
use Rattle.bit_vec.proofs.Shifted.{const_least}
use Rattle.bit_vec.proofs.shift.shift_right.Goals as goal

pub shift_down-requires : goal.shift_down-requires
shift_down-requires c = (c.requires, omega (arith, c.min-m.ensures, const_least (bits c.args.shift.now) _ (sym c.get_const.ensures ∙ c.in-Some.is)))
