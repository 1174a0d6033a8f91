use Rattle.bit_vec.proofs.Store.{Walked}
use Rattle.bit_vec.specs.Lists.{digit_b, carry_b}
use Rattle.bit.specs.declared.Bit.TheVariants.{Zero}
use Rattle.bit_vec.proofs.ripple.ripple_in.Given as goal

abbrev pub invariant-loop-i : goal.invariant-loop-i
invariant-loop-i l = Walked digit_b (carry_b l.op) Zero l.initial.out l.other l.p.carry l.out l.i
