use Rattle.bit_vec.proofs.Store.{Walked}
use Rattle.bit_vec.specs.Lists.{logic_b, each, still}
use Rattle.bit_vec.proofs.logic.bitwise.Given as goal

abbrev pub invariant-loop-i : goal.invariant-loop-i
invariant-loop-i l = Walked (each (logic_b l.op)) still tt l.initial.out l.other tt l.out l.i
