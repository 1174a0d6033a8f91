use Rattle.bit_vec.proofs.Store.{Stored}
use Rattle.bit_vec.specs.Lists.{bits, codes}
use Rattle.bit.specs.Bits.{not_b}
use Rattle.std.proofs.Common.{map, drop}
use Rattle.bit_vec.proofs.logic.not.Given as goal

abbrev pub invariant-loop-x : goal.invariant-loop-x
invariant-loop-x l = Stored l.initial.out (codes (map not_b (bits l.initial.out))) (drop l.x-index (codes (map not_b (bits l.initial.out)))) l.out l.x-index
