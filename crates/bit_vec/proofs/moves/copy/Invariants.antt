use Rattle.std.proofs.Common.{drop}
use Rattle.bit_vec.proofs.Store.{Stored}
use Rattle.bit_vec.proofs.moves.copy.Given as goal

abbrev pub invariant-loop-i : goal.invariant-loop-i
invariant-loop-i l = Stored l.initial.out l.other (drop l.i l.other) l.out l.i
