use Rattle.std.proofs.Common.{drop}
use Rattle.bit_vec.proofs.Store.{Stored}
use Rattle.eval.specs.Name.{name_from}
use Rattle.bit_vec.specs.Lists.{bits, codes}
use Rattle.eval.proofs.name.name.Given as goal

abbrev pub invariant-loop-i : goal.invariant-loop-i
invariant-loop-i l = Stored l.initial.out (codes (name_from l.id 0 (bits l.initial.out))) (drop l.i (codes (name_from l.id 0 (bits l.initial.out)))) l.out l.i
