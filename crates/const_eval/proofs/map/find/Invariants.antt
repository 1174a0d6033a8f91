use Rattle.std.proofs.Common.{◌≡◌}
use Rattle.const_eval.specs.Map.{entries, find_e, Short}
use Rattle.const_eval.proofs.map.find.Given as goal

abbrev pub invariant-loop-i : goal.invariant-loop-i
invariant-loop-i l = (find_e l.key (entries l.map l.i) ≡ find_e l.key (entries l.map l.n)) × Short (entries l.map l.i)
