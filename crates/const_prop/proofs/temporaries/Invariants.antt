use Rattle.std.proofs.Common.{◌≡◌, ℕ, ◌<◌, get_or}
use Rattle.const_prop.specs.Pass.{temporary_flag, zero_var}
use Rattle.const_prop.proofs.temporaries.Given as goal

abbrev pub invariant-loop-i : goal.invariant-loop-i
invariant-loop-i l = (k : ℕ) → k < l.i → get_or l.temp k 0 ≡ temporary_flag l.marks (get_or l.ids k zero_var)
