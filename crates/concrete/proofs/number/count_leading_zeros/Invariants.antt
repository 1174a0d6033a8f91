use Rattle.std.proofs.Common.{◌≡◌, ◌+◌, ◌-◌}
use Rattle.meaning.specs.Meaning.{leading_zeros}
use Rattle.wide.specs.Value.{value_of}
use Rattle.concrete.proofs.number.count_leading_zeros.Given as goal

abbrev pub invariant-loop-i : goal.invariant-loop-i
invariant-loop-i l = (l.w - l.i) + leading_zeros l.i (value_of l.a) ≡ leading_zeros l.w (value_of l.a)
