use Rattle.std.proofs.Common.{◌≡◌, length, take}
use Rattle.print.specs.Texts.{written}
use Rattle.print.proofs.put.copy.Given as goal

abbrev pub invariant-loop-i : goal.invariant-loop-i
invariant-loop-i l = (length l.out ≡ length l.initial.out) × (l.out ≡ written l.initial.out l.at (take l.i l.s))
