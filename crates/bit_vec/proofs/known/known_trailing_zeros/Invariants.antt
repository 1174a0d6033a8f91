use Rattle.std.proofs.Common.{◌≡◌, ◌+◌, drop}
use Rattle.bit_vec.specs.Lists.{bits}
use Rattle.bit_vec.specs.Known.{trailing_zeros}
use Rattle.bit_vec.proofs.known.known_trailing_zeros.Given as goal

abbrev pub invariant-loop-i : goal.invariant-loop-i
invariant-loop-i l = l.i + trailing_zeros (bits (drop l.i l.s)) ≡ trailing_zeros (bits l.s)
