use Rattle.std.proofs.Common.{◌≡◌}
use Rattle.bit_vec.specs.Lists.{bits}
use Rattle.bit_vec.specs.Known.{least}
use Rattle.bit_vec.proofs.Fold.{Down}
use Rattle.bit_vec.proofs.known.min.Given as goal

abbrev pub invariant-loop-c : goal.invariant-loop-c
invariant-loop-c l = Down (λ d. l.n ≡ least (bits d)) l.s l.c-iterator.iter.rest.now
