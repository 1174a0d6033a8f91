use Rattle.std.proofs.Common.{◌≡◌, ◌≤◌, length, Some}
use Rattle.bit_vec.specs.Lists.{bits}
use Rattle.bit_vec.specs.Known.{count_ones}
use Rattle.bit_vec.proofs.Fold.{Down}
use Rattle.bit_vec.proofs.known.count_ones.Given as goal

abbrev pub invariant-loop-c : goal.invariant-loop-c
invariant-loop-c l = Down (λ d. (count_ones (bits d) ≡ Some l.n) × (l.n ≤ length d)) l.s l.c-iterator.iter.rest.now
