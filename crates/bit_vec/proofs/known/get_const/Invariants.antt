use Rattle.std.proofs.Common.{◌≡◌, Some}
use Rattle.bit_vec.specs.Lists.{bits}
use Rattle.bit_vec.specs.Known.{const_from}
use Rattle.bit_vec.proofs.Fold.{Down}
use Rattle.bit_vec.proofs.known.get_const.Given as goal

abbrev pub invariant-loop-c : goal.invariant-loop-c
invariant-loop-c l = Down (λ d. const_from (bits d) ≡ Some l.n) l.s l.c-iterator.iter.rest.now
