use Rattle.bit_vec.proofs.Fold.{Passed}
use Rattle.bit_vec.proofs.known.count_leading_zeros.Given as goal

abbrev pub invariant-loop-c : goal.invariant-loop-c
invariant-loop-c l = Passed l.s l.c-iterator.iter.rest.now l.n
