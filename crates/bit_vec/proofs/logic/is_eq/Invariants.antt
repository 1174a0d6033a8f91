use Rattle.std.proofs.Common.{◌≡◌, ◌+◌, ◌≤◌, length}
use Rattle.bit_vec.specs.Lists.{bits, eq_from, eq_bits}
use Rattle.bit_vec.proofs.logic.is_eq.Given as goal

abbrev pub invariant-loop-x : goal.invariant-loop-x
invariant-loop-x l = record {
  long : length l.x-iterator.a.rest.now ≡ length l.x-iterator.b.rest.now;
  few : l.undecided + length l.x-iterator.a.rest.now ≤ length l.a;
  to_come : eq_from (bits l.x-iterator.a.rest.now) (bits l.x-iterator.b.rest.now) l.undecided l.last ≡ eq_bits (bits l.a) (bits l.b);
}
