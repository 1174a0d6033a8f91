use Rattle.std.proofs.Common.{◌≡◌, length}
use Rattle.bit_vec.specs.Lists.{bits, scanned, place_step, last_place}
use Rattle.bit_vec.proofs.ripple.last_place.Given as goal

abbrev pub invariant-loop-x : goal.invariant-loop-x
invariant-loop-x l = record {
  long : length l.x-iterator.a.rest.now ≡ length l.x-iterator.b.rest.now;
  to_come : scanned (place_step l.op) l.p (bits l.x-iterator.a.rest.now) (bits l.x-iterator.b.rest.now) ≡ last_place l.op (bits l.a) (bits l.b);
}
