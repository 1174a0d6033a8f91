use Rattle.std.proofs.Common.{◌≡◌, ◌+◌, ◌-◌, ◌≤◌}
use Rattle.meaning.specs.Meaning.{count_ones}
use Rattle.wide.specs.Value.{value_of}
use Rattle.concrete.proofs.number.count_ones.Given as goal

abbrev pub invariant-loop : goal.invariant-loop
invariant-loop l = record {
  few : l.n ≤ l.counter;
  to_come : l.n + count_ones (l.w - l.counter) (value_of l.rest) ≡ count_ones l.w (value_of l.initial.rest);
}
