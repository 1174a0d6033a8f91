use Rattle.std.proofs.Common.{◌≤◌, length}
use Rattle.eval_replay.proofs.record_fields.numbers.Given as goal

abbrev pub invariant-loop-part : goal.invariant-loop-part
invariant-loop-part l = l.n ≤ length l.initial.row
