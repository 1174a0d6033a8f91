use Rattle.std.proofs.Common.{length, ◌≡◌}
use Rattle.run_replay.proofs.words.start.Given as goal

abbrev pub invariant-loop-line : goal.invariant-loop-line
invariant-loop-line l =
    goal.iterator-loop-line.can_next l.line-iterator × goal.iterator-loop-line.is_finite l.line-iterator × (length l.state ≡ 112)
