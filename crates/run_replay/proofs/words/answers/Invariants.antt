use Rattle.std.proofs.Common.{◌≡◌, length}
use Rattle.run_replay.proofs.words.answers.Given as goal

abbrev pub invariant-loop-line : goal.invariant-loop-line
invariant-loop-line l =
    goal.iterator-loop-line.can_next l.line-iterator × goal.iterator-loop-line.is_finite l.line-iterator × (length l.words.room.now ≡ length l.initial.words.room.now)
