use Rattle.std.proofs.Common.{◌≡◌, length}
use Rattle.text_replay.proofs.replay.Given as goal

abbrev pub invariant-loop-s : goal.invariant-loop-s
invariant-loop-s l = length l.out ≡ length l.initial.out
