use Rattle.std.proofs.Common.{◌≡◌, length}
use Rattle.run_replay.proofs.words.Words.put_rows.Given as goal

abbrev pub invariant-loop-i : goal.invariant-loop-i
invariant-loop-i l = length l.self.room.now ≡ length l.initial.self.room.now
