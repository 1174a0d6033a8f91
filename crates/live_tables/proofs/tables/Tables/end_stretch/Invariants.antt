use Rattle.std.proofs.Common.{◌≡◌, ◌<◌, ℕ, length, get_or}
use Rattle.live_tables.specs.Tables.{empty, joined_set}
use Rattle.live_tables.proofs.tables.Tables.end_stretch.Given as goal

abbrev pub invariant-loop-i : goal.invariant-loop-i
invariant-loop-i l = record {
  long : length l.all ≡ 112;
  done : (k : ℕ) → k < l.i → get_or l.all k empty ≡ joined_set l.marker (get_or l.self.reads k empty) (get_or l.self.across k empty);
}
