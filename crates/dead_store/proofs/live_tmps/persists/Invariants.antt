use Rattle.std.proofs.Common.{◌≡◌, ◌<◌, ℕ, false, ◌||◌, length, get_or}
use Rattle.pcode.specs.Block.{lasting}
use Rattle.live_tables.specs.Rows.{no_id}
use Rattle.dead_store.proofs.live_tmps.persists.Given as goal

abbrev pub invariant-loop-i : goal.invariant-loop-i
invariant-loop-i l = record {
  long : length l.out ≡ 112;
  done : (k : ℕ) → k < l.i → get_or l.out k false ≡ (lasting l.marks (get_or l.vars.ids k no_id) || get_or l.live k false);
}
