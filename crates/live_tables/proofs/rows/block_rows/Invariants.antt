use Rattle.std.proofs.Common.{◌≡◌, ◌<◌, ℕ, length, get_or}
use Rattle.pcode.specs.Block.{blank_stmt}
use Rattle.vars.specs.Vars.{held_ids}
use Rattle.live_tables.specs.Rows.{rows_of, no_row}
use Rattle.live_tables.proofs.rows.block_rows.Given as goal

abbrev pub invariant-loop-i : goal.invariant-loop-i
invariant-loop-i l = record {
  long : length l.out ≡ 129;
  done : (k : ℕ) → k < l.i → get_or l.out k no_row ≡ rows_of (held_ids l.vars) (get_or l.stmts k blank_stmt);
}
