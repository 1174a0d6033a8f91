use Rattle.std.proofs.Common.{◌≡◌, true, false, List, get_or}
use Rattle.pcode.specs.Block.{has_id}
use Rattle.pcode.specs.declared.var.VarId.{VarId}
use Rattle.vars.specs.Vars.{row_of}
use Rattle.live_tables.specs.Rows.{Named, RowsAre}
use Rattle.dead_store.proofs.Scanning.{Scanned}
use Rattle.dead_store.proofs.live_tmps.live_tmps.Given as goal

abbrev pub invariant-loop-i : goal.invariant-loop-i
invariant-loop-i z = (l : List VarId) → Named l z.stmts → RowsAre l z.stmts z.rows → (id : VarId) → has_id l id ≡ true → Scanned z.stmts id z.i (get_or z.live (row_of l id) false) (get_or z.written (row_of l id) false)
