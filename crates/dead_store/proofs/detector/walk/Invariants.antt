use Rattle.std.proofs.Common.{◌≡◌, Bool, true, false, List, length, get_or}
use Rattle.pcode.specs.Block.{has_id}
use Rattle.pcode.specs.declared.var.VarId.{VarId}
use Rattle.vars.specs.Vars.{row_of}
use Rattle.live_tables.specs.Rows.{Named, RowsAre}
use Rattle.dead_store.specs.Walks.{none_dead}
use Rattle.dead_store.proofs.Walking.{Walked}
use Rattle.dead_store.proofs.detector.walk.Given as goal

abbrev pub invariant-loop-i : goal.invariant-loop-i
invariant-loop-i z = (l : List VarId) (persist : VarId → Bool) → Named l z.stmts → RowsAre l z.stmts z.rows → ((id : VarId) → has_id l id ≡ true → get_or z.persists (row_of l id) false ≡ persist id) → Walked l persist z.persists z.stmts (length z.stmts) none_dead z.i z.tables z.dead
