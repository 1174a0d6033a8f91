-- What the loops of the second pass compute, for the ids of the block.
use Rattle.std.specs.Prelude.{ℕ, ◌≡◌, Bool, true, false, not, ◌&&◌, ◌||◌, List, ◌++◌, eqb, length, get_or, drop, replicate}
use Rattle.pcode.specs.Block.{has_id}
use Rattle.pcode.specs.declared.var.VarId.{VarId}
use Rattle.pcode.specs.declared.block.Stmt.{Stmt}
use Rattle.pcode.specs.declared.block.Marks.{Marks}
use Rattle.vars.specs.declared.Vars.{Vars}
use Rattle.vars.specs.Vars.{row_of, held_ids}
use Rattle.live_tables.specs.declared.rows.Rows.{Rows}
use Rattle.live_tables.specs.Rows.{is_var, RowsAre, Named}
use Rattle.dead_store.specs.Stays.{read_first, persists, judge, dead_of}

-- no statement is dead
unfoldable pub none_dead : List Bool
none_dead = replicate 129 false

-- for the ids l and what persists of them, the marks are those of the statements that do not stay
abbrev pub Walks : List Stmt → List Rows → List Bool → List Bool → Type 0
Walks ss rows p dead =
    (l : List VarId) (persist : VarId → Bool) → Named l ss → RowsAre l ss rows
    → ((id : VarId) → has_id l id ≡ true → get_or p (row_of l id) false ≡ persist id)
    → dead ≡ dead_of (judge persist ss) ++ drop (length ss) none_dead

-- the flags of the operands that were not written yet
abbrev pub first_reads : Stmt → Rows → List Bool → List Bool → ℕ → Bool
first_reads s w written live i =
    (not (get_or written i false) && ((is_var s.first && eqb i w.first) || (is_var s.second && eqb i w.second))) || get_or live i false

-- for the ids l, the flags are those of the ids read before any write since the last label
abbrev pub ReadFirst : List Stmt → List Rows → List Bool → Type 0
ReadFirst ss rows live =
    (l : List VarId) → Named l ss → RowsAre l ss rows
    → (id : VarId) → has_id l id ≡ true → get_or live (row_of l id) false ≡ read_first false ss id

-- the flags of the variables that are kept at the end of a stretch
abbrev pub Persisting : Marks → Vars → List Stmt → List Rows → List Bool → Type 0
Persisting m v ss rows p =
    Named (held_ids v) ss → RowsAre (held_ids v) ss rows
    → (id : VarId) → has_id (held_ids v) id ≡ true → get_or p (row_of (held_ids v) id) false ≡ persists m ss id
