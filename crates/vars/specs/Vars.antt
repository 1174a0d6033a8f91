-- The block's variables in the order of first naming (output, first, second), the row of each, and where a limit is passed.
use Rattle.std.specs.Prelude.{ℕ, suc, Bool, ◌≡◌, ◌≤◌, List, [], ◌∷◌, ◌++◌, Option, None as Nothing, Some, ltb, leb, min, pos, length, take, drop, replicate}
use Rattle.pcode.specs.Var.{pick, same_id, as_operand}
use Rattle.pcode.specs.Block.{has_id}
use Rattle.pcode.specs.declared.var.VarId.{VarId}
use Rattle.pcode.specs.declared.var.Operand.{Operand}
use Rattle.pcode.specs.declared.var.Operand.TheVariants.{None, Const, Var}
use Rattle.pcode.specs.declared.block.Stmt.{Stmt}
use Rattle.vars.specs.declared.Vars.{Vars}
use Rattle.vars.specs.declared.Naming.{Naming}

-- the id that an operand names
abbrev pub ids_in : Operand → List VarId
ids_in None = []
ids_in (Const v n) = []
ids_in (Var v) = v.id ∷ []

-- the ids that a statement names: output, first, second
abbrev pub ids_of : Stmt → List VarId
ids_of s = ids_in (as_operand s.output) ++ (ids_in s.first ++ ids_in s.second)

-- an id goes to the end unless it is among them
unfoldable pub join_id : List VarId → VarId → List VarId
join_id l id = pick (has_id l id) l (l ++ (id ∷ []))

-- one id after the other
unfoldable pub join_ids : List VarId → List VarId → List VarId
join_ids l [] = l
join_ids l (x ∷ xs) = join_ids (join_id l x) xs

-- the variables of a list, then those that statements name first
unfoldable pub vars_from : List VarId → List Stmt → List VarId
vars_from l [] = l
vars_from l (s ∷ ss) = vars_from (join_ids l (ids_of s)) ss

-- the block's variables in the order of first naming
unfoldable pub vars_of : List Stmt → List VarId
vars_of ss = vars_from [] ss

-- the place of the first same id; the length where there is none
unfoldable pub row_of : List VarId → VarId → ℕ
row_of [] id = 0
row_of (x ∷ xs) id = pick (same_id x id) 0 (suc (row_of xs id))

-- after l, the first statement that names a variable beyond m; the length where there is none
unfoldable pub over_from : ℕ → List VarId → List Stmt → ℕ
over_from m l [] = 0
over_from m l (s ∷ ss) = pick (ltb m (length (join_ids l (ids_of s)))) 0 (suc (over_from m (join_ids l (ids_of s)) ss))

-- the first statement that names a variable beyond the limit
abbrev pub too_many : ℕ → List Stmt → ℕ
too_many m ss = over_from m [] ss

-- the ids that a table holds
abbrev pub held_ids : Vars → List VarId
held_ids v = take v.count v.ids

-- a table without ids
unfoldable pub no_ids : List VarId
no_ids = replicate 112 (record { 0 = pos 0 })

-- the table that holds a list's ids
abbrev pub table_of : List VarId → Vars
table_of l = record { ids = l ++ drop (length l) no_ids; count = length l }

-- at most 112 rows
abbrev pub cap_of : ℕ → ℕ
cap_of m = min m 112

-- a table of at most m ids and at most 112
pub record Sits (m : ℕ) (v : Vars) : Type 0 where
  pub table : v ≡ table_of (held_ids v)
  pub small : length (held_ids v) ≤ m
  pub room : m ≤ 112

-- the table of a list's ids, where they are at most m
abbrev pub if_fits : ℕ → List VarId → Option Vars
if_fits m l = pick (leb (length l) m) (Some (table_of l)) Nothing

-- a table that an id found room in, or none
abbrev pub told : Bool → Vars → Option Vars
told found v = pick found (Some v) Nothing

-- the table of the statements before the first that names a variable beyond m, and its place
abbrev pub named_of : ℕ → List Stmt → Naming
named_of m ss = record { vars = table_of (vars_of (take (too_many m ss) ss)); place = too_many m ss }
