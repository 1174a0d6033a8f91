-- Two machines that agree by id: their bytes of a variable are the same, whatever rows they keep it in; and events that are alike.
use Rattle.std.specs.Prelude.{ℕ, ◌≡◌, true, List, [], ◌∷◌, get_or}
use Rattle.pcode.specs.Block.{has_id}
use Rattle.pcode.specs.declared.var.VarId.{VarId}
use Rattle.pcode.specs.declared.block.Stmt.{Stmt}
use Rattle.vars.specs.Vars.{row_of}
use Rattle.machine.specs.Values.{HeldOperand, HeldOutput}
use Rattle.step.specs.Events.{Event, Loaded, Stored, Taken, Marked, Ended}

-- byte k of a variable
abbrev pub by_id : List VarId → List (List ℕ) → VarId → ℕ → ℕ
by_id ids rows id k = get_or (get_or rows (row_of ids id) []) k 0

-- two starts are the same if bytes agree by id, for every id that both tables have
abbrev pub AgreeById : List VarId → List VarId → List (List ℕ) → List (List ℕ) → Type 0
AgreeById ids ids' rows rows' = (id : VarId) → has_id ids id ≡ true → has_id ids' id ≡ true → (k : ℕ) → by_id ids rows id k ≡ by_id ids' rows' id k

-- events of one kind with the same number and values, and with rows that R relates
pub data Alike (R : List (List ℕ) → List (List ℕ) → Type 0) : Event → Event → Type 0 where
  loaded : {n a b : ℕ} → Alike R (Loaded n a b) (Loaded n a b)
  stored : {n a b : ℕ} → Alike R (Stored n a b) (Stored n a b)
  taken : {n a b : ℕ} {rows rows' : List (List ℕ)} → R rows rows' → Alike R (Taken n a b rows) (Taken n a b rows')
  marked : {rows rows' : List (List ℕ)} → R rows rows' → Alike R (Marked rows) (Marked rows')
  ended : {rows rows' : List (List ℕ)} → R rows rows' → Alike R (Ended rows) (Ended rows')

-- one for one
pub data AllAlike (R : List (List ℕ) → List (List ℕ) → Type 0) : List Event → List Event → Type 0 where
  none : AllAlike R [] []
  more : {e e' : Event} {es es' : List Event} → Alike R e e' → AllAlike R es es' → AllAlike R (e ∷ es) (e' ∷ es')

-- a statement's parts lie in a table's rows
pub record HeldStmt (ids : List VarId) (s : Stmt) : Type 0 where
  pub first : HeldOperand ids s.first
  pub second : HeldOperand ids s.second
  pub output : HeldOutput ids s.output

-- statements whose ids the table has
abbrev pub HeldAll : List VarId → List Stmt → Type 0
HeldAll ids [] = Unit {0}
HeldAll ids (s ∷ ss) = HeldStmt ids s × HeldAll ids ss
