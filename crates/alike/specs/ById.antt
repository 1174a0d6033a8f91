-- A state by id: the bytes of a variable, whatever row it stands in.
use Rattle.std.specs.Prelude.{ℕ, ◌<◌, ◌≡◌, true, List, [], get_or}
use Rattle.pcode.specs.Var.{pick}
use Rattle.pcode.specs.Block.{has_id}
use Rattle.pcode.specs.declared.var.VarId.{VarId}
use Rattle.vars.specs.Vars.{row_of}

-- byte k of the row of an id
abbrev pub byte_of : List VarId → List (List ℕ) → VarId → ℕ → ℕ
byte_of ids rows id k = get_or (get_or rows (row_of ids id) []) k 0

-- a start: the bytes of every variable
abbrev pub Start : Type 0
Start = VarId → ℕ → ℕ

-- what an observer sees: an unnamed variable keeps its start bytes
unfoldable pub seen_of : List VarId → List (List ℕ) → Start → VarId → ℕ → ℕ
seen_of ids rows start id k = pick (has_id ids id) (byte_of ids rows id k) (start id k)

-- rows that agree by id with a start; two starts are the same if bytes agree by id
abbrev pub StartsAs : List VarId → List (List ℕ) → Start → Type 0
StartsAs ids rows start = (id : VarId) → has_id ids id ≡ true → (k : ℕ) → k < 16 → byte_of ids rows id k ≡ start id k
