-- 01's paragraph on the second pass: which statements stay.
use Rattle.std.specs.Prelude.{ℕ, ◌≤◌, Bool, true, false, not, ◌&&◌, ◌||◌, List, [], ◌∷◌, ◌++◌, length, drop}
use Rattle.pcode.specs.Var.{pick, same_id, as_operand}
use Rattle.pcode.specs.Rules.{side_effects}
use Rattle.pcode.specs.Block.{blank_stmts, held, lasting}
use Rattle.pcode.specs.declared.var.VarId.{VarId}
use Rattle.pcode.specs.declared.var.Operand.{Operand}
use Rattle.pcode.specs.declared.var.Operand.TheVariants.{None, Const, Var}
use Rattle.pcode.specs.Var.{Output}
use Rattle.std.specs.declared.option.Option.TheVariants as Out
use Rattle.pcode.specs.declared.block.Stmt.{Stmt}
use Rattle.pcode.specs.declared.block.Block.{Block}
use Rattle.pcode.specs.declared.block.Marks.{Marks}
use Rattle.vars.specs.Vars.{vars_of}
use Rattle.live_bytes.specs.Bytes.{inside, some_byte}
use Rattle.live_tables.specs.Rows.{edge_of, ends, is_label, is_marker}

-- an operand names byte k of the variable id
abbrev pub names : Operand → VarId → ℕ → Bool
names None id k = false
names (Const v n) id k = false
names (Var v) id k = same_id v.id id && inside v k

-- a statement reads byte k of a variable
abbrev pub reads : Stmt → VarId → ℕ → Bool
reads s id k = names s.first id k || names s.second id k

-- a statement writes byte k of a variable
abbrev pub writes : Stmt → VarId → ℕ → Bool
writes s id k = names (as_operand s.output) id k

-- an operand names the variable id, whichever bytes
abbrev pub names_id : Operand → VarId → Bool
names_id None id = false
names_id (Const v n) id = false
names_id (Var v) id = same_id v.id id

-- the id is read before any write since the last label (whole ids; labels' own operands don't count); w: it was written since then
unfoldable pub read_first : Bool → List Stmt → VarId → Bool
read_first w [] id = false
read_first w (s ∷ ss) id =
    pick (is_label (edge_of s.op)) (read_first false ss id)
    ((not w && (names_id s.first id || names_id s.second id)) || read_first (w || names_id (as_operand s.output) id) ss id)

-- lasting variables, and ids read anywhere in the block before any write since the last label
abbrev pub persists : Marks → List Stmt → VarId → Bool
persists m ss id = lasting m id || read_first false ss id

-- a statement, and whether it stays
pub record Judged : Type 0 where
  pub stmt : Stmt
  pub kept : Bool

-- something overwrites the byte before the next branch, label or marker
unfoldable pub overwritten : List Judged → VarId → ℕ → Bool
overwritten [] id k = false
overwritten (j ∷ js) id k = writes j.stmt id k || (not (ends (edge_of j.stmt.op)) && overwritten js id k)

-- a kept statement reads the byte later in its stretch with no kept write of it between
unfoldable pub read_next : List Judged → VarId → ℕ → Bool
read_next [] id k = false
read_next (j ∷ js) id k =
    (j.kept && reads j.stmt id k)
    || (not (j.kept && writes j.stmt id k) && (not (ends (edge_of j.stmt.op)) && read_next js id k))

-- a kept write of the byte follows in its stretch
unfoldable pub rewritten : List Judged → VarId → ℕ → Bool
rewritten [] id k = false
rewritten (j ∷ js) id k = (j.kept && writes j.stmt id k) || (not (ends (edge_of j.stmt.op)) && rewritten js id k)

-- before the next marker, some later stretch has a kept read of the byte ahead of any kept write there
unfoldable pub read_later : List Judged → VarId → ℕ → Bool
read_later [] id k = false
read_later (j ∷ js) id k =
    not (is_marker (edge_of j.stmt.op)) && ((ends (edge_of j.stmt.op) && read_next js id k) || read_later js id k)

-- the byte is read later in its stretch; or no kept write of it follows there and some later stretch reads it
abbrev pub needed : List Judged → VarId → ℕ → Bool
needed js id k = read_next js id k || (not (rewritten js id k) && read_later js id k)

-- the statement writes a byte that passes a test
abbrev pub writes_some : Output → (VarId → ℕ → Bool) → Bool
writes_some Out.None f = false
writes_some (Out.Some v) f = some_byte (λ k. inside v k && f v.id k)

-- a statement stays if it has side effects; or writes a byte of a persisting variable that nothing overwrites before its stretch ends, or
-- a byte that is needed
abbrev pub stays : (VarId → Bool) → Stmt → List Judged → Bool
stays p s js = side_effects s.op || writes_some s.output (λ id k. (p id && not (overwritten js id k)) || needed js id k)

-- one statement more, judged by those below it
abbrev pub judged : (VarId → Bool) → Stmt → List Judged → List Judged
judged p s js = record { stmt = s; kept = stays p s js } ∷ js

-- each statement, judged by those after it
unfoldable pub judge : (VarId → Bool) → List Stmt → List Judged
judge p [] = []
judge p (s ∷ ss) = judged p s (judge p ss)

-- which statements do not stay
unfoldable pub dead_of : List Judged → List Bool
dead_of [] = []
dead_of (j ∷ js) = not j.kept ∷ dead_of js

-- the elements that are not dead
unfoldable pub without {ℓ} : {A : Type ℓ} → List Bool → List A → List A
without [] xs = []
without (b ∷ bs) [] = []
without (true ∷ bs) (x ∷ xs) = without bs xs
without (false ∷ bs) (x ∷ xs) = x ∷ without bs xs

-- the statements that stay
abbrev pub eliminated : Marks → List Stmt → List Stmt
eliminated m ss = without (dead_of (judge (persists m ss) ss)) ss

-- the block that holds these statements and is blank past them
abbrev pub block_of : List Stmt → Block
block_of l = record { stmts = l ++ drop (length l) blank_stmts; count = length l }

-- at most 129 statements over at most 112 variables
pub record Ready (b : Block) : Type 0 where
  pub stmts : b.count ≤ 129
  pub vars : length (vars_of (held b)) ≤ 112
