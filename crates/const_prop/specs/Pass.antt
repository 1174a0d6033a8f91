-- The first pass: one step for each statement, from the first to the last.
use Rattle.std.specs.Prelude.{ℕ, zero, suc, ◌+◌, ◌<◌, ◌≤◌, ◌≡◌, List, [], ◌∷◌, ◌++◌, Option, None, Result, Ok, Err, map, pos, length, take, drop, get_or, set, replicate}
use Rattle.pcode.specs.Var.{pick, least_id}
use Rattle.pcode.specs.Block.{blank_stmt, blank_stmts, lasting}
use Rattle.pcode.specs.declared.var.VarId.{VarId}
use Rattle.pcode.specs.declared.refusal.Refusal.{Refusal}
use Rattle.pcode.specs.declared.var.PcodeLabel.{PcodeLabel}
use Rattle.pcode.specs.declared.block.Stmt.{Stmt}
use Rattle.pcode.specs.declared.block.Block.{Block}
use Rattle.pcode.specs.declared.block.Marks.{Marks}
use Rattle.vars.specs.Vars.{ids_of}
use Rattle.vars.specs.declared.Vars.{Vars}
use Rattle.const_eval.specs.State.{State, state_of}
use Rattle.uses.specs.Operands.{InOperand}
use Rattle.simplify.specs.Simplify.{InOutput, Rows}
use Rattle.widen.specs.Turn.{turn_of}
use Rattle.widen.specs.Widen.{refusal_of, made_in}
use Rattle.widen.specs.declared.widen.Why.{Why}
use Rattle.widen.specs.declared.widen.Made.{Made}
use Rattle.const_step.specs.Labels.{targets_of, end_of}
use Rattle.const_step.specs.Steps.{Step, step_by}

-- the block's variables, which of their rows are temporaries', and the block
pub record Env : Type 0 where
  pub vars : Vars
  pub temp : List ℕ
  pub block : List Stmt

-- the ids of some statements
unfoldable pub all_ids : List Stmt → List VarId
all_ids [] = []
all_ids (s ∷ ss) = ids_of s ++ all_ids ss

-- the least of an id and others
unfoldable pub least_from : VarId → List VarId → VarId
least_from x [] = x
least_from x (y ∷ ys) = least_from (least_id x y) ys

-- the id 0
abbrev pub zero_var : VarId
zero_var = record { 0 = pos 0 }

-- the least of 0 and all ids in the block given and the result so far
abbrev pub least_of : Env → List Stmt → VarId
least_of env made = least_from (least_from zero_var (all_ids env.block)) (all_ids made)

-- the walk: what is known, a skip under way, and the result so far
pub record Walk : Type 0 where
  pub state : State
  pub skip : Option PcodeLabel
  pub made : List Stmt

-- one statement, with those below it
unfoldable pub step_of : Env → List Stmt → Walk → Stmt → Step
step_of env below w st =
    step_by env.vars env.temp (targets_of below) (targets_of w.made) (least_of env w.made) w.skip (turn_of st.op) st w.state

-- the statements that a step gives
abbrev pub stmts_of : Made → List Stmt
stmts_of m = take m.count (m.first ∷ (m.second ∷ []))

-- the result with what a step gives after it
abbrev pub added_to : Block → Made → Block
added_to b m = record { stmts = set (set b.stmts b.count m.first) (b.count + 1) m.second; count = b.count + m.count }

-- the walk after a step
abbrev pub after_step : Walk → Step → Walk
after_step w x = record { state = x.state; skip = (made_in x.made).skip; made = w.made ++ stmts_of (made_in x.made) }

-- the block of some statements, blank past them
abbrev pub block_with : List Stmt → Block
block_with l = record { stmts = l ++ drop (length l) blank_stmts; count = length l }

-- a result of these statements
abbrev pub gives : List Stmt → Result Block Refusal
gives l = Ok (block_with l)

-- 8 and 9 come at the first statement that meets one
abbrev pub answer_by : Result Made Why → ℕ → Result Block Refusal → Result Block Refusal
answer_by (Ok m) i next = next
answer_by (Err y) i next = Err (refusal_of y i)

-- the result of a walk that is at its end
abbrev pub ended : Walk → List Stmt
ended w = w.made ++ stmts_of (end_of w.skip)

-- the rest of the block, from statement i on
unfoldable pub walk_from : Env → ℕ → Walk → List Stmt → Result Block Refusal
walk_from env i w [] = gives (ended w)
walk_from env i w (st ∷ rest) =
    answer_by (step_of env rest w st).made i (walk_from env (i + 1) (after_step w (step_of env rest w st)) rest)

-- the walk after the first n statements
unfoldable pub walk_after : Env → Walk → List Stmt → ℕ → Walk
walk_after env w ss zero = w
walk_after env w [] (suc n) = w
walk_after env w (st ∷ rest) (suc n) = walk_after env (after_step w (step_of env rest w st)) rest n

-- that many zeros
unfoldable pub zeros : ℕ → List ℕ
zeros n = replicate n 0

-- nothing is known: a store of 48 rows, none in use, and a value map with room for 256 entries
abbrev pub no_store : List ℕ
no_store = zeros 6144

-- no row is in use
abbrev pub no_use : List ℕ
no_use = zeros 48

-- a value map without entries
abbrev pub no_map : List ℕ
no_map = zeros 33536

-- what is known at the beginning
abbrev pub start_state : State
start_state = state_of no_store no_use no_map (record { count = 0; next = 0 })

-- the walk at the beginning
abbrev pub start_walk : Walk
start_walk = record { state = start_state; skip = None; made = [] }

-- 1 for a temporary, 0 for a lasting variable
abbrev pub temporary_flag : Marks → VarId → ℕ
temporary_flag m id = pick (lasting m id) 0 1

-- the flags of some ids
abbrev pub temporary_flags : Marks → List VarId → List ℕ
temporary_flags m ids = map (temporary_flag m) ids

-- what a block's walk goes by
abbrev pub env_of : Vars → Marks → List Stmt → Env
env_of vars m block = record { vars = vars; temp = temporary_flags m (take 48 vars.ids); block = block }

-- the first pass on a checked block
abbrev pub propagated_of : Vars → Marks → List Stmt → Result Block Refusal
propagated_of vars m block = walk_from (env_of vars m block) 0 start_walk block

-- operands and outputs stand in the store of 48 rows
pub record InStore (vars : Vars) (st : Stmt) : Type 0 where
  pub first : InOperand 48 vars st.first
  pub second : InOperand 48 vars st.second
  pub output : InOutput 48 vars st.output

-- a block of at most 64 statements whose parts stand in the store
pub record Stands (stmts : List Stmt) (vars : Vars) : Type 0 where
  pub few : length stmts ≤ 64
  pub table : length vars.ids ≡ 112
  pub parts : (i : ℕ) → i < length stmts → InStore vars (get_or stmts i blank_stmt)

-- what the walk begins with: nothing known, rows for constants and a value, and the block's targets
pub record Begins (s : State) (ca cb out temp below jumps : List ℕ) (stmts : List Stmt) (vars : Vars) : Type 0 where
  pub state : s ≡ start_state
  pub rows : Rows ca cb out
  pub flags : length temp ≡ 48
  pub targets : below ≡ targets_of stmts
  pub jumps_room : 128 ≤ length jumps
  pub stands : Stands stmts vars
