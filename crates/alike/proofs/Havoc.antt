-- A run by id, where a marker leaves something in the temporary bytes that were changed so far: the run over rows is the one where it leaves
-- them alone.
use Rattle.std.proofs.Common.{ℕ, zero, suc, ◌+◌, ◌-◌, ◌*◌, Bool, not, ◌&&◌, ◌||◌, List, [], ◌∷◌, ◌++◌, eqb, ltb, get_or}
use Rattle.pcode.specs.Var.{pick, cut, size_of, size_out, as_operand}
use Rattle.pcode.specs.Block.{lasting}
use Rattle.pcode.specs.declared.var.VarId.{VarId}
use Rattle.pcode.specs.declared.var.Operand.{Operand}
use Rattle.pcode.specs.declared.var.Operand.TheVariants.{None, Const, Var}
use Rattle.pcode.specs.Var.{Output}
use Rattle.std.specs.declared.option.Option.TheVariants as Out
use Rattle.pcode.specs.declared.block.Stmt.{Stmt}
use Rattle.pcode.specs.declared.block.Marks.{Marks}
use Rattle.dead_store.specs.Stays.{names}
use Rattle.meaning.specs.Meaning.{meaning}
use Rattle.state.specs.Bytes.{bytes_of}
use Rattle.step.specs.Steps.{act_of, answer_at, loads_after, flow_of}
use Rattle.step.specs.declared.Act.{Act}
use Rattle.step.specs.Steps.{Flow}
use Rattle.std.specs.Prelude.{None as Next, Some as Jump}
use Rattle.run.specs.Run.{arrived}

-- the bytes of every variable
abbrev pub State : Type 0
State = VarId → ℕ → ℕ

-- a set of bytes
abbrev pub Set : Type 0
Set = VarId → ℕ → Bool

-- n bytes of a variable from byte o on, lowest first, as a number
unfoldable pub num_by : State → VarId → ℕ → ℕ → ℕ
num_by s id o zero = 0
num_by s id o (suc n) = s id o + 256 * num_by s id (suc o) n

abbrev pub value_by : State → Operand → ℕ
value_by s None = 0
value_by s (Const v n) = cut v n
value_by s (Var v) = num_by s v.id v.offset v.size

abbrev pub offset_out : Output → ℕ
offset_out Out.None = 0
offset_out (Out.Some v) = v.offset

-- the state after a number was written to an output
unfoldable pub put_by : State → Output → ℕ → State
put_by s o x id k = pick (names (as_operand o) id k) (get_or (bytes_of 16 x) (k - offset_out o) 0) (s id k)

-- the number that a statement writes to its output, of its operands' values
abbrev pub result_by : List ℕ → ℕ → Stmt → Act → ℕ → ℕ → ℕ
result_by answers n s Act.Nothing a b = 0
result_by answers n s Act.Marks a b = 0
result_by answers n s (Act.Jumps l) a b = 0
result_by answers n s (Act.Exits k) a b = 0
result_by answers n s (Act.Loads k) a b = cut (answer_at answers n) (size_out s.output)
result_by answers n s (Act.Stores k) a b = 0
result_by answers n s Act.Computes a b = meaning s.op (8 * size_of s.first) (8 * size_out s.output) a b

-- the lasting variables stay, as do the bytes not in w; the other bytes become u's
unfoldable pub mixed : Marks → Set → State → State → State
mixed marks w s u id k = pick (lasting marks id) (s id k) (pick (w id k) (u id k) (s id k))

-- the lasting bytes, which an observer sees
unfoldable pub view : Marks → State → State
view marks s id k = pick (lasting marks id && ltb k 16) (s id k) 0

-- an event by id
pub data Sight : Type 0 where
  loaded : ℕ → ℕ → ℕ → Sight
  stored : ℕ → ℕ → ℕ → Sight
  taken : ℕ → ℕ → ℕ → State → Sight
  marked : State → Sight
  ended : State → Sight

abbrev pub sights_of : State → Act → ℕ → ℕ → List Sight
sights_of s Act.Nothing a b = []
sights_of s Act.Marks a b = marked s ∷ []
sights_of s (Act.Jumps l) a b = []
sights_of s (Act.Exits n) a b = pick (eqb a 0) [] (taken n a b s ∷ [])
sights_of s (Act.Loads n) a b = loaded n a b ∷ []
sights_of s (Act.Stores n) a b = stored n a b ∷ []
sights_of s Act.Computes a b = []

-- what each marker of a run leaves in the temporaries, of the state that it meets
abbrev pub Temps : Type 0
Temps = ℕ → State → State

-- the next marker's comes first
abbrev pub temps_after : Act → Temps → Temps
temps_after Act.Nothing u = u
temps_after Act.Marks u = λ n. u (suc n)
temps_after (Act.Jumps l) u = u
temps_after (Act.Exits n) u = u
temps_after (Act.Loads n) u = u
temps_after (Act.Stores n) u = u
temps_after Act.Computes u = u

abbrev pub bytes_after : Marks → Act → Set → State → State → Output → ℕ → State
bytes_after marks Act.Nothing w s u o x = put_by s o x
bytes_after marks Act.Marks w s u o x = mixed marks w s u
bytes_after marks (Act.Jumps l) w s u o x = put_by s o x
bytes_after marks (Act.Exits n) w s u o x = put_by s o x
bytes_after marks (Act.Loads n) w s u o x = put_by s o x
bytes_after marks (Act.Stores n) w s u o x = put_by s o x
bytes_after marks Act.Computes w s u o x = put_by s o x

-- a machine by id: its bytes, those changed so far, and how many load answers were taken
pub record Holding : Type 0 where
  pub bytes : State
  pub changed : Set
  pub loads : ℕ

abbrev pub holding : State → Set → ℕ → Holding
holding s w n = record { bytes = s; changed = w; loads = n }

-- the bytes that a step from s to t changes, and those changed before
abbrev pub also : State → State → Set → Set
also s t w = λ id k. not (eqb (s id k) (t id k)) || w id k

-- the machine after a step to the bytes t
abbrev pub reached : State → Act → Holding → Holding
reached t act h = holding t (also h.bytes t h.changed) (loads_after h.loads act)

-- a marker leaves the temporaries alone; it leaves u 0, u 1 .. in them
abbrev pub calm : Temps
calm n s = s

abbrev pub rough : (ℕ → State) → Temps
rough u n s = u n

module _ (marks : Marks) (answers : List ℕ) where
  -- the machine after a statement that does act on operands' values a and b
  abbrev pub held_after : Temps → Stmt → Act → ℕ → ℕ → Holding → Holding
  held_after u s act a b h = reached (bytes_after marks act h.changed h.bytes (u 0 h.bytes) s.output (result_by answers h.loads s act a b)) act h

  -- what is seen of the run over the rest of a block
  unfoldable pub run_by : Temps → List Stmt → Flow → Holding → List Sight
  run_by u [] flow h = ended (view marks h.bytes) ∷ []
  run_by u (s ∷ ss) Next h =
      sights_of (view marks h.bytes) (act_of s.op) (value_by h.bytes s.first) (value_by h.bytes s.second)
      ++ run_by (temps_after (act_of s.op) u) ss (flow_of (act_of s.op) (value_by h.bytes s.first))
      (held_after u s (act_of s.op) (value_by h.bytes s.first) (value_by h.bytes s.second) h)
  run_by u (s ∷ ss) (Jump l) h = run_by u ss (arrived l s.op) h
