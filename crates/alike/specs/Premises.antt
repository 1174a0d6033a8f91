-- What is asked of a block and its start: branches inside one instruction, no read of a temporary byte that an earlier one last wrote, and
-- constants that fit the code's type.
use Rattle.std.specs.Prelude.{ℕ, ◌^◌, ◌<◌, Bool, true, false, not, ◌&&◌, ◌||◌, List, [], ◌∷◌}
use Rattle.pcode.specs.Block.{lasting}
use Rattle.pcode.specs.declared.var.VarId.{VarId}
use Rattle.pcode.specs.declared.var.PcodeLabel.{PcodeLabel as Label}
use Rattle.pcode.specs.declared.var.Operand.{Operand}
use Rattle.pcode.specs.declared.var.Operand.TheVariants.{None, Const, Var}
use Rattle.pcode.specs.declared.block.Stmt.{Stmt}
use Rattle.pcode.specs.declared.block.Marks.{Marks}
use Rattle.vars.specs.Vars.{vars_of}
use Rattle.checks.specs.Labels.{is_label}
use Rattle.live_bytes.specs.Bytes.{inside, some_byte}
use Rattle.live_tables.specs.Rows.{edge_of, is_marker}
use Rattle.dead_store.specs.Stays.{writes}
use Rattle.step.specs.Steps.{Machine, act_of, step_of}
use Rattle.step.specs.declared.Act.{Act}
use Rattle.step.specs.Steps.{Flow}
use Rattle.std.specs.Prelude.{None as Next, Some as Jump}
use Rattle.run.specs.Run.{arrived, start_of}

-- a label stands below with no marker between
unfoldable pub reaches : Label → List Stmt → Bool
reaches l [] = false
reaches l (s ∷ ss) = is_label s.op l || (not (is_marker (edge_of s.op)) && reaches l ss)

-- a branch reaches its label; other statements have none to reach
abbrev pub lands : Act → List Stmt → Bool
lands Act.Nothing ss = true
lands Act.Marks ss = true
lands (Act.Jumps l) ss = reaches l ss
lands (Act.Exits n) ss = true
lands (Act.Loads n) ss = true
lands (Act.Stores n) ss = true
lands Act.Computes ss = true

-- every branch is forward and inside one instruction
unfoldable pub in_one_instruction : List Stmt → Bool
in_one_instruction [] = true
in_one_instruction (s ∷ ss) = lands (act_of s.op) ss && in_one_instruction ss

-- for each byte, whether it was written in this instruction, and whether it was last written in an earlier one
pub record Since : Type 0 where
  pub now : VarId → ℕ → Bool
  pub before : VarId → ℕ → Bool

-- nothing was written
abbrev pub none_yet : Since
none_yet = record { now = λ id k. false; before = λ id k. false }

-- an operand names a temporary byte that was last written in an earlier instruction
abbrev pub stale : Marks → Since → Operand → Bool
stale marks w None = false
stale marks w (Const v n) = false
stale marks w (Var v) = not (lasting marks v.id) && some_byte (λ k. inside v k && w.before v.id k)

-- labels and markers read nothing
abbrev pub reads_stale : Marks → Since → Act → Operand → Operand → Bool
reads_stale marks w Act.Nothing a b = false
reads_stale marks w Act.Marks a b = false
reads_stale marks w (Act.Jumps l) a b = stale marks w a || stale marks w b
reads_stale marks w (Act.Exits n) a b = stale marks w a || stale marks w b
reads_stale marks w (Act.Loads n) a b = stale marks w a || stale marks w b
reads_stale marks w (Act.Stores n) a b = stale marks w a || stale marks w b
reads_stale marks w Act.Computes a b = stale marks w a || stale marks w b

-- after a statement's write
abbrev pub wrote : Since → Stmt → Since
wrote w s = record { now = λ id k. writes s id k || w.now id k; before = λ id k. not (writes s id k) && w.before id k }

-- a marker begins an instruction
abbrev pub since_after : Since → Stmt → Act → Since
since_after w s Act.Nothing = wrote w s
since_after w s Act.Marks = record { now = λ id k. false; before = λ id k. w.now id k || w.before id k }
since_after w s (Act.Jumps l) = wrote w s
since_after w s (Act.Exits n) = wrote w s
since_after w s (Act.Loads n) = wrote w s
since_after w s (Act.Stores n) = wrote w s
since_after w s Act.Computes = wrote w s

-- the run over the rest of a block reads no temporary byte last written by an earlier instruction
unfoldable pub reads_fresh : Marks → List VarId → List ℕ → List Stmt → Flow → Machine → Since → Bool
reads_fresh marks ids answers [] flow m w = true
reads_fresh marks ids answers (s ∷ ss) Next m w =
    not (reads_stale marks w (act_of s.op) s.first s.second)
    && reads_fresh marks ids answers ss (step_of ids answers m s).flow (step_of ids answers m s).machine (since_after w s (act_of s.op))
reads_fresh marks ids answers (s ∷ ss) (Jump l) m w = reads_fresh marks ids answers ss (arrived l s.op) m w

-- the same of a block's run
unfoldable pub fresh_run : Marks → List ℕ → List Stmt → List (List ℕ) → Bool
fresh_run marks answers ss rows = reads_fresh marks (vars_of ss) answers ss Next (start_of rows) none_yet

-- a constant is below 2^64
abbrev pub Short : Operand → Type 0
Short None = Unit {0}
Short (Const k n) = k < 2 ^ 64
Short (Var v) = Unit {0}

-- every constant is below 2^64: the type of a constant in the code is u64, the definitions hold numbers without bound
unfoldable pub AllShort : List Stmt → Type 0
AllShort [] = Unit {0}
AllShort (s ∷ ss) = (Short s.first × Short s.second) × AllShort ss
