-- The run of a block: statement by statement, forward, a jump passing over everything up to its label.
use Rattle.std.specs.Prelude.{ℕ, ◌<◌, ◌≡◌, List, [], ◌∷◌, ◌++◌, None, Some, length, get_or}
use Rattle.pcode.specs.Var.{pick}
use Rattle.pcode.specs.Block.{blank_stmt}
use Rattle.pcode.specs.declared.var.VarId.{VarId}
use Rattle.pcode.specs.declared.var.PcodeLabel.{PcodeLabel as Label}
use Rattle.pcode.specs.declared.op.Op.{Op}
use Rattle.pcode.specs.declared.block.Stmt.{Stmt}
use Rattle.vars.specs.Vars.{vars_of}
use Rattle.checks.specs.Labels.{is_label}
use Rattle.machine.specs.Values.{Bytes, ReadyOut}
use Rattle.step.specs.Events.{Event, Ended}
use Rattle.step.specs.Steps.{Machine, Flow, step_of}

-- a jump ends where its label stands
abbrev pub arrived : Label → Op → Flow
arrived l op = pick (is_label op l) None (Some l)

-- the events of a run over the rest of a block, from the machine that it meets
unfoldable pub run_from : List VarId → List ℕ → List Stmt → Flow → Machine → List Event
run_from ids answers [] flow m = Ended m.rows ∷ []
run_from ids answers (s ∷ ss) None m =
    (step_of ids answers m s).events ++ run_from ids answers ss (step_of ids answers m s).flow (step_of ids answers m s).machine
run_from ids answers (s ∷ ss) (Some l) m = run_from ids answers ss (arrived l s.op) m

-- a machine before its first load
abbrev pub start_of : List (List ℕ) → Machine
start_of rows = record { rows = rows; loads = 0 }

-- the events of a block's run from rows in the order of first naming
unfoldable pub run_of : List ℕ → List Stmt → List (List ℕ) → List Event
run_of answers block rows = run_from (vars_of block) answers block None (start_of rows)

-- a machine state: 112 rows of 16 bytes
pub record Shape (rows : List (List ℕ)) : Type 0 where
  pub count : length rows ≡ 112
  pub sized : (r : ℕ) → r < 112 → length (get_or rows r []) ≡ 16
  pub bytes : Bytes rows

-- each statement may be run at every state
abbrev pub Runnable : List VarId → List Stmt → Type 0
Runnable ids ss = (i : ℕ) → i < length ss → (rows : List (List ℕ)) → Bytes rows → ReadyOut ids rows (get_or ss i blank_stmt)
