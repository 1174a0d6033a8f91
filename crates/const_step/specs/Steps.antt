-- One statement of the first pass's walk: labels, skips, markers.
use Rattle.std.specs.Prelude.{ℕ, Bool, List, Option, None, Some, Result, Ok}
use Rattle.pcode.specs.Var.{pick}
use Rattle.pcode.specs.declared.var.VarId.{VarId}
use Rattle.pcode.specs.declared.var.PcodeLabel.{PcodeLabel}
use Rattle.pcode.specs.declared.block.Stmt.{Stmt}
use Rattle.vars.specs.declared.Vars.{Vars}
use Rattle.const_eval.specs.State.{State, cleared, forgotten}
use Rattle.simplify.specs.Simplify.{simplify_of}
use Rattle.widen.specs.Widen.{nothing_m, made_of}
use Rattle.widen.specs.declared.turn.Turn.{Turn}
use Rattle.widen.specs.declared.turn.Turn.TheVariants.{Plain, Marker, Label, Jump, Exit, Hook}
use Rattle.widen.specs.declared.widen.Why.{Why}
use Rattle.widen.specs.declared.widen.Made.{Made}
use Rattle.const_step.specs.Labels.{reached_by, label_of}

-- what is known after a statement, and what it gives, or why it is refused
pub record Step : Type 0 where
  pub state : State
  pub made : Result Made Why

-- what is known, and what the step gives
abbrev pub stepped_of : State → Result Made Why → Step
stepped_of s r = record { state = s; made = r }

-- a kept label clears all knowledge
abbrev pub at_label : Bool → Option PcodeLabel → PcodeLabel → State → Step
at_label kept k l s = record { state = pick kept (cleared s) s; made = Ok (label_of k l kept) }

-- a statement other than a label; a skip passes over it
abbrev pub at_other : Vars → VarId → Option PcodeLabel → Turn → Stmt → State → Step
at_other vars least (Some l) t st s = record { state = s; made = Ok (nothing_m (Some l)) }
at_other vars least None t st s =
    record {
      state = (simplify_of vars t st s).state;
      made = made_of (simplify_of vars t st s).state.store vars (simplify_of vars t st s).simple least;
    }

-- by the operation's rule; a marker, also a skipped one, empties the value map and forgets temporaries
abbrev pub step_by : Vars → List ℕ → List ℕ → List ℕ → VarId → Option PcodeLabel → Turn → Stmt → State → Step
step_by vars temp below made least k (Label l) st s = at_label (reached_by below made l) k l s
step_by vars temp below made least k Marker st s = at_other vars least k Marker st (forgotten temp s)
step_by vars temp below made least k Plain st s = at_other vars least k Plain st s
step_by vars temp below made least k (Jump l) st s = at_other vars least k (Jump l) st s
step_by vars temp below made least k Exit st s = at_other vars least k Exit st s
step_by vars temp below made least k Hook st s = at_other vars least k Hook st s
