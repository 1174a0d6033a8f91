-- One statement of a run: what it does to the machine, the events it leaves, and where the run goes on.
use Rattle.std.specs.Prelude.{ℕ, ◌+◌, ◌*◌, ◌^◌, List, [], ◌∷◌, Option, None, Some, eqb, get_or}
use Rattle.pcode.specs.Var.{pick, cut, size_out}
use Rattle.pcode.specs.declared.var.VarId.{VarId}
use Rattle.pcode.specs.declared.var.PcodeLabel.{PcodeLabel as Label}
use Rattle.pcode.specs.Var.{Output}
use Rattle.pcode.specs.declared.op.Op.{Op}
use Rattle.pcode.specs.declared.op.Op.TheVariants.{Trap, InstructionMarker, PcodeLabel, PcodeBranch, Branch, Load, Store, Call, Select, Subpiece, Opaque, Float, One, Two, Divide, Shift, Rotate, Compare, Bool as BoolOf}
use Rattle.pcode.specs.declared.block.Stmt.{Stmt}
use Rattle.machine.specs.Values.{value_in, written, plain_step}
use Rattle.step.specs.Events.{Event, Loaded, Stored, Taken, Marked}
use Rattle.step.specs.declared.Act.{Act}
use Rattle.step.specs.declared.Act.TheVariants.{Nothing, Marks, Jumps, Exits, Loads, Stores, Computes}

-- a machine: its rows, and how many load answers were taken
pub record Machine : Type 0 where
  pub rows : List (List ℕ)
  pub loads : ℕ

-- what an operation does in a run; those outside the run class are never reached
abbrev pub act_of : Op → Act
act_of (Trap t) = Nothing
act_of InstructionMarker = Marks
act_of (PcodeLabel l) = Nothing
act_of (PcodeBranch l) = Jumps l
act_of (Branch n) = Exits n
act_of (Load n) = Loads n
act_of (Store n) = Stores n
act_of (Call k n) = Nothing
act_of (Select n) = Computes
act_of (Subpiece n) = Computes
act_of (Opaque k) = Computes
act_of (Float k) = Computes
act_of (One k) = Computes
act_of (Two k) = Computes
act_of (Divide k) = Computes
act_of (Shift k) = Computes
act_of (Rotate k) = Computes
act_of (Compare k) = Computes
act_of (BoolOf k) = Computes

-- the n-th answer, two words each, the low one first; past the list, zero
unfoldable pub answer_at : List ℕ → ℕ → ℕ
answer_at answers n = get_or answers (2 * n) 0 + 2 ^ 64 * get_or answers (2 * n + 1) 0

-- a load takes the next answer, cut to the output's size
unfoldable pub loaded_rows : List VarId → List ℕ → ℕ → List (List ℕ) → Output → List (List ℕ)
loaded_rows ids answers n rows o = written ids rows o (cut (answer_at answers n) (size_out o))

-- the rows after a statement
abbrev pub rows_after : List VarId → List ℕ → ℕ → List (List ℕ) → Stmt → Act → List (List ℕ)
rows_after ids answers n rows s Nothing = rows
rows_after ids answers n rows s Marks = rows
rows_after ids answers n rows s (Jumps l) = rows
rows_after ids answers n rows s (Exits k) = rows
rows_after ids answers n rows s (Loads k) = loaded_rows ids answers n rows s.output
rows_after ids answers n rows s (Stores k) = rows
rows_after ids answers n rows s Computes = plain_step ids rows s

-- a load uses up an answer, also without an output
abbrev pub loads_after : ℕ → Act → ℕ
loads_after n Nothing = n
loads_after n Marks = n
loads_after n (Jumps l) = n
loads_after n (Exits k) = n
loads_after n (Loads k) = n + 1
loads_after n (Stores k) = n
loads_after n Computes = n

-- the event of a statement with operands a and b; an exit is taken when its first operand is not 0
abbrev pub events_of : List (List ℕ) → Act → ℕ → ℕ → List Event
events_of rows Nothing a b = []
events_of rows Marks a b = Marked rows ∷ []
events_of rows (Jumps l) a b = []
events_of rows (Exits n) a b = pick (eqb a 0) [] (Taken n a b rows ∷ [])
events_of rows (Loads n) a b = Loaded n a b ∷ []
events_of rows (Stores n) a b = Stored n a b ∷ []
events_of rows Computes a b = []

-- where a run goes on: at a label, or at the next statement
abbrev pub Flow : Type 0
Flow = Option Label

-- a PcodeBranch jumps when its first operand is not 0
abbrev pub flow_of : Act → ℕ → Flow
flow_of Nothing a = None
flow_of Marks a = None
flow_of (Jumps l) a = pick (eqb a 0) None (Some l)
flow_of (Exits n) a = None
flow_of (Loads n) a = None
flow_of (Stores n) a = None
flow_of Computes a = None

-- what a statement does: its events, the machine after it, where the run goes on
pub record Step : Type 0 where
  pub events : List Event
  pub machine : Machine
  pub flow : Flow

-- every operand is read before the output is written
unfoldable pub step_of : List VarId → List ℕ → Machine → Stmt → Step
step_of ids answers m s =
    record {
      events = events_of m.rows (act_of s.op) (value_in ids m.rows s.first) (value_in ids m.rows s.second);
      machine =
          record {
            rows = rows_after ids answers m.loads m.rows s (act_of s.op);
            loads = loads_after m.loads (act_of s.op);
          };
      flow = flow_of (act_of s.op) (value_in ids m.rows s.first);
    }
