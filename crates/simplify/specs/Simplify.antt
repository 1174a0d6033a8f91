-- A statement other than a label: operands replaced, branches dropped or skipping, hooks, unchanged outputs dropped, copies.
use Rattle.std.specs.Prelude.{ℕ, ◌≡◌, Bool, List, Result, Ok, Err, length}
use Rattle.pcode.specs.Var.{pick}
use Rattle.pcode.specs.Rules.{side_effects}
use Rattle.pcode.specs.Block.{stmt_of}
use Rattle.pcode.specs.declared.var.VarNode.{VarNode}
use Rattle.pcode.specs.declared.var.Operand.TheVariants.{Const}
use Rattle.pcode.specs.Var.{Output}
use Rattle.std.specs.declared.option.Option.TheVariants as Out
use Rattle.pcode.specs.declared.block.Stmt.{Stmt}
use Rattle.vars.specs.declared.Vars.{Vars}
use Rattle.bit_vec.specs.Lists.{bits}
use Rattle.bit_vec.specs.Known.{const_of}
use Rattle.eval.specs.declared.EvalError.{EvalError}
use Rattle.const_eval.specs.Known.{Fit}
use Rattle.const_eval.specs.State.{State, first_use, cleared, Able}
use Rattle.widen.specs.Simple.{jump_of, exit_of}
use Rattle.uses.specs.Operands.{place_of, operand_bits, slot_of, const_row, used_by, becomes, InOperand}
use Rattle.settle.specs.Settle.{Settlement, settled_of}
use Rattle.widen.specs.declared.turn.Turn.{Turn}
use Rattle.widen.specs.declared.turn.Turn.TheVariants.{Plain, Marker, Label, Jump, Exit, Hook}
use Rattle.settle.specs.declared.Outcome.{Outcome}
use Rattle.widen.specs.declared.simple.Simple.{Simple}
use Rattle.widen.specs.declared.simple.Simple.TheVariants.{Dropped, Copies, Stays}
use Rattle.simplify.specs.declared.Prepared.{Prepared}

-- both operands' uses, in order
abbrev pub used_both : Vars → Stmt → State → State
used_both vars st s = used_by vars st.second (used_by vars st.first s)

-- each operand becomes its known constant, else the variable that the value map gives
abbrev pub replaced_of : Vars → Stmt → State → Stmt
replaced_of vars st s =
    stmt_of st.op st.output (becomes vars (used_by vars st.first s) st.first) (becomes vars (used_both vars st s) st.second)

-- what is known after a statement, and what it comes to, or the evaluator's refusal
pub record Change : Type 0 where
  pub state : State
  pub simple : Result Simple EvalError

-- what is known, and what the statement comes to
abbrev pub change_of : State → Result Simple EvalError → Change
change_of s r = record { state = s; simple = r }

-- a statement with side effects stays; else unchanged, dropped, or a copy of what was found; st has its operands replaced
abbrev pub simple_by : Result Outcome EvalError → Bool → VarNode → Stmt → Result Simple EvalError
simple_by (Ok Outcome.Stays) e o st = Ok (Stays st)
simple_by (Ok Outcome.Unchanged) e o st = Ok (pick e (Stays st) Dropped)
simple_by (Ok (Outcome.Constantly k)) e o st = Ok (pick e (Stays st) (Copies o (Const k o.size)))
simple_by (Ok Outcome.First) e o st = Ok (pick e (Stays st) (Copies o st.first))
simple_by (Ok Outcome.Second) e o st = Ok (pick e (Stays st) (Copies o st.second))
simple_by (Err x) e o st = Err x

-- by what was decided of its output
abbrev pub settled_change : Settlement → VarNode → Stmt → Change
settled_change x o st = record { state = x.state; simple = simple_by x.outcome (side_effects st.op) o st }

-- an output: its row's use, then its value; xa and xb give the operands' bits in a store
abbrev pub write_of : Vars → (List ℕ → List ℕ) → (List ℕ → List ℕ) → VarNode → Stmt → State → Change
write_of vars xa xb o st s =
    settled_change
    (settled_of st.op (place_of vars o) (xa (first_use (place_of vars o) s).store) (xb (first_use (place_of vars o) s).store) (first_use (place_of vars o) s))
    o
    st

-- a statement without output stays; one with an output is evaluated
abbrev pub plain_of : Vars → (List ℕ → List ℕ) → (List ℕ → List ℕ) → Output → Stmt → State → Change
plain_of vars xa xb Out.None st s = record { state = s; simple = Ok (Stays st) }
plain_of vars xa xb (Out.Some o) st s = write_of vars xa xb o st s

-- `Hook`, `HookIf` clear; an output counts as used right after that
abbrev pub hook_of : Vars → Output → Stmt → State → Change
hook_of vars Out.None st s = record { state = cleared s; simple = Ok (Stays st) }
hook_of vars (Out.Some o) st s = record { state = first_use (place_of vars o) (cleared s); simple = Ok (Stays st) }

-- by the operation's rule; st has its operands replaced
abbrev pub turned : Vars → (List ℕ → List ℕ) → (List ℕ → List ℕ) → Turn → Stmt → State → Change
turned vars xa xb Plain st s = plain_of vars xa xb st.output st s
turned vars xa xb Marker st s = plain_of vars xa xb st.output st s
turned vars xa xb (Label l) st s = plain_of vars xa xb st.output st s
turned vars xa xb (Jump l) st s = record { state = s; simple = Ok (jump_of (const_of (bits (xa s.store))) l st) }
turned vars xa xb Exit st s = record { state = s; simple = Ok (exit_of (const_of (bits (xa s.store))) st) }
turned vars xa xb Hook st s = hook_of vars st.output st s

-- a statement other than a label
abbrev pub simplify_of : Vars → Turn → Stmt → State → Change
simplify_of vars t st s =
    turned vars (operand_bits vars st.first) (operand_bits vars st.second) t (replaced_of vars st s) (used_both vars st s)

-- an output is a part of a row
abbrev pub InOutput : ℕ → Vars → Output → Type 0
InOutput rows vars Out.None = Unit {0}
InOutput rows vars (Out.Some o) = Fit rows (place_of vars o)

-- what a statement asks: operands and output in the store, room for four entries
pub record Apt (vars : Vars) (st : Stmt) (s : State) : Type 0 where
  pub able : Able 4 s
  pub first : InOperand (length s.used) vars st.first
  pub second : InOperand (length s.used) vars st.second
  pub output : InOutput (length s.used) vars st.output

-- both operands' uses, and where their bits are
pub record Prepares (vars : Vars) (st : Stmt) (s : State) (ca cb : List ℕ) (r : Prepared) (after : State) (na nb : List ℕ) : Type 0 where
  pub state : after ≡ used_both vars st s
  pub stmt : r.stmt ≡ replaced_of vars st s
  pub first : r.first ≡ slot_of vars st.first
  pub second : r.second ≡ slot_of vars st.second
  pub first_row : na ≡ const_row st.first ca
  pub second_row : nb ≡ const_row st.second cb

-- the rows lent for constants and for a value
pub record Rows (ca cb out : List ℕ) : Type 0 where
  pub first : length ca ≡ 128
  pub second : length cb ≡ 128
  pub value : length out ≡ 128
