-- An output's new value, and what becomes of the statement.
use Rattle.std.specs.Prelude.{ℕ, ◌+◌, List, Option, Some, None, Result, Ok, Err}
use Rattle.pcode.specs.Var.{pick}
use Rattle.pcode.specs.declared.op.Op.{Op}
use Rattle.bit_vec.specs.Lists.{bits, codes}
use Rattle.bit_vec.specs.Known.{const_of}
use Rattle.eval.specs.Held.{coded}
use Rattle.eval.specs.Name.{name_from}
use Rattle.eval.specs.Eval as Eval
use Rattle.eval.specs.declared.EvalError.{EvalError}
use Rattle.const_eval.specs.declared.place.Place.{Place}
use Rattle.const_eval.specs.Known.{start_of, part_of, splice, same_codes}
use Rattle.const_eval.specs.State.{State, noted}
use Rattle.settle.specs.declared.Outcome.{Outcome}
use Rattle.settle.specs.declared.Outcome.TheVariants.{Stays, Unchanged, Constantly, First, Second}

-- each unknown output bit i becomes a new expression with offset i
unfoldable pub named : ℕ → List ℕ → List ℕ
named id cells = codes (name_from (record { 0 = id }) 0 (bits cells))

-- a copy of the first operand, of the second, tried in that order; else the statement stays
abbrev pub source_of : List ℕ → List ℕ → List ℕ → Outcome
source_of v xa xb = pick (same_codes xa v) First (pick (same_codes xb v) Second Stays)

-- a copy of a known constant; else by the operands
abbrev pub decide_by : Option ℕ → Outcome → Outcome
decide_by (Some k) d = Constantly k
decide_by None d = d

-- unchanged; else a copy of a known constant, of the first operand, of the second, tried in that order
abbrev pub decide_of : List ℕ → List ℕ → List ℕ → List ℕ → Outcome
decide_of old v xa xb = pick (same_codes old v) Unchanged (decide_by (const_of (bits v)) (source_of v xa xb))

-- the output takes its value; the statement's expression id is used up
abbrev pub written : Place → List ℕ → State → State
written p v s = record { store = splice (start_of p) v s.store; used = s.used; map = s.map; tally = record { count = s.tally.count; next = s.tally.next + 1 } }

-- what is known after a statement, and what becomes of it, or the evaluator's refusal
pub record Settlement : Type 0 where
  pub state : State
  pub outcome : Result Outcome EvalError

-- with the value v: the output is written, then entered
abbrev pub valued : List ℕ → Place → List ℕ → List ℕ → State → Settlement
valued v p xa xb s = record { state = noted p (written p v s); outcome = Ok (decide_of (part_of p s.store) v xa xb) }

-- by the evaluator's answer
abbrev pub settled_by : Result (Unit {0}) EvalError → List ℕ → Place → List ℕ → List ℕ → State → Settlement
settled_by (Ok u) cells p xa xb s = valued (named s.tally.next cells) p xa xb s
settled_by (Err e) cells p xa xb s = record { state = s; outcome = Err e }

-- operands' bits xa and xb, an output at p whose row is in use
abbrev pub settled_of : Op → Place → List ℕ → List ℕ → State → Settlement
settled_of op p xa xb s =
    settled_by
    (Eval.outcome_of coded op xa xb (part_of p s.store)).answer
    (Eval.outcome_of coded op xa xb (part_of p s.store)).cells
    p
    xa
    xb
    s

-- what the code answers and lends back, as one value
abbrev pub settlement_of : State → Result Outcome EvalError → Settlement
settlement_of s r = record { state = s; outcome = r }
