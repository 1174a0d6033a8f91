-- Widening, and the statements that go into the result.
use Rattle.std.specs.Prelude.{ℕ, ◌+◌, ◌*◌, ◌-◌, ◌/◌, Bool, ◌||◌, List, Option, None as Nothing, Some, Result, Ok, Err, eqb, take, drop}
use Rattle.pcode.specs.Var.{pick, same_id, below_id}
use Rattle.pcode.specs.Block.{stmt_of, blank_stmt}
use Rattle.pcode.specs.declared.op.OneOp.TheVariants.{Copy, ZeroExtend}
use Rattle.pcode.specs.declared.op.Op.TheVariants.{One as OneOf}
use Rattle.pcode.specs.declared.refusal.Refusal.{Refusal}
use Rattle.pcode.specs.declared.refusal.Refusal.TheVariants as Refusals
use Rattle.pcode.specs.declared.var.VarId.{VarId}
use Rattle.pcode.specs.declared.var.PcodeLabel.{PcodeLabel}
use Rattle.pcode.specs.declared.var.VarNode.{VarNode}
use Rattle.pcode.specs.declared.var.Operand.{Operand}
use Rattle.pcode.specs.declared.var.Operand.TheVariants.{None, Const, Var}
use Rattle.pcode.specs.Var.{Output}
use Rattle.std.specs.declared.option.Option.TheVariants as Out
use Rattle.pcode.specs.declared.block.Stmt.{Stmt}
use Rattle.vars.specs.declared.Vars.{Vars}
use Rattle.bit_vec.specs.Lists.{bits}
use Rattle.bit_vec.specs.Known.{trailing_zeros}
use Rattle.eval.specs.declared.EvalError.{EvalError}
use Rattle.eval.specs.declared.EvalError.TheVariants as Errors
use Rattle.const_eval.specs.declared.place.Place.{Place}
use Rattle.const_eval.specs.Known.{Within}
use Rattle.uses.specs.Operands.{place_of}
use Rattle.widen.specs.declared.simple.Simple.{Simple}
use Rattle.widen.specs.declared.simple.Simple.TheVariants.{Dropped, Skips, Copies, Stays}
use Rattle.widen.specs.declared.widen.Why.{Why}
use Rattle.widen.specs.declared.widen.Why.TheVariants as Whys
use Rattle.widen.specs.declared.widen.Made.{Made}

-- the refusals 8 and 9 (and 5, which no checked statement meets) of statement i
abbrev pub refusal_of : Why → ℕ → Refusal
refusal_of Whys.TooFar i = Refusals.RotateTooFar i
refusal_of Whys.BadSizes i = Refusals.BadSizes i
refusal_of Whys.NoTemporary i = Refusals.NoTemporary i

-- the evaluator's refusals
abbrev pub why_of : EvalError → Why
why_of Errors.RotateTooFar = Whys.TooFar
why_of Errors.BadSizes = Whys.BadSizes

-- a step's statements, none, one or two, and the skip after it
abbrev pub nothing_m : Option PcodeLabel → Made
nothing_m k = record { count = 0; first = blank_stmt; second = blank_stmt; skip = k }

-- one statement
abbrev pub one_m : Stmt → Made
one_m a = record { count = 1; first = a; second = blank_stmt; skip = Nothing }

-- two statements
abbrev pub two_m : Stmt → Stmt → Made
two_m a b = record { count = 2; first = a; second = b; skip = Nothing }

-- what a step gives; nothing where it is refused
abbrev pub made_in : Result Made Why → Made
made_in (Ok m) = m
made_in (Err w) = nothing_m Nothing

-- z whole zero bytes known directly above
unfoldable pub zeros_above : List ℕ → Place → ℕ
zeros_above store p =
    trailing_zeros (bits (take (128 - 8 * (p.offset + p.size)) (drop (128 * p.row + 8 * (p.offset + p.size)) store))) / 8

-- the powers of two that a widened size can be
abbrev pub is_power : ℕ → Bool
is_power n = eqb n 2 || (eqb n 4 || (eqb n 8 || eqb n 16))

-- offset 0, z not 0, size+z a power of two: the widened size
unfoldable pub widened_of : List ℕ → Place → Option ℕ
widened_of store p =
    pick (eqb p.offset 0)
    (pick (eqb (zeros_above store p) 0) Nothing (pick (is_power (p.size + zeros_above store p)) (Some (p.size + zeros_above store p)) Nothing))
    Nothing

-- the lowest w bytes of an output's variable
abbrev pub lowest : VarNode → ℕ → Output
lowest o w = Out.Some (record { id = o.id; offset = 0; size = w })

-- a known result is written at its widened size (constant by `Copy`, variable by `ZeroExtend`)
abbrev pub copied_at : ℕ → VarNode → Operand → Stmt
copied_at w o None = stmt_of (OneOf ZeroExtend) (lowest o w) None None
copied_at w o (Const k n) = stmt_of (OneOf Copy) (lowest o w) (Const k w) None
copied_at w o (Var v) = stmt_of (OneOf ZeroExtend) (lowest o w) (Var v) None

-- a known value, at its own size or widened
abbrev pub copied_of : Option ℕ → VarNode → Operand → Stmt
copied_of Nothing o a = stmt_of (OneOf Copy) (Out.Some o) a None
copied_of (Some w) o a = copied_at w o a

-- an added temporary of an output's size
abbrev pub added_of : VarId → VarNode → VarNode
added_of least o = record { id = below_id least; offset = 0; size = o.size }

-- another goes to an added temporary and a `ZeroExtend`; without an id below the least there is none
abbrev pub kept_of : Option ℕ → Stmt → VarNode → VarId → Result Made Why
kept_of Nothing st o least = Ok (one_m st)
kept_of (Some w) st o least =
    pick (same_id (below_id least) least)
    (Err Whys.NoTemporary)
    (Ok (two_m
    (stmt_of st.op (Out.Some (added_of least o)) st.first st.second)
    (stmt_of (OneOf ZeroExtend) (lowest o w) (Var (added_of least o)) None)))

-- a statement that stays, widened where it writes
abbrev pub stays_of : List ℕ → Vars → Output → Stmt → VarId → Result Made Why
stays_of store vars Out.None st least = Ok (one_m st)
stays_of store vars (Out.Some o) st least = kept_of (widened_of store (place_of vars o)) st o least

-- what a statement gives to the result; least is the least of 0 and all ids in the block given and the result so far
abbrev pub made_of : List ℕ → Vars → Result Simple EvalError → VarId → Result Made Why
made_of store vars (Ok Dropped) least = Ok (nothing_m Nothing)
made_of store vars (Ok (Skips l)) least = Ok (nothing_m (Some l))
made_of store vars (Ok (Copies o a)) least = Ok (one_m (copied_of (widened_of store (place_of vars o)) o a))
made_of store vars (Ok (Stays st)) least = stays_of store vars st.output st least
made_of store vars (Err e) least = Err (why_of e)

-- an output whose row is in the store
abbrev pub InRows : ℕ → Vars → Output → Type 0
InRows codes vars Out.None = Unit {0}
InRows codes vars (Out.Some o) = Within codes (place_of vars o)

-- the same of what a statement comes to
abbrev pub InSimple : ℕ → Vars → Result Simple EvalError → Type 0
InSimple codes vars (Ok Dropped) = Unit {0}
InSimple codes vars (Ok (Skips l)) = Unit {0}
InSimple codes vars (Ok (Copies o a)) = Within codes (place_of vars o)
InSimple codes vars (Ok (Stays st)) = InRows codes vars st.output
InSimple codes vars (Err e) = Unit {0}
