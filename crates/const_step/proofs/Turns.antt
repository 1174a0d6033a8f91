-- What one statement of the walk keeps, and the shape of what it gives. Assumes nothing.
use Rattle.std.proofs.Common.{ℕ, zero, suc, ◌*◌, ◌≡◌, refl, sym, ◌∙◌, ap, subst, Bool, true, false, List, arith, length, Option, None, Some, Result, Ok, Err}
use Rattle.pcode.specs.Var.{pick, same_id, below_id}
use Rattle.pcode.specs.Rules.{side_effects}
use Rattle.pcode.specs.declared.var.VarId.{VarId}
use Rattle.pcode.specs.declared.var.VarNode.{VarNode}
use Rattle.pcode.specs.declared.var.PcodeLabel.{PcodeLabel}
use Rattle.pcode.specs.Var.{Output}
use Rattle.std.specs.declared.option.Option.TheVariants as Out
use Rattle.pcode.specs.declared.block.Stmt.{Stmt}
use Rattle.vars.specs.declared.Vars.{Vars}
use Rattle.const_eval.specs.Known.{Within}
use Rattle.const_eval.specs.State.{State, first_use, cleared, forgotten, Good}
use Rattle.const_eval.proofs.Keeps.{cleared_kept, forgotten_kept}
use Rattle.uses.specs.Operands.{operand_bits, place_of, InOperand}
use Rattle.settle.specs.declared.Outcome.{Outcome}
use Rattle.settle.specs.Settle.{settled_of}
use Rattle.widen.specs.Simple.{jump_of, exit_of}
use Rattle.widen.specs.Widen.{nothing_m, one_m, two_m, made_in, widened_of, kept_of, stays_of, made_of, InRows, InSimple}
use Rattle.bit_vec.specs.Lists.{bits}
use Rattle.bit_vec.specs.Known.{const_of}
use Rattle.widen.specs.declared.simple.Simple.{Simple}
use Rattle.widen.specs.declared.simple.Simple.TheVariants.{Dropped, Skips, Copies, Stays}
use Rattle.widen.specs.declared.turn.Turn.{Turn}
use Rattle.widen.specs.declared.turn.Turn.TheVariants.{Plain, Marker, Label, Jump, Exit, Hook}
use Rattle.eval.specs.declared.EvalError.{EvalError}
use Rattle.widen.specs.declared.widen.Why.{Why}
use Rattle.widen.specs.declared.widen.Made.{Made}
use Rattle.simplify.specs.Simplify.{simple_by, plain_of, hook_of, turned, simplify_of, used_both, replaced_of, InOutput, Apt}
use Rattle.simplify.proofs.Grows.{Grown, grown_on, grown_more, simplify_grown, able_grown}
use Rattle.const_step.specs.Labels.{reached_by, arrives_of, kept_label, label_of, end_of}
use Rattle.const_step.specs.Steps.{at_other, step_by}

-- what a step gives: nothing, one statement or two, blank where there is none
pub data Shaped : Made → Type 0 where
  none : (k : Option PcodeLabel) → Shaped (nothing_m k)
  one : (a : Stmt) → Shaped (one_m a)
  two : (a b : Stmt) → Shaped (two_m a b)

picked : (b : Bool) (x y : Stmt) (w : Why) → Shaped (made_in (pick b (Err w) (Ok (two_m x y))))
picked true x y w = none None
picked false x y w = two x y

pub kept_shaped : (w : Option ℕ) (st : Stmt) (o : VarNode) (l : VarId) → Shaped (made_in (kept_of w st o l))
kept_shaped None st o l = one st
kept_shaped (Some w) st o l = picked (same_id (below_id l) l) _ _ _

pub stays_shaped : (store : List ℕ) (vars : Vars) (o : Output) (st : Stmt) (l : VarId) → Shaped (made_in (stays_of store vars o st l))
stays_shaped store vars Out.None st l = one st
stays_shaped store vars (Out.Some o) st l = kept_shaped (widened_of store (place_of vars o)) st o l

pub made_shaped : (store : List ℕ) (vars : Vars) (x : Result Simple EvalError) (l : VarId) → Shaped (made_in (made_of store vars x l))
made_shaped store vars (Ok Dropped) l = none _
made_shaped store vars (Ok (Skips k)) l = none _
made_shaped store vars (Ok (Copies o a)) l = one _
made_shaped store vars (Ok (Stays st)) l = stays_shaped store vars st.output st l
made_shaped store vars (Err e) l = none _

pub label_shaped : (k : Option PcodeLabel) (l : PcodeLabel) (kept : Bool) → Shaped (label_of k l kept)
label_shaped k l true = go (arrives_of k l)
  where
    go : (k : Option PcodeLabel) → Shaped (kept_label k l)
    go None = one _
    go (Some t) = two _ _
label_shaped k l false = none _

pub end_shaped : (k : Option PcodeLabel) → Shaped (end_of k)
end_shaped None = none _
end_shaped (Some t) = one _

other_shaped : (vars : Vars) (l : VarId) (k : Option PcodeLabel) (t : Turn) (st : Stmt) (s : State) → Shaped (made_in (at_other vars l k t st s).made)
other_shaped vars l (Some t) u st s = none _
other_shaped vars l None u st s = made_shaped (simplify_of vars u st s).state.store vars (simplify_of vars u st s).simple l

pub step_shaped : (vars : Vars) (temp below made : List ℕ) (l : VarId) (k : Option PcodeLabel) (t : Turn) (st : Stmt) (s : State)
    → Shaped (made_in (step_by vars temp below made l k t st s).made)
step_shaped vars temp below made l k (Label m) st s = label_shaped k m (reached_by below made m)
step_shaped vars temp below made l k Marker st s = other_shaped vars l k Marker st (forgotten temp s)
step_shaped vars temp below made l k Plain st s = other_shaped vars l k Plain st s
step_shaped vars temp below made l k (Jump m) st s = other_shaped vars l k (Jump m) st s
step_shaped vars temp below made l k Exit st s = other_shaped vars l k Exit st s
step_shaped vars temp below made l k Hook st s = other_shaped vars l k Hook st s

-- forgetting and clearing take nothing
pub forgotten_grown : (temp : List ℕ) (s : State) → Good s → Grown 0 s (forgotten temp s)
forgotten_grown temp s g =
    let k = forgotten_kept temp s g in
    record { good = k.good; store_length = k.store_length; used_length = k.used_length; map_length = k.map_length; count = omega arith; next = omega arith }

pub cleared_grown : (s : State) → Good s → Grown 0 s (cleared s)
cleared_grown s g =
    let k = cleared_kept s g in
    record { good = k.good; store_length = k.store_length; used_length = k.used_length; map_length = k.map_length; count = omega arith; next = omega arith }

pub same_grown : (s : State) → Good s → Grown 0 s s
same_grown s g = record { good = g; store_length = refl; used_length = refl; map_length = refl; count = omega arith; next = omega arith }

-- what a statement asks, after a marker forgot
pub forgotten_apt : (vars : Vars) (temp : List ℕ) (st : Stmt) (s : State) → Apt vars st s → Apt vars st (forgotten temp s)
forgotten_apt vars temp st s a =
    let g = forgotten_grown temp s a.able.good in
    let e : length s.used ≡ length (forgotten temp s).used = sym g.used_length in
    record {
      able = able_grown 0 4 s (forgotten temp s) a.able g;
      first = subst (λ (n : ℕ). InOperand n vars st.first) e a.first;
      second = subst (λ (n : ℕ). InOperand n vars st.second) e a.second;
      output = subst (λ (n : ℕ). InOutput n vars st.output) e a.output;
    }

other_grown : (vars : Vars) (l : VarId) (k : Option PcodeLabel) (t : Turn) (st : Stmt) (s : State) → Apt vars st s → Grown 4 s (at_other vars l k t st s).state
other_grown vars l (Some m) t st s a = grown_more 0 4 s s (omega arith) (same_grown s a.able.good)
other_grown vars l None t st s a = simplify_grown vars t st s a

-- a step takes four at most
pub step_grown : (vars : Vars) (temp below made : List ℕ) (l : VarId) (k : Option PcodeLabel) (t : Turn) (st : Stmt) (s : State) → Apt vars st s
    → Grown 4 s (step_by vars temp below made l k t st s).state
step_grown vars temp below made l k (Label m) st s a = go (reached_by below made m)
  where
    go : (b : Bool) → Grown 4 s (pick b (cleared s) s)
    go true = grown_more 0 4 s (cleared s) (omega arith) (cleared_grown s a.able.good)
    go false = grown_more 0 4 s s (omega arith) (same_grown s a.able.good)
step_grown vars temp below made l k Marker st s a =
    grown_on 0 4 s (forgotten temp s) _ (forgotten_grown temp s a.able.good) (other_grown vars l k Marker st (forgotten temp s) (forgotten_apt vars temp st s a))
step_grown vars temp below made l k Plain st s a = other_grown vars l k Plain st s a
step_grown vars temp below made l k (Jump m) st s a = other_grown vars l k (Jump m) st s a
step_grown vars temp below made l k Exit st s a = other_grown vars l k Exit st s a
step_grown vars temp below made l k Hook st s a = other_grown vars l k Hook st s a

-- what a statement comes to speaks of its own output
pub output_in : (codes rows : ℕ) (vars : Vars) (o : Output) → codes ≡ 128 * rows → InOutput rows vars o → InRows codes vars o
output_in codes rows vars Out.None e i = tt
output_in codes rows vars (Out.Some o) e i = record { row_in = omega (arith, e, i.row_in); inside = i.inside }

pub simple_in : (codes : ℕ) (vars : Vars) (d : Result Outcome EvalError) (b : Bool) (o : VarNode) (st : Stmt) → Within codes (place_of vars o) → InRows codes vars st.output
    → InSimple codes vars (simple_by d b o st)
simple_in codes vars (Err e) b o st h i = tt
simple_in codes vars (Ok Outcome.Stays) b o st h i = i
simple_in codes vars (Ok Outcome.Unchanged) true o st h i = i
simple_in codes vars (Ok Outcome.Unchanged) false o st h i = tt
simple_in codes vars (Ok (Outcome.Constantly k)) true o st h i = i
simple_in codes vars (Ok (Outcome.Constantly k)) false o st h i = h
simple_in codes vars (Ok Outcome.First) true o st h i = i
simple_in codes vars (Ok Outcome.First) false o st h i = h
simple_in codes vars (Ok Outcome.Second) true o st h i = i
simple_in codes vars (Ok Outcome.Second) false o st h i = h

plain_in : (codes : ℕ) (vars : Vars) (xa xb : List ℕ → List ℕ) (o : Output) (st : Stmt) (s : State) → st.output ≡ o → InRows codes vars st.output
    → InSimple codes vars (plain_of vars xa xb o st s).simple
plain_in codes vars xa xb Out.None st s e i = i
plain_in codes vars xa xb (Out.Some o) st s e i = simple_in codes vars (settled_of st.op (place_of vars o) (xa (first_use (place_of vars o) s).store) (xb (first_use (place_of vars o) s).store) (first_use (place_of vars o) s)).outcome (side_effects st.op) o st (subst (λ (z : Output). InRows codes vars z) e i) i

hook_in : (codes : ℕ) (vars : Vars) (o : Output) (st : Stmt) (s : State) → InRows codes vars st.output → InSimple codes vars (hook_of vars o st s).simple
hook_in codes vars Out.None st s i = i
hook_in codes vars (Out.Some o) st s i = i

jump_in : (codes : ℕ) (vars : Vars) (c : Option ℕ) (l : PcodeLabel) (st : Stmt) → InRows codes vars st.output → InSimple codes vars (Ok (jump_of c l st))
jump_in codes vars (Some zero) l st i = tt
jump_in codes vars (Some (suc zero)) l st i = tt
jump_in codes vars (Some (suc (suc k))) l st i = i
jump_in codes vars None l st i = i

exit_in : (codes : ℕ) (vars : Vars) (c : Option ℕ) (st : Stmt) → InRows codes vars st.output → InSimple codes vars (Ok (exit_of c st))
exit_in codes vars (Some zero) st i = tt
exit_in codes vars (Some (suc k)) st i = i
exit_in codes vars None st i = i

turned_in : (codes : ℕ) (vars : Vars) (xa xb : List ℕ → List ℕ) (t : Turn) (st : Stmt) (s : State) → InRows codes vars st.output
    → InSimple codes vars (turned vars xa xb t st s).simple
turned_in codes vars xa xb Plain st s i = plain_in codes vars xa xb st.output st s refl i
turned_in codes vars xa xb Marker st s i = plain_in codes vars xa xb st.output st s refl i
turned_in codes vars xa xb (Label l) st s i = plain_in codes vars xa xb st.output st s refl i
turned_in codes vars xa xb (Jump l) st s i = jump_in codes vars (const_of (bits (xa s.store))) l st i
turned_in codes vars xa xb Exit st s i = exit_in codes vars (const_of (bits (xa s.store))) st i
turned_in codes vars xa xb Hook st s i = hook_in codes vars st.output st s i

-- the output that is widened stands in the store
pub simplify_in : (vars : Vars) (t : Turn) (st : Stmt) (s u : State) (x : Result Simple EvalError) → Apt vars st s → u ≡ (simplify_of vars t st s).state
    → x ≡ (simplify_of vars t st s).simple → InSimple (length u.store) vars x
simplify_in vars t st s u x a hu hx =
    let g = simplify_grown vars t st s a in
    let e : length u.store ≡ 128 * length s.used = ap (λ (z : State). length z.store) hu ∙ g.store_length ∙ a.able.good.rows in
    subst (λ (z : Result Simple EvalError). InSimple (length u.store) vars z) (sym hx)
    (turned_in (length u.store) vars (operand_bits vars st.first) (operand_bits vars st.second) t (replaced_of vars st s) (used_both vars st s) (output_in (length u.store) (length s.used) vars st.output e a.output))
