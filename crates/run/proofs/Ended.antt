-- A run that is done passed the checks and has room; its table holds the block's variables.
use Rattle.std.proofs.Common.{ℕ, ◌≤◌, arith, ◌≡◌, refl, ap, Bool, true, false, List, ltb, length, take, drop, take-append-drop, ltb-false, Result, Ok, Err}
use Rattle.pcode.specs.Var.{pick}
use Rattle.pcode.specs.declared.block.Stmt.{Stmt}
use Rattle.pcode.specs.declared.refusal.Refusal.{Refusal}
use Rattle.pcode.specs.declared.refusal.Refusal.TheVariants.{NotRunnable}
use Rattle.vars.specs.Vars.{vars_of, too_many, named_of}
use Rattle.vars.proofs.Rows.{vars_grow}
use Rattle.machine.specs.Class.{first_outside}
use Rattle.machine.specs.declared.class.Class.{Class}
use Rattle.trace.specs.Words.{trace_room}
use Rattle.run.specs.Promise.{class_outcome, checked_outcome}
use Rattle.run.specs.declared.outcome.Stop.{Stop}
use Rattle.run.specs.declared.outcome.Stop.TheVariants.{NoRoom, Refused}

abbrev Ends : Type 0
Ends = Result (Unit {0}) Stop

never : {stop : Stop} → ◌≡◌ {A = Ends} (Err stop) (Ok tt) → ⊥
never e = let z : ◌≡◌ {A = ℕ} 0 1 = cc in omega arith

with_room : (t u : Bool) (x y : Stop) → ◌≡◌ {A = Ends} (pick t (Err x) (pick u (Err y) (Ok tt))) (Ok tt) → u ≡ false
with_room true u x y e = absurd (never e)
with_room false true x y e = absurd (never e)
with_room false false x y e = refl

pub done : (a : Result (Unit {0}) Refusal) (c : Class) (ss : List Stmt) (room : ℕ) → checked_outcome a c ss room ≡ Ok tt → (a ≡ Ok tt) × (trace_room ≤ room)
unfolding class_outcome
done (Ok tt) c ss room e = (refl, ltb-false room trace_room (with_room (ltb (first_outside c ss 0 ss) (length ss)) (ltb room trace_room) (Refused (NotRunnable (first_outside c ss 0 ss))) NoRoom e))
done (Err why) c ss room e = absurd (never e)

-- a table of no more variables than it has room for
pub named_small : (ss : List Stmt) → length (vars_of ss) ≤ 112 → (named_of 112 ss).vars.count ≤ 112
named_small ss h =
    let g = vars_grow (take (too_many 112 ss) ss) (drop (too_many 112 ss) ss) in
    let e = ap (λ (l : List Stmt). length (vars_of l)) (take-append-drop (too_many 112 ss) ss) in
    omega arith
