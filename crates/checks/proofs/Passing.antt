-- What is known of a block that passes the checks.
use Rattle.std.proofs.Common.{Result, Ok, Err}
use Prim.Native.Nat.{ℕ, zero, suc, ◌+◌, ◌<◌, ◌≤◌}
use native.Mathlib.Omega.{arith}
use native.Mathlib.Nat.{le_of_suc-le-suc, not-suc-le-zero}
use mathlib.Core.Path.{◌≡◌, refl, sym, ap}
use mathlib.Core.Bool.{Bool, true, false, true≢false}
use mathlib.Core.List.{List, [], ◌∷◌}
use lib.Dec.{ltb}
use lib.ListN.{length, get_or, length-take}
use borrow.Author.Tests.{ltb-false}
use Rattle.pcode.specs.Var.{pick}
use Rattle.pcode.specs.Block.{held, blank_stmt}
use Rattle.pcode.specs.declared.var.VarId.{VarId}
use Rattle.pcode.specs.declared.block.Stmt.{Stmt}
use Rattle.pcode.specs.declared.block.Block.{Block}
use Rattle.pcode.specs.declared.block.Limits.{Limits}
use Rattle.pcode.specs.declared.refusal.Refusal.{Refusal}
use Rattle.vars.specs.Vars.{ids_of, join_ids, vars_from, vars_of, over_from, too_many, cap_of}
use Rattle.text.specs.Reading.{room_of}
use Rattle.checks.specs.Statements.{good_parts, met_needs, good_sizes, stmt_check, else_then, checks_from}
use Rattle.checks.specs.Labels.{labels_from}
use Rattle.checks.specs.Checks.{variables, check_of}

-- one statement that passes no limit, and the others
step : (m : ℕ) (l : List VarId) (ss : List Stmt) (t : Bool) → ltb m (length l) ≡ t → suc (length ss) ≤ pick t 0 (suc (over_from m l ss))
    → (length l ≤ m → length ss ≤ over_from m l ss → length (vars_from l ss) ≤ m) → length (vars_from l ss) ≤ m
step m l ss true e g rest = absurd (not-suc-le-zero g)
step m l ss false e g rest = rest (ltb-false m (length l) e) (le_of_suc-le-suc g)

-- a statement list that passes no limit names at most that many variables
pub within : (m : ℕ) (l : List VarId) (ss : List Stmt) → length l ≤ m → length ss ≤ over_from m l ss → length (vars_from l ss) ≤ m
unfolding over_from vars_from
within m l [] h g = h
within m l (s ∷ ss) h g = step m (join_ids l (ids_of s)) ss (ltb m (length (join_ids l (ids_of s)))) refl g (within m (join_ids l (ids_of s)) ss)

-- an answer that is no refusal
code : Result (Unit {0}) Refusal → Bool
code (Ok u) = true
code (Err why) = false

pub never : {why : Refusal} → ◌≡◌ {A = Result (Unit {0}) Refusal} (Err why) (Ok tt) → ⊥
unfolding code
never e = true≢false (sym (ap code e))

pub first_ok : (t : Bool) (why : Refusal) (next : Result (Unit {0}) Refusal) → pick t (Err why) next ≡ Ok tt → (t ≡ false) × (next ≡ Ok tt)
first_ok true why next e = absurd (never e)
first_ok false why next e = (refl, e)

pub then_ok : (t : Bool) (why : Refusal) (next : Result (Unit {0}) Refusal) → pick t next (Err why) ≡ Ok tt → (t ≡ true) × (next ≡ Ok tt)
then_ok true why next e = (refl, e)
then_ok false why next e = absurd (never e)

pub both_ok : (a next : Result (Unit {0}) Refusal) → else_then a next ≡ Ok tt → (a ≡ Ok tt) × (next ≡ Ok tt)
both_ok (Ok tt) next e = (refl, e)
both_ok (Err why) next e = absurd (never e)

pub last_ok : (t : Bool) (why : Refusal) → ◌≡◌ {A = Result (Unit {0}) Refusal} (pick t (Err why) (Ok tt)) (Ok tt) → t ≡ false
last_ok t why e = (first_ok t why (Ok tt) e).0

-- statements that 7 does not meet
few : (most : ℕ) (ss : List Stmt) → variables most ss ≡ Ok tt → length (vars_of ss) ≤ cap_of most
unfolding variables vars_of
few most ss e = within (cap_of most) [] ss (omega arith) (ltb-false (too_many (cap_of most) ss) (length ss) (last_ok _ _ e))

-- a statement that no check refuses
pub record Good (s : Stmt) : Type 0 where
  pub parts : good_parts s ≡ true
  pub needs : met_needs s ≡ true
  pub sizes : good_sizes s ≡ true

pub good : (i : ℕ) (s : Stmt) → stmt_check i s ≡ Ok tt → Good s
unfolding stmt_check
good i s e =
    let x = then_ok (good_parts s) _ _ e in
    let y = then_ok (met_needs s) _ _ x.1 in
    let z = then_ok (good_sizes s) _ _ y.1 in
    record { parts = x.0; needs = y.0; sizes = z.0 }

pub every : (k : ℕ) (ss : List Stmt) → checks_from k ss ≡ Ok tt → (i : ℕ) → i < length ss → Good (get_or ss i blank_stmt)
unfolding checks_from
every k [] e i h = absurd (omega arith)
every k (s ∷ ss) e zero h = good k s (both_ok (stmt_check k s) (checks_from (k + 1) ss) e).0
every k (s ∷ ss) e (suc i) h = every (k + 1) ss (both_ok (stmt_check k s) (checks_from (k + 1) ss) e).1 i (omega arith)

-- a block that passes them, with either pass's limits
pub record Passing (limits : Limits) (b : Block) : Type 0 where
  pub stmts : b.count ≤ room_of limits.stmts
  pub short : length (held b) ≤ room_of limits.stmts
  pub vars : length (vars_of (held b)) ≤ cap_of limits.vars
  pub checked : checks_from 0 (held b) ≡ Ok tt
  pub each : (i : ℕ) → i < length (held b) → Good (get_or (held b) i blank_stmt)
  pub labels : labels_from (held b) 0 (held b) ≡ Ok tt

pub passing : (limits : Limits) (b : Block) → check_of limits b ≡ Ok tt → Passing limits b
unfolding check_of
passing limits b e =
    let x = first_ok _ _ _ e in
    let labels = labels_from (held b) 0 (held b) in
    let y = both_ok (checks_from 0 (held b)) (else_then (variables limits.vars (held b)) labels) x.1 in
    let z = both_ok (variables limits.vars (held b)) labels y.1 in
    let n = ltb-false (room_of limits.stmts) b.count x.0 in
    record {
      stmts = n;
      short = omega (arith, n, length-take b.count b.stmts);
      vars = few limits.vars (held b) z.0;
      checked = y.0;
      each = every 0 (held b) y.0;
      labels = z.1;
    }
