-- The first pass's half of demand 3, of a block that passes the first pass's checks and that refusal 16 does not meet.
use Rattle.std.proofs.Common.{ℕ, ◌+◌, ◌≤◌, arith, ◌≡◌, refl, sym, subst, Bool, true, false, true≢false, List, [], ◌∷◌, ltb, length, take, ltb-false, Ok}
use Rattle.pcode.specs.Var.{pick}
use Rattle.pcode.specs.Block.{held, first_limits}
use Rattle.pcode.specs.declared.var.VarId.{VarId}
use Rattle.pcode.specs.declared.block.Stmt.{Stmt}
use Rattle.pcode.specs.declared.block.Block.{Block}
use Rattle.pcode.specs.declared.block.Marks.{Marks}
use Rattle.vars.specs.Vars.{vars_of, held_ids, named_of}
use Rattle.vars.specs.declared.Vars.{Vars}
use Rattle.vars.proofs.Joining.{named_held}
use Rattle.checks.specs.Statements.{stmt_check, checks_from}
use Rattle.checks.specs.Checks.{check_of}
use Rattle.checks.proofs.Passing.{Good, both_ok, good, passing}
use Rattle.machine.specs.Class.{own_class, in_class, backward, outside, first_outside}
use Rattle.const_prop.specs.Pass.{propagated_of}
use Rattle.alike.specs.Premises.{AllShort}
use Rattle.alike.proofs.Tables.{AllKnown, all_known}
use Rattle.alike.proofs.Checked.{fit_of}
use Rattle.alike.proofs.Both.{FirstAlike}
use Rattle.first_alike.proofs.Walks.{Runs, AllRun, first_alike}

-- no statement is outside the class: each is in it
in_class_lem : (x b : Bool) → pick x b true ≡ false → x ≡ true
in_class_lem true b e = refl
in_class_lem false b e = absurd (true≢false e)

runs_from : (ids : List VarId) (block : List Stmt) (i : ℕ) (ss : List Stmt) → i + length ss ≤ first_outside own_class block i ss → checks_from i ss ≡ Ok tt → AllKnown ids ss → AllShort ss → AllRun ids ss
unfolding first_outside checks_from AllShort AllRun
runs_from ids block i [] h e k s = tt
runs_from ids block i (st ∷ ss) h e k s =
    let o = both_ok (stmt_check i st) (checks_from (i + 1) ss) e in
    by (outside own_class (take i block) st.op) refl h (λ g. runs_from ids block (i + 1) ss g o.1 k.1 s.1) (good i st o.0)
  where
    by : (t : Bool) → outside own_class (take i block) st.op ≡ t → i + length (st ∷ ss) ≤ pick t i (first_outside own_class block (i + 1) ss)
        → (i + 1 + length ss ≤ first_outside own_class block (i + 1) ss → AllRun ids ss) → Good st → Runs ids st × AllRun ids ss
    by true e h rest d = absurd (omega arith)
    by false e h rest d =
        let c = in_class_lem (in_class own_class st.op) (backward (take i block) st.op) e in
        let f = fit_of own_class st d c in (
          record {
            sits =
                record {
                  known = k.0;
                  first_in = f.first;
                  second_in = f.second;
                  output_in = f.output;
                  first_short = s.0.0;
                  second_short = s.0.1;
                };
            class = c;
            quiet = f.quiet;
          },
          rest (omega arith),
        )

-- the first pass's result runs as the block does, for any table of its variables
pub first_checked : (ms : Marks) (answers : List ℕ) (b made : Block) (vars : Vars) → check_of first_limits b ≡ Ok tt
    → ltb (first_outside own_class (held b) 0 (held b)) (length (held b)) ≡ false → AllShort (held b) → held_ids vars ≡ vars_of (held b)
    → propagated_of vars ms (held b) ≡ Ok made → FirstAlike ms answers (held b) (held made)
first_checked ms answers b made vars ok class short table done =
    let a = passing first_limits b ok in
    let c = ltb-false (first_outside own_class (held b) 0 (held b)) (length (held b)) class in
    let r = runs_from (vars_of (held b)) (held b) 0 (held b) (omega arith) a.checked (all_known (held b)) short in
    first_alike ms answers (held b) vars table (subst (λ (l : List VarId). length l ≤ 48) (sym table) a.vars) made
    (subst (λ (l : List VarId). AllRun l (held b)) (sym table) r) a.short done

-- the block's own table is one
pub first_named_lem : (ms : Marks) (answers : List ℕ) (b made : Block) → check_of first_limits b ≡ Ok tt
    → ltb (first_outside own_class (held b) 0 (held b)) (length (held b)) ≡ false → AllShort (held b) → propagated_of (named_of 48 (held b)).vars ms (held b) ≡ Ok made
    → FirstAlike ms answers (held b) (held made)
first_named_lem ms answers b made ok class short done =
    first_checked ms answers b made (named_of 48 (held b)).vars ok class short (named_held 48 (held b) (passing first_limits b ok).vars) done
