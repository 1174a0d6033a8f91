-- Treated blocks run alike. Assumes nothing.
use Rattle.std.proofs.Common.{◌≡◌, refl, sym, ◌∙◌, ap, ℕ, true, false, List, length, Result, Ok, Err, arith}
use mathlib.Core.Path.{subst}
use lib.Dec.{ltb}
use borrow.Author.Tests.{le-ltb}
use Rattle.pcode.specs.Block.{held, first_limits, second_limits}
use Rattle.pcode.specs.declared.block.Stmt.{Stmt}
use Rattle.pcode.specs.declared.block.Block.{Block}
use Rattle.pcode.specs.declared.block.Marks.{Marks}
use Rattle.pcode.specs.declared.refusal.Refusal.{Refusal}
use Rattle.vars.specs.Vars.{vars_of}
use Rattle.checks.specs.Checks.{check_of}
use Rattle.checks.proofs.Passing.{passing}
use Rattle.machine.specs.Class.{own_class, first_outside}
use Rattle.dead_store.specs.Stays.{block_of, eliminated}
use Rattle.run.specs.Run.{run_of}
use Rattle.const_prop.specs.Pass.{ended, gives, walk_after, start_walk, env_of, propagated_of}
use Rattle.const_prop.proofs.After.{walk_ends}
use Rattle.alike.specs.ById.{Start, StartsAs}
use Rattle.alike.specs.Alike.{Alike}
use Rattle.alike.specs.Premises.{in_one_instruction}
use Rattle.alike.proofs.Both.{FirstAlike, both_checked}
use Rattle.alike.proofs.Kept.{vars_ok, held_block}
use Rattle.first_checked.specs.Results.{Given}
use Rattle.first_checked.proofs.First.{first_table}
use Rattle.first_checked.proofs.Checked.{result_checked}
use Rattle.first_checked.proofs.Runs.{result_runs}
use Rattle.first_checked.proofs.Inside.{result_one_instruction}
use Rattle.first_alike.proofs.Checked.{first_checked}
use Rattle.optimizer.specs.First.{table_for, first_by, first_of}
use Rattle.optimizer.specs.Second.{second_by, second_of}
use Rattle.optimizer.specs.Both.{both_by, both_of}
use Rattle.treated_alike.specs.Demand.{Accepted, Holds, RunsAlike, Fresh}

-- the second pass's limits are the wider ones
wider : (b : Block) → check_of first_limits b ≡ Ok tt → check_of second_limits b ≡ Ok tt
unfolding check_of
wider b e =
    let f = passing first_limits b e in
    rw (le-ltb 129 b.count (omega (arith, f.stmts)), f.checked, vars_ok (held b) (omega (arith, f.vars)), f.labels)

-- a refusal is no result
never : {why : Refusal} {t : Block} → ◌≡◌ {A = Result Block Refusal} (Err why) (Ok t) → ⊥
never e = let z : ◌≡◌ {A = ℕ} 0 1 = cc in omega arith

first_told : (a : Result (Unit {0}) Refusal) (b t : Block) (m : Marks) → first_by a b m ≡ Ok t → (a ≡ Ok tt) × (propagated_of (table_for (held b)) m (held b) ≡ Ok t)
first_told (Ok tt) b t m e = (refl, e)
first_told (Err why) b t m e = absurd (never e)

second_told : (a : Result (Unit {0}) Refusal) (b t : Block) (m : Marks) → second_by a b m ≡ Ok t → t ≡ block_of (eliminated m (held b))
second_told (Ok tt) b t m e = let q : block_of (eliminated m (held b)) ≡ t = cc in sym q
second_told (Err why) b t m e = absurd (never e)

-- what lies between the passes
Between : Block → Block → Marks → Type 0
Between b t m = (c : Block) × (first_of b m ≡ Ok c) × (second_of c m ≡ Ok t)

both_told : (a : Result Block Refusal) (b t : Block) (m : Marks) → first_of b m ≡ a → both_by a m ≡ Ok t → Between b t m
unfolding Between
both_told (Ok c) b t m f e = (c, f, e)
both_told (Err why) b t m f e = absurd (never e)

-- demand 3: the treated block, same start, same answers, runs as the block does
pub treated_runs_alike : (m : Marks) (answers : List ℕ) (b t : Block) → Accepted m b t → (start : Start) (rows rows' : List (List ℕ)) → Holds b start rows
    → Holds t start rows' → Fresh m answers b rows → RunsAlike m answers start b t rows rows'
unfolding Between
treated_runs_alike m answers b t a start rows rows' h h' fresh =
    let x = both_told (first_of b m) b t m refl a.accepted in
    let c = x.0 in
    let y = first_told (check_of first_limits b) b c m x.1 in
    let env = env_of (table_for (held b)) m (held b) in
    let l = ended (walk_after env start_walk (held b) (length (held b))) in
    let g : propagated_of (table_for (held b)) m (held b) ≡ gives l = walk_ends env 0 start_walk (held b) c y.1 in
    let table = first_table 48 b (omega arith) y.0 in
    let given : Given b (table_for (held b)) m l = record { checked = y.0; table = table; given = g } in
    let q : ◌≡◌ {A = Result Block Refusal} (Ok c) (Ok (block_of l)) = sym y.1 ∙ g in
    let block-is : c ≡ block_of l = cc in
    let first-is : FirstAlike m answers (held b) (held (block_of l)) =
    subst (λ (q : Block). FirstAlike m answers (held b) (held q)) block-is (first_checked m answers b c (table_for (held b)) y.0 a.class a.constants table y.1) in
    let ok₁ : check_of second_limits (block_of l) ≡ Ok tt = result_checked given in
    let class₁ = subst (λ (k : List Stmt). ltb (first_outside own_class k 0 k) (length k) ≡ false) (sym (held_block l)) (result_runs own_class given a.class) in
    let one₁ = subst (λ (k : List Stmt). in_one_instruction k ≡ true) (sym (held_block l)) (result_one_instruction given a.inside) in
    let result : t ≡ block_of (eliminated m (held (block_of l))) =
    second_told (check_of second_limits c) c t m x.2 ∙ ap (λ (q : Block). block_of (eliminated m (held q))) block-is in
    let left = eliminated m (held (block_of l)) in
    let stmts : held t ≡ left = ap held result ∙ held_block left in
    subst (λ (k : List Stmt). Alike m start (vars_of (held b)) (vars_of k) (run_of answers (held b) rows) (run_of answers k rows')) (sym stmts)
    (both_checked own_class m answers b (block_of l) (wider b y.0) a.class ok₁ class₁ one₁ first-is start rows rows' h.shape h'.shape h.same
    (subst (λ (k : List Stmt). StartsAs (vars_of k) rows' start) stmts h'.same) fresh)
