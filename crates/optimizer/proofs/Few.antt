-- A treated block has at most 129 statements, whichever passes it went through. Assumes nothing.
use Rattle.std.proofs.Common.{◌≡◌, ◌≤◌, ◌+◌, ◌*◌, ℕ, refl, Bool, true, false, List, [], ◌∷◌, length, Option, Some, None, Result, Ok, Err, arith, length-append}
use lib.ListN.{length-take}
use Rattle.pcode.specs.Block.{held, first_limits, second_limits}
use Rattle.pcode.specs.declared.block.Stmt.{Stmt}
use Rattle.pcode.specs.declared.block.Block.{Block}
use Rattle.pcode.specs.declared.block.Marks.{Marks}
use Rattle.pcode.specs.declared.var.PcodeLabel.{PcodeLabel}
use Rattle.pcode.specs.declared.refusal.Refusal.{Refusal}
use Rattle.checks.specs.Checks.{check_of}
use Rattle.checks.proofs.Passing.{passing}
use Rattle.widen.specs.declared.widen.Made.{Made}
use Rattle.widen.specs.declared.widen.Why.{Why}
use Rattle.const_step.specs.Labels.{end_of}
use Rattle.widen.specs.Widen.{made_in}
use Rattle.const_prop.specs.Pass.{Env, Walk, stmts_of, answer_by, step_of, after_step, ended, walk_from, start_walk, env_of}
use Rattle.dead_store.specs.Stays.{without, judge, dead_of, persists}
use Rattle.optimizer.specs.First.{table_for, first_by, first_of}
use Rattle.optimizer.specs.Second.{second_by, second_of}
use Rattle.optimizer.specs.Both.{both_by, both_of}

-- a refusal is no result
never : {why : Refusal} {t : Block} → ◌≡◌ {A = Result Block Refusal} (Err why) (Ok t) → ⊥
never e = let z : ◌≡◌ {A = ℕ} 0 1 = cc in omega arith

-- where there is a result, no step was refused
by_made : (y : Result Made Why) (i : ℕ) (next : Result Block Refusal) (t : Block) → answer_by y i next ≡ Ok t → next ≡ Ok t
by_made (Ok m) i next t e = e
by_made (Err y) i next t e = absurd (never e)

-- a statement gives at most two
two : (m : Made) → length (stmts_of m) ≤ 2
two m = omega (arith, length-take m.count (m.first ∷ (m.second ∷ [])))

-- a skip that meets the end adds one
end_one : (k : Option PcodeLabel) → length (stmts_of (end_of k)) ≤ 1
end_one None = omega arith
end_one (Some t) = omega arith

-- two for each statement, and one at the end
walk_few : (env : Env) (i : ℕ) (w : Walk) (ss : List Stmt) (t : Block) → walk_from env i w ss ≡ Ok t → t.count ≤ length w.made + (2 * length ss + 1)
unfolding walk_from
walk_few env i w [] t e =
    let q : length (ended w) ≡ t.count = cc in
    omega (arith, length-append w.made (stmts_of (end_of w.skip)), end_one w.skip)
walk_few env i w (st ∷ rest) t e =
    let x = step_of env rest w st in
    let h = walk_few env (i + 1) (after_step w x) rest t (by_made x.made i (walk_from env (i + 1) (after_step w x) rest) t e) in
    omega (arith, h, two (made_in x.made), length-append w.made (stmts_of (made_in x.made)))

-- what stays is no more than there was
without_few : (ds : List Bool) (ss : List Stmt) → length (without ds ss) ≤ length ss
unfolding without
without_few [] ss = omega arith
without_few (d ∷ ds) [] = omega arith
without_few (true ∷ ds) (s ∷ ss) = let h = without_few ds ss in omega arith
without_few (false ∷ ds) (s ∷ ss) = let h = without_few ds ss in omega arith

module _ (b : Block) (m : Marks) (t : Block) where
  pub first_few : first_of b m ≡ Ok t → t.count ≤ 129
  first_few = go (check_of first_limits b) refl
    where
      go : (a : Result (Unit {0}) Refusal) → check_of first_limits b ≡ a → first_by a b m ≡ Ok t → t.count ≤ 129
      go (Ok u) c e =
          let h = walk_few (env_of (table_for (held b)) m (held b)) 0 start_walk (held b) t e in
          omega (arith, h, length-take b.count b.stmts, (passing first_limits b c).stmts)
      go (Err why) c e = absurd (never e)

  pub second_few : second_of b m ≡ Ok t → t.count ≤ 129
  second_few = go (check_of second_limits b) refl
    where
      go : (a : Result (Unit {0}) Refusal) → check_of second_limits b ≡ a → second_by a b m ≡ Ok t → t.count ≤ 129
      go (Ok u) c e =
          let q : length (without (dead_of (judge (persists m (held b)) (held b))) (held b)) ≡ t.count = cc in
          let h = without_few (dead_of (judge (persists m (held b)) (held b))) (held b) in
          omega (arith, (passing second_limits b c).stmts, length-take b.count b.stmts)
      go (Err why) c e = absurd (never e)

pub both_few : (b : Block) (m : Marks) (t : Block) → both_of b m ≡ Ok t → t.count ≤ 129
both_few b m t = go (first_of b m)
  where
    go : (a : Result Block Refusal) → both_by a m ≡ Ok t → t.count ≤ 129
    go (Ok between) e = second_few between m t e
    go (Err why) e = absurd (never e)
