-- The walk after n statements: an accepted block's walk goes on from there, and its result is what the whole walk has made. Assumes nothing.
use Rattle.std.proofs.Common.{ℕ, zero, suc, ◌+◌, arith, ◌≡◌, refl, sym, ◌∙◌, ap, List, [], ◌∷◌, length, drop, Result, Ok, Err}
use Rattle.pcode.specs.declared.block.Stmt.{Stmt}
use Rattle.pcode.specs.declared.block.Block.{Block}
use Rattle.pcode.specs.declared.refusal.Refusal.{Refusal}
use Rattle.widen.specs.declared.widen.Why.{Why}
use Rattle.widen.specs.declared.widen.Made.{Made}
use Rattle.const_prop.specs.Pass.{Env, Walk, step_of, after_step, ended, gives, answer_by, walk_from, walk_after}

-- a step that is not refused
answer_gives : (y : Result Made Why) (i : ℕ) (p : Result Block Refusal) (b : Block) → answer_by y i p ≡ Ok b → answer_by y i p ≡ p
answer_gives (Ok m) i p b e = refl
answer_gives (Err y) i p b e = absurd (cc)

-- the walk goes on from where it is after n statements
pub walk_rest : (env : Env) (i : ℕ) (w : Walk) (ss : List Stmt) (n : ℕ) (b : Block) → walk_from env i w ss ≡ Ok b
    → walk_from env i w ss ≡ walk_from env (i + n) (walk_after env w ss n) (drop n ss)
unfolding walk_from walk_after
walk_rest env i w ss zero b e = let h : i ≡ i + 0 = omega arith in ap (λ (k : ℕ). walk_from env k w ss) h
walk_rest env i w [] (suc n) b e = refl
walk_rest env i w (st ∷ rest) (suc n) b e =
    let x = step_of env rest w st in
    let q = answer_gives x.made i (walk_from env (i + 1) (after_step w x) rest) b e in
    let h : i + 1 + n ≡ i + suc n = omega arith in
    q
    ∙ walk_rest env (i + 1) (after_step w x) rest n b (sym q ∙ e)
    ∙ ap (λ (k : ℕ). walk_from env k (walk_after env (after_step w x) rest n) (drop n rest)) h

-- its result is what the walk after all statements has made
pub walk_ends : (env : Env) (i : ℕ) (w : Walk) (ss : List Stmt) (b : Block) → walk_from env i w ss ≡ Ok b → walk_from env i w ss ≡ gives (ended (walk_after env w ss (length ss)))
unfolding walk_from walk_after
walk_ends env i w [] b e = refl
walk_ends env i w (st ∷ rest) b e =
    let x = step_of env rest w st in
    let q = answer_gives x.made i (walk_from env (i + 1) (after_step w x) rest) b e in
    q ∙ walk_ends env (i + 1) (after_step w x) rest b (sym q ∙ e)
