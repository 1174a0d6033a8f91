-- The least of some ids. Assumes nothing.
use Rattle.std.proofs.Common.{ℕ, zero, suc, ◌+◌, ◌<◌, ◌≡◌, refl, sym, ◌∙◌, ap, List, [], ◌∷◌, ◌++◌, append_assoc, append-nil, add-one, arith, length, take, get_or}
use Rattle.pcode.specs.Var.{least_id}
use Rattle.pcode.specs.Block.{blank_stmt}
use Rattle.pcode.specs.declared.var.VarId.{VarId}
use Rattle.pcode.specs.declared.block.Stmt.{Stmt}
use Rattle.vars.specs.Vars.{ids_of}
use Rattle.const_prop.specs.Pass.{all_ids, least_from}

-- of no ids
pub least_nil : (x : VarId) → x ≡ least_from x []
unfolding least_from
least_nil x = refl

-- of two lists, one after the other
pub least_append : (x : VarId) (xs ys : List VarId) → least_from (least_from x xs) ys ≡ least_from x (xs ++ ys)
unfolding least_from
least_append x [] ys = refl
least_append x (y ∷ xs) ys = least_append (least_id x y) xs ys

-- of a statement's ids
pub least_three : (x : VarId) (us vs ws : List VarId) → least_from (least_from (least_from x us) vs) ws ≡ least_from x (us ++ (vs ++ ws))
least_three x us vs ws = least_append (least_from x us) vs ws ∙ least_append x us (vs ++ ws)

-- the ids of one statement more
pub ids_more : (ss : List Stmt) (i : ℕ) → i < length ss → all_ids (take (i + 1) ss) ≡ all_ids (take i ss) ++ ids_of (get_or ss i blank_stmt)
unfolding all_ids
ids_more ss i h = ap (λ (k : ℕ). all_ids (take k ss)) (add-one i) ∙ go ss i h
  where
    go : (ss : List Stmt) (i : ℕ) → i < length ss → all_ids (take (suc i) ss) ≡ all_ids (take i ss) ++ ids_of (get_or ss i blank_stmt)
    go [] i h = absurd (omega (arith, h))
    go (s ∷ ss) zero h = append-nil (ids_of s)
    go (s ∷ ss) (suc i) h = ap (λ (l : List VarId). ids_of s ++ l) (go ss i (omega (arith, h))) ∙ sym (append_assoc (ids_of s) (all_ids (take i ss)) (ids_of (get_or ss i blank_stmt)))

pub ids_append : (xs ys : List Stmt) → all_ids (xs ++ ys) ≡ all_ids xs ++ all_ids ys
unfolding all_ids
ids_append [] ys = refl
ids_append (x ∷ xs) ys = ap (λ (l : List VarId). ids_of x ++ l) (ids_append xs ys) ∙ sym (append_assoc (ids_of x) (all_ids xs) (all_ids ys))

pub ids_none : (x : VarId) → x ≡ least_from x (all_ids [])
unfolding all_ids least_from
ids_none x = refl

-- the least with the ids of one statement, of two
pub least_ids_one : (x : VarId) (a : Stmt) → least_from (least_from x (ids_of a)) [] ≡ least_from x (all_ids (a ∷ []))
unfolding all_ids
least_ids_one x a = sym (least_nil (least_from x (ids_of a))) ∙ ap (least_from x) (sym (append-nil (ids_of a)))

pub least_ids_two : (x : VarId) (a b : Stmt) → least_from (least_from x (ids_of a)) (ids_of b) ≡ least_from x (all_ids (a ∷ (b ∷ [])))
unfolding all_ids
least_ids_two x a b = least_append x (ids_of a) (ids_of b) ∙ ap (λ (l : List VarId). least_from x (ids_of a ++ l)) (sym (append-nil (ids_of b)))
