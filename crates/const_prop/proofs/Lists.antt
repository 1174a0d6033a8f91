-- The result and the targets as the walk fills them. Assumes nothing.
use Rattle.std.proofs.Common.{ℕ, zero, suc, ◌+◌, ◌-◌, ◌≤◌, ◌<◌, ◌≡◌, refl, sym, ◌∙◌, ap, List, [], ◌∷◌, ◌++◌, append_assoc, append-nil, add-one, add-zero, arith, length, take, drop, get_or, set, replicate, drop-cons}
use lib.Seq.{set_at, take-nil}
use Rattle.pcode.specs.Block.{blank_stmt, blank_stmts}
use Rattle.pcode.specs.declared.block.Stmt.{Stmt}
use Rattle.widen.specs.declared.widen.Made.{Made}
use Rattle.const_step.specs.Labels.{target_of, targets_of}
use Rattle.const_step.proofs.Turns.{Shaped, none, one, two}
use Rattle.const_prop.specs.Pass.{stmts_of}

pub blanks_length : length blank_stmts ≡ 129
unfolding blank_stmts
blanks_length = refl

get_d_same : {A : Type 0} (n k : ℕ) (x : A) → get_or (replicate n x) k x ≡ x
get_d_same zero k x = refl
get_d_same (suc n) zero x = refl
get_d_same (suc n) (suc k) x = get_d_same n k x

-- blanks are blank
pub blanks_split : (k : ℕ) → k < 129 → drop k blank_stmts ≡ blank_stmt ∷ drop (suc k) blank_stmts
unfolding blank_stmts
blanks_split k h =
    drop-cons blank_stmts k blank_stmt (omega (arith, blanks_length, h)) ∙ ap (λ (x : Stmt). x ∷ drop (suc k) blank_stmts) (get_d_same 129 k blank_stmt)

-- the next free place takes an element
pub put_more : {A : Type 0} (l free : List A) (x d : A) (k : ℕ) → k ≡ length l → k < length free
    → set (l ++ drop k free) k x ≡ (l ++ (x ∷ [])) ++ drop (suc k) free
put_more l free x d k e h =
    rw (drop-cons free k d h) (set_at l (get_or free k d) (drop (suc k) free) x k (sym e) ∙ sym (append_assoc l (x ∷ []) (drop (suc k) free)))

-- the next two free places take two statements
pub put_two : (l : List Stmt) (a b : Stmt) (k : ℕ) → k ≡ length l → k + 2 ≤ 129
    → set (set (l ++ drop k blank_stmts) k a) (k + 1) b ≡ ((l ++ (a ∷ [])) ++ (b ∷ [])) ++ drop (suc (suc k)) blank_stmts
put_two l a b k e h =
    ap (λ (z : List Stmt). set z (k + 1) b) (put_more l blank_stmts a blank_stmt k e (omega (arith, blanks_length, h)))
    ∙ ap (λ (j : ℕ). set ((l ++ (a ∷ [])) ++ drop (suc k) blank_stmts) j b) (add-one k)
    ∙ put_more (l ++ (a ∷ [])) blank_stmts b blank_stmt (suc k) (ap suc e ∙ sym (length_snoc l a)) (omega (arith, blanks_length, h))
  where
    length_snoc : (l : List Stmt) (a : Stmt) → length (l ++ (a ∷ [])) ≡ suc (length l)
    length_snoc [] a = refl
    length_snoc (x ∷ l) a = ap suc (length_snoc l a)

-- the statements that a step gives stand in the result, and blanks after them
pub shaped_body : (m : Made) (l : List Stmt) (k : ℕ) → Shaped m → k + 2 ≤ 129
    → ((l ++ (m.first ∷ [])) ++ (m.second ∷ [])) ++ drop (suc (suc k)) blank_stmts ≡ (l ++ stmts_of m) ++ drop (k + m.count) blank_stmts
shaped_body m l k (none s) h =
    append_assoc (l ++ (blank_stmt ∷ [])) (blank_stmt ∷ []) (drop (suc (suc k)) blank_stmts)
    ∙ ap (λ (z : List Stmt). (l ++ (blank_stmt ∷ [])) ++ z) (sym (blanks_split (suc k) (omega (arith, h))))
    ∙ append_assoc l (blank_stmt ∷ []) (drop (suc k) blank_stmts)
    ∙ ap (λ (z : List Stmt). l ++ z) (sym (blanks_split k (omega (arith, h))))
    ∙ sym (ap (λ (z : List Stmt). z ++ drop (k + 0) blank_stmts) (append-nil l) ∙ ap (λ (j : ℕ). l ++ drop j blank_stmts) (add-zero k))
shaped_body m l k (one a) h =
    append_assoc (l ++ (a ∷ [])) (blank_stmt ∷ []) (drop (suc (suc k)) blank_stmts)
    ∙ ap (λ (z : List Stmt). (l ++ (a ∷ [])) ++ z) (sym (blanks_split (suc k) (omega (arith, h))))
    ∙ ap (λ (j : ℕ). (l ++ (a ∷ [])) ++ drop j blank_stmts) (sym (add-one k))
shaped_body m l k (two a b) h =
    ap (λ (z : List Stmt). z ++ drop (suc (suc k)) blank_stmts) (append_assoc l (a ∷ []) (b ∷ []))
    ∙ ap (λ (j : ℕ). (l ++ (a ∷ (b ∷ []))) ++ drop j blank_stmts) (let q : suc (suc k) ≡ k + 2 = omega arith in q)

pub shaped_length : (m : Made) (l : List Stmt) (k : ℕ) → Shaped m → k ≡ length l → k + m.count ≡ length (l ++ stmts_of m)
shaped_length m l k s e = ap (λ (j : ℕ). j + m.count) e ∙ go l m s
  where
    go : (l : List Stmt) (m : Made) → Shaped m → length l + m.count ≡ length (l ++ stmts_of m)
    go [] m (none s) = refl
    go [] m (one a) = refl
    go [] m (two a b) = refl
    go (x ∷ l) m s = let ih = go l m s in omega (arith, ih)

pub shaped_small : (m : Made) → Shaped m → m.count ≤ 2
shaped_small m (none s) = omega arith
shaped_small m (one a) = omega arith
shaped_small m (two a b) = omega arith

-- two targets put after the first k
two_none : (js : List ℕ) (k a b : ℕ) → suc k < length js → take k (set (set js k a) (suc k) b) ≡ take k js
two_none [] k a b h = absurd (omega (arith, h))
two_none (x ∷ []) k a b h = absurd (omega (arith, h))
two_none (x ∷ (y ∷ js)) zero a b h = refl
two_none (x ∷ (y ∷ js)) (suc k) a b h = ap (λ (l : List ℕ). x ∷ l) (two_none (y ∷ js) k a b (omega (arith, h)))

two_one : (js : List ℕ) (k a b : ℕ) → suc k < length js → take (suc k) (set (set js k a) (suc k) b) ≡ take k js ++ (a ∷ [])
two_one [] k a b h = absurd (omega (arith, h))
two_one (x ∷ []) k a b h = absurd (omega (arith, h))
two_one (x ∷ (y ∷ js)) zero a b h = refl
two_one (x ∷ (y ∷ js)) (suc k) a b h = ap (λ (l : List ℕ). x ∷ l) (two_one (y ∷ js) k a b (omega (arith, h)))

two_both : (js : List ℕ) (k a b : ℕ) → suc k < length js → take (suc (suc k)) (set (set js k a) (suc k) b) ≡ take k js ++ (a ∷ (b ∷ []))
two_both [] k a b h = absurd (omega (arith, h))
two_both (x ∷ []) k a b h = absurd (omega (arith, h))
two_both (x ∷ (y ∷ js)) zero a b h = refl
two_both (x ∷ (y ∷ js)) (suc k) a b h = ap (λ (l : List ℕ). x ∷ l) (two_both (y ∷ js) k a b (omega (arith, h)))

targets_append : (xs ys : List Stmt) → targets_of (xs ++ ys) ≡ targets_of xs ++ targets_of ys
targets_append [] ys = refl
targets_append (x ∷ xs) ys = ap (λ (l : List ℕ). target_of x ∷ l) (targets_append xs ys)

pub shaped_targets : (m : Made) (l : List Stmt) (js : List ℕ) (k : ℕ) → Shaped m → k + 1 < length js → take k js ≡ targets_of l
    → take (k + m.count) (set (set js k (target_of m.first)) (k + 1) (target_of m.second)) ≡ targets_of (l ++ stmts_of m)
shaped_targets m l js k s h e = go m s ∙ ap (λ (z : List ℕ). z ++ targets_of (stmts_of m)) e ∙ sym (targets_append l (stmts_of m))
  where
    j : k + 1 ≡ suc k
    j = add-one k

    go : (m : Made) → Shaped m → take (k + m.count) (set (set js k (target_of m.first)) (k + 1) (target_of m.second)) ≡ take k js ++ targets_of (stmts_of m)
    go m (none t) =
        ap (λ (i : ℕ). take i (set (set js k 0) (k + 1) 0)) (add-zero k)
        ∙ ap (λ (i : ℕ). take k (set (set js k 0) i 0)) j
        ∙ two_none js k 0 0 (omega (arith, h))
        ∙ sym (append-nil (take k js))
    go m (one a) =
        ap (λ (i : ℕ). take i (set (set js k (target_of a)) i 0)) j ∙ two_one js k (target_of a) 0 (omega (arith, h))
    go m (two a b) =
        ap (λ (i : ℕ). take (k + 2) (set (set js k (target_of a)) i (target_of b))) j
        ∙ ap (λ (i : ℕ). take i (set (set js k (target_of a)) (suc k) (target_of b))) (let q : k + 2 ≡ suc (suc k) = omega arith in q)
        ∙ two_both js k (target_of a) (target_of b) (omega (arith, h))

-- the targets of the later statements
pub drop_targets : (i : ℕ) (ss : List Stmt) → drop i (targets_of ss) ≡ targets_of (drop i ss)
drop_targets zero ss = refl
drop_targets (suc i) [] = refl
drop_targets (suc i) (s ∷ ss) = drop_targets i ss

-- the targets below a statement, where a list begins with those of the first n
pub below_targets : (js : List ℕ) (ss : List Stmt) (n i : ℕ) → take n js ≡ targets_of (take n ss) → take (n - i) (drop i js) ≡ targets_of (drop i (take n ss))
below_targets js ss n i e = take_drop_swap i n js ∙ ap (drop i) e ∙ drop_targets i (take n ss)
  where
    take_drop_swap : (i n : ℕ) (js : List ℕ) → take (n - i) (drop i js) ≡ drop i (take n js)
    take_drop_swap zero n js = ap (λ (k : ℕ). take k js) (let q : n - 0 ≡ n = omega arith in q)
    take_drop_swap (suc i) n [] = take-nil {A = ℕ} (n - suc i) ∙ sym (ap (λ (l : List ℕ). drop (suc i) l) (take-nil {A = ℕ} n))
    take_drop_swap (suc i) zero (x ∷ js) = ap (λ (k : ℕ). take k (drop i js)) (let q : zero - suc i ≡ 0 = omega arith in q)
    take_drop_swap (suc i) (suc n) (x ∷ js) = ap (λ (k : ℕ). take k (drop i js)) (let q : suc n - suc i ≡ n - i = omega arith in q) ∙ take_drop_swap i n js
