-- A part of a block fits, and names no more variables than the block.
use Rattle.std.proofs.Common.{suc, ◌≤◌, arith, ◌≡◌, refl, sym, ap, ◌∙◌, subst, Bool, true, false, ◌||◌, true≢false, List, [], ◌∷◌, ◌++◌, length}
use mathlib.Core.Bool.{false≢true}
use Rattle.pcode.specs.Var.{pick, same_id}
use Rattle.pcode.specs.Block.{has_id}
use Rattle.pcode.specs.declared.var.VarId.{VarId}
use Rattle.pcode.specs.declared.block.Stmt.{Stmt}
use Rattle.pcode.proofs.Ids.{same_id_true, same_id_refl}
use Rattle.vars.specs.Vars.{ids_of, join_id, join_ids, vars_from, vars_of}
use Rattle.vars.proofs.Rows.{ways, join_held, join_new, join_keeps, join_has, joins_keep}
use Rattle.dead_store.specs.Stays.{without}
use Rattle.alike.proofs.Fits.{AllFit}

pub fit_without : (bs : List Bool) (ss : List Stmt) → AllFit ss → AllFit (without bs ss)
unfolding without
fit_without [] ss f = tt
fit_without (b ∷ bs) [] f = tt
fit_without (true ∷ bs) (s ∷ ss) f = fit_without bs ss f.1
fit_without (false ∷ bs) (s ∷ ss) f = (f.0, fit_without bs ss f.1)

-- one list's ids are among another's
abbrev pub Within : List VarId → List VarId → Type 0
Within l m = (id : VarId) → has_id l id ≡ true → has_id m id ≡ true

-- an id past one more
pub has_snoc : (l : List VarId) (x id : VarId) → has_id (l ++ (x ∷ [])) id ≡ (has_id l id || same_id x id)
unfolding has_id
has_snoc [] x id = ways (same_id x id) (λ e. rw e) (λ e. rw e)
has_snoc (y ∷ l) x id = ways (same_id y id) (λ e. rw e) (λ e. rw e (has_snoc l x id))

join_within : (l m : List VarId) (x : VarId) → Within l m → Within (join_id l x) (join_id m x)
join_within l m x h id e =
    ways (has_id l x)
    (λ t. join_keeps m x id (h id (sym (ap (λ (j : List VarId). has_id j id) (join_held l x t)) ∙ e)))
    (λ t. by (sym (has_snoc l x id) ∙ sym (ap (λ (j : List VarId). has_id j id) (join_new l x t)) ∙ e))
  where
    by : (has_id l id || same_id x id) ≡ true → has_id (join_id m x) id ≡ true
    by q =
        ways (has_id l id) (λ t. join_keeps m x id (h id t))
        (λ t. subst (λ (i : VarId). has_id (join_id m x) i ≡ true) (same_id_true x id (sym (rw t) ∙ q)) (join_has m x))

joins_within : (l m xs : List VarId) → Within l m → Within (join_ids l xs) (join_ids m xs)
unfolding join_ids
joins_within l m [] h = h
joins_within l m (x ∷ xs) h = joins_within (join_id l x) (join_id m x) xs (join_within l m x h)

vars_within : (l m : List VarId) (bs : List Bool) (ss : List Stmt) → Within l m → Within (vars_from l (without bs ss)) (vars_from m ss)
unfolding vars_from without
vars_within l m [] [] h = h
vars_within l m [] (s ∷ ss) h = λ id e. vars_within (join_ids l (ids_of s)) (join_ids m (ids_of s)) [] ss (joins_within l m (ids_of s) h) id (joins_keep l (ids_of s) id e)
vars_within l m (b ∷ bs) [] h = h
vars_within l m (true ∷ bs) (s ∷ ss) h = vars_within l (join_ids m (ids_of s)) bs ss (λ id e. joins_keep m (ids_of s) id (h id e))
vars_within l m (false ∷ bs) (s ∷ ss) h = vars_within (join_ids l (ids_of s)) (join_ids m (ids_of s)) bs ss (joins_within l m (ids_of s) h)

-- no id stands twice
abbrev pub Distinct : List VarId → Type 0
Distinct [] = Unit {0}
Distinct (x ∷ l) = (has_id l x ≡ false) × Distinct l

apart_ids : (y x : VarId) → same_id x y ≡ true → same_id y x ≡ false → ⊥
apart_ids y x t n = true≢false (sym (same_id_refl x) ∙ ap (λ (i : VarId). same_id i x) (same_id_true x y t) ∙ n)

distinct_snoc : (l : List VarId) (x : VarId) → Distinct l → has_id l x ≡ false → Distinct (l ++ (x ∷ []))
unfolding has_id
distinct_snoc [] x d e = (refl, tt)
distinct_snoc (y ∷ l) x d e =
    let n : same_id y x ≡ false = ways (same_id y x) (λ t. sym (rw t) ∙ e) (λ t. t) in
    let m : has_id l x ≡ false = sym (rw n) ∙ e in
    let q : same_id x y ≡ false = ways (same_id x y) (λ t. absurd (apart_ids y x t n)) (λ t. t) in
    (has_snoc l x y ∙ rw (d.0, q), distinct_snoc l x d.1 m)

distinct_join : (l : List VarId) (x : VarId) → Distinct l → Distinct (join_id l x)
distinct_join l x d = ways (has_id l x) (λ t. rw (join_held l x t) d) (λ t. rw (join_new l x t) (distinct_snoc l x d t))

distinct_joins : (l xs : List VarId) → Distinct l → Distinct (join_ids l xs)
unfolding join_ids
distinct_joins l [] d = d
distinct_joins l (x ∷ xs) d = distinct_joins (join_id l x) xs (distinct_join l x d)

pub distinct_vars : (l : List VarId) (ss : List Stmt) → Distinct l → Distinct (vars_from l ss)
unfolding vars_from
distinct_vars l [] d = d
distinct_vars l (s ∷ ss) d = distinct_vars (join_ids l (ids_of s)) ss (distinct_joins l (ids_of s) d)

-- a list without the first same id
unfoldable less : List VarId → VarId → List VarId
less [] x = []
less (y ∷ m) x = pick (same_id y x) m (y ∷ less m x)

less_length : (m : List VarId) (x : VarId) → has_id m x ≡ true → length m ≡ suc (length (less m x))
unfolding less has_id
less_length [] x e = absurd (false≢true e)
less_length (y ∷ m) x e = ways (same_id y x) (λ t. rw t) (λ t. rw t (ap suc (less_length m x (sym (rw t) ∙ e))))

less_has : (m : List VarId) (x id : VarId) → has_id m id ≡ true → same_id x id ≡ false → has_id (less m x) id ≡ true
unfolding less has_id
less_has [] x id e n = e
less_has (y ∷ m) x id e n =
    ways (same_id y x)
    (λ t. let q : same_id y id ≡ false = ap (λ (i : VarId). same_id i id) (same_id_true y x t) ∙ n in rw t (sym (rw q) ∙ e))
    (λ t. rw t (ways (same_id y id) (λ u. rw u) (λ u. rw u (less_has m x id (sym (rw u) ∙ e) n))))

pub fewer : (l m : List VarId) → Distinct l → Within l m → length l ≤ length m
unfolding has_id
fewer [] m d h = omega arith
fewer (x ∷ l) m d h =
    let e = less_length m x (h x (rw (same_id_refl x))) in
    let ih = fewer l (less m x) d.1 (λ id t. less_has m x id (h id (ways (same_id x id) (λ u. rw u) (λ u. rw u t))) (apart id t)) in
    omega arith
  where
    apart : (id : VarId) → has_id l id ≡ true → same_id x id ≡ false
    apart id t = ways (same_id x id) (λ u. absurd (true≢false (sym t ∙ ap (has_id l) (sym (same_id_true x id u)) ∙ d.0))) (λ u. u)

-- a part of a block has no more variables
pub vars_without : (bs : List Bool) (ss : List Stmt) → length (vars_of (without bs ss)) ≤ length (vars_of ss)
unfolding vars_of
vars_without bs ss = fewer (vars_from [] (without bs ss)) (vars_from [] ss) (distinct_vars [] (without bs ss) tt) (vars_within [] [] bs ss (λ id e. e))
