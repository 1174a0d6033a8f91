-- Rows: a named id has one, different ids have different ones, and the id at a row is the id.
use Prim.Native.Nat.{ℕ, zero, suc, ◌+◌, ◌<◌, ◌≤◌}
use native.Mathlib.Numerals.{add-one}
use native.Mathlib.Omega.{arith}
use mathlib.Core.Path.{◌≡◌, refl, sym, ap, ◌∙◌, subst}
use mathlib.Core.Bool.{Bool, true, false, ◌||◌}
use mathlib.Core.List.{List, [], ◌∷◌, ◌++◌}
use lib.Dec.{ltb}
use lib.ListN.{length, take, drop, get_or, drop_of_length-le, length-append}
use lib.Seq.{drop-cons, take-suc}
use borrow.Author.Tests.{lt-ltb, le-ltb}
use Rattle.pcode.specs.Var.{same_id}
use Rattle.pcode.specs.Block.{has_id}
use Rattle.pcode.specs.declared.var.VarId.{VarId}
use Rattle.pcode.specs.declared.block.Stmt.{Stmt}
use Rattle.pcode.proofs.Ids.{same_id_true, same_id_refl}
use Rattle.vars.specs.Vars.{ids_of, join_id, join_ids, vars_from, vars_of, row_of}

-- a test's two ways
pub ways {ℓ} : {P : Type ℓ} (b : Bool) → (b ≡ true → P) → (b ≡ false → P) → P
ways true f g = f refl
ways false f g = g refl

row_same : (x : VarId) (l : List VarId) (id : VarId) → same_id x id ≡ true → row_of (x ∷ l) id ≡ 0
unfolding row_of
row_same x l id e = rw e

row_next : (x : VarId) (l : List VarId) (id : VarId) → same_id x id ≡ false → row_of (x ∷ l) id ≡ suc (row_of l id)
unfolding row_of
row_next x l id e = rw e

has_next : (x : VarId) (l : List VarId) (id : VarId) → same_id x id ≡ false → has_id (x ∷ l) id ≡ has_id l id
unfolding has_id
has_next x l id e = rw e

pub has_here : (x : VarId) (l : List VarId) (id : VarId) → same_id x id ≡ true → has_id (x ∷ l) id ≡ true
unfolding has_id
has_here x l id e = rw e

has_none : (id : VarId) → has_id [] id ≡ false
unfolding has_id
has_none id = refl

-- an id that is not held has the row past the last
pub row_missing : (l : List VarId) (id : VarId) → has_id l id ≡ false → row_of l id ≡ length l
unfolding row_of has_id
row_missing [] id e = refl
row_missing (x ∷ l) id e =
    ways (same_id x id) (λ f. cc (has_here x l id f)) (λ f. row_next x l id f ∙ ap suc (row_missing l id (sym (has_next x l id f) ∙ e)))

-- a named id has a row below the count
pub row_below : (l : List VarId) (id : VarId) → has_id l id ≡ true → row_of l id < length l
row_below [] id e = let z : true ≡ false = sym e ∙ has_none id in absurd (let w : ◌≡◌ {A = ℕ} 0 1 = cc in omega arith)
row_below (x ∷ l) id e =
    ways (same_id x id) (λ f. rw (row_same x l id f) (omega arith))
    (λ f. let h = row_below l id (sym (has_next x l id f) ∙ e) in rw (row_next x l id f) (omega arith))

-- whether an id is held, told by its row
pub has_row : (l : List VarId) (id : VarId) → ltb (row_of l id) (length l) ≡ has_id l id
has_row l id =
    ways (has_id l id) (λ e. lt-ltb _ _ (row_below l id e) ∙ sym e)
    (λ e. let m = row_missing l id e in le-ltb (row_of l id) (length l) (omega arith) ∙ sym e)

-- the id at a row is the id
pub row_at : (l : List VarId) (id d : VarId) → has_id l id ≡ true → get_or l (row_of l id) d ≡ id
row_at [] id d e = let z : true ≡ false = sym e ∙ has_none id in absurd (let w : ◌≡◌ {A = ℕ} 0 1 = cc in omega arith)
row_at (x ∷ l) id d e =
    ways (same_id x id) (λ f. rw (row_same x l id f) (same_id_true x id f))
    (λ f. rw (row_next x l id f) (row_at l id d (sym (has_next x l id f) ∙ e)))

-- rows of different ids differ
pub row_apart : (l : List VarId) (a b : VarId) → has_id l a ≡ true → has_id l b ≡ true → row_of l a ≡ row_of l b → a ≡ b
row_apart l a b h k e = sym (row_at l a a h) ∙ ap (λ (i : ℕ). get_or l i a) e ∙ row_at l b a k

-- an id at a place is held
pub has_at : (l : List VarId) (i : ℕ) (d : VarId) → i < length l → has_id l (get_or l i d) ≡ true
has_at [] i d h = absurd (omega arith)
has_at (x ∷ l) zero d h = has_here x l x (same_id_refl x)
has_at (x ∷ l) (suc i) d h =
    ways (same_id x (get_or l i d)) (λ f. has_here x l (get_or l i d) f) (λ f. has_next x l (get_or l i d) f ∙ has_at l i d (omega arith))

-- a search from place i on
module _ (l : List VarId) (id : VarId) (i : ℕ) where
  pub row_end : length l ≤ i → row_of (drop i l) id ≡ 0
  unfolding row_of
  row_end h = rw (drop_of_length-le l h)

  module _ (d : VarId) (h : i < length l) where
    pub row_found : same_id (get_or l i d) id ≡ true → row_of (drop i l) id ≡ 0
    row_found e = rw (drop-cons l i d h) (row_same _ _ _ e)

    pub row_passed : same_id (get_or l i d) id ≡ false → i + row_of (drop i l) id ≡ (i + 1) + row_of (drop (i + 1) l) id
    row_passed e =
        let f : row_of (drop i l) id ≡ suc (row_of (drop (suc i) l) id) = rw (drop-cons l i d h) (row_next _ _ _ e) in
        rw (add-one) (omega arith)

-- joining
has_append : (l : List VarId) (x id : VarId) → has_id (l ++ (x ∷ [])) id ≡ (has_id l id || same_id x id)
unfolding has_id
has_append [] x id = ways (same_id x id) (λ e. rw e) (λ e. rw e)
has_append (y ∷ l) x id = ways (same_id y id) (λ e. rw e) (λ e. rw e (has_append l x id))

pub join_held : (l : List VarId) (x : VarId) → has_id l x ≡ true → join_id l x ≡ l
unfolding join_id
join_held l x e = rw e

pub join_new : (l : List VarId) (x : VarId) → has_id l x ≡ false → join_id l x ≡ l ++ (x ∷ [])
unfolding join_id
join_new l x e = rw e

pub join_has : (l : List VarId) (x : VarId) → has_id (join_id l x) x ≡ true
join_has l x =
    ways (has_id l x) (λ e. rw (join_held l x e) e)
    (λ e. rw (join_new l x e) (has_append l x x ∙ rw (e) (same_id_refl x)))

pub join_keeps : (l : List VarId) (x id : VarId) → has_id l id ≡ true → has_id (join_id l x) id ≡ true
join_keeps l x id h =
    ways (has_id l x) (λ e. rw (join_held l x e) h)
    (λ e. rw (join_new l x e) (has_append l x id ∙ rw h))

pub join_longer : (l : List VarId) (x : VarId) → length l ≤ length (join_id l x)
join_longer l x =
    ways (has_id l x) (λ e. rw (join_held l x e) (omega arith))
    (λ e. rw (join_new l x e) (omega (arith, length-append l (x ∷ []))))

pub joins_keep : (l xs : List VarId) (id : VarId) → has_id l id ≡ true → has_id (join_ids l xs) id ≡ true
unfolding join_ids
joins_keep l [] id h = h
joins_keep l (x ∷ xs) id h = joins_keep (join_id l x) xs id (join_keeps l x id h)

pub joins_have : (l xs : List VarId) (id : VarId) → has_id xs id ≡ true → has_id (join_ids l xs) id ≡ true
unfolding join_ids
joins_have l [] id h = let z : true ≡ false = sym h ∙ has_none id in cc
joins_have l (x ∷ xs) id h =
    ways (same_id x id)
    (λ e. joins_keep (join_id l x) xs id (subst (λ (v : VarId). has_id (join_id l x) v ≡ true) (same_id_true x id e) (join_has l x)))
    (λ e. joins_have (join_id l x) xs id (sym (has_next x xs id e) ∙ h))

pub joins_longer : (l xs : List VarId) → length l ≤ length (join_ids l xs)
unfolding join_ids
joins_longer l [] = omega arith
joins_longer l (x ∷ xs) = omega (arith, join_longer l x, joins_longer (join_id l x) xs)

-- the variables of statements
pub vars_keep : (l : List VarId) (ss : List Stmt) (id : VarId) → has_id l id ≡ true → has_id (vars_from l ss) id ≡ true
unfolding vars_from
vars_keep l [] id h = h
vars_keep l (s ∷ ss) id h = vars_keep (join_ids l (ids_of s)) ss id (joins_keep l (ids_of s) id h)

vars_have : (l : List VarId) (ss : List Stmt) (i : ℕ) (d : Stmt) (id : VarId) → i < length ss → has_id (ids_of (get_or ss i d)) id ≡ true → has_id (vars_from l ss) id ≡ true
unfolding vars_from
vars_have l [] i d id h e = absurd (omega arith)
vars_have l (s ∷ ss) zero d id h e = vars_keep (join_ids l (ids_of s)) ss id (joins_have l (ids_of s) id e)
vars_have l (s ∷ ss) (suc i) d id h e = vars_have (join_ids l (ids_of s)) ss i d id (omega arith) e

-- an id that a statement of the block names is a variable of the block
pub named_has : (ss : List Stmt) (i : ℕ) (d : Stmt) (id : VarId) → i < length ss → has_id (ids_of (get_or ss i d)) id ≡ true → has_id (vars_of ss) id ≡ true
unfolding vars_of
named_has ss i d id h e = vars_have [] ss i d id h e

pub vars_longer : (l : List VarId) (ss : List Stmt) → length l ≤ length (vars_from l ss)
unfolding vars_from
vars_longer l [] = omega arith
vars_longer l (s ∷ ss) = omega (arith, joins_longer l (ids_of s), vars_longer (join_ids l (ids_of s)) ss)

pub vars_append : (l : List VarId) (ss ts : List Stmt) → vars_from l (ss ++ ts) ≡ vars_from (vars_from l ss) ts
unfolding vars_from
vars_append l [] ts = refl
vars_append l (s ∷ ss) ts = vars_append (join_ids l (ids_of s)) ss ts

-- a longer block has no fewer variables
pub vars_grow : (ss ts : List Stmt) → length (vars_of ss) ≤ length (vars_of (ss ++ ts))
unfolding vars_of
vars_grow ss ts = rw (vars_append [] ss ts) (vars_longer (vars_from [] ss) ts)

-- one statement more
pub vars_more : (ss : List Stmt) (i : ℕ) (d : Stmt) → i < length ss → vars_of (take (i + 1) ss) ≡ join_ids (vars_of (take i ss)) (ids_of (get_or ss i d))
unfolding vars_of vars_from
vars_more ss i d h = rw (add-one, take-suc ss i d h) (vars_append [] (take i ss) (get_or ss i d ∷ []))
