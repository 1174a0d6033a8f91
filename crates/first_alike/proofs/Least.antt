-- Added ids: an id below the least of a block's is none of the block's, and no lasting variable's.
use Rattle.std.specs.Ordering.{int_eq}
use Rattle.std.proofs.Common.{zero, suc, arith, ◌≡◌, refl, sym, ap, ◌∙◌, subst, Bool, true, false, not, ◌&&◌, ◌||◌, true≢false, List, [], ◌∷◌, ◌++◌, ltb-true, ltb-false, lt-ltb, le-ltb}
use mathlib.Core.Bool.{false≢true}
use lib.IntN.{ℤ, pos, negsuc, pred_ℤ, ◌-ℤ◌, -ℤ_one}
use lib.Signed.{lt_z}
use Rattle.pcode.specs.Var.{pick, same_id, less_id, least_id, below_id}
use Rattle.pcode.specs.Block.{has_id, lasting, marked}
use Rattle.pcode.specs.declared.var.VarId.{VarId}
use Rattle.pcode.specs.declared.block.Stmt.{Stmt}
use Rattle.pcode.specs.declared.block.Marks.{Marks}
use Rattle.pcode.proofs.Ids.{same_id_true, same_id_refl}
use Rattle.vars.specs.Vars.{ids_of, join_id, join_ids, vars_from, vars_of}
use Rattle.vars.proofs.Rows.{ways, join_held, join_new}
use Rattle.const_prop.specs.Pass.{all_ids, least_from}

irrefl : (a : ℤ) → lt_z a a ≡ false
irrefl (pos a) = le-ltb a a (omega arith)
irrefl (negsuc a) = le-ltb a a (omega arith)

asym : (a b : ℤ) → lt_z a b ≡ true → lt_z b a ≡ false
asym (pos a) (pos b) h = let q = ltb-true a b h in le-ltb b a (omega arith)
asym (pos a) (negsuc b) h = absurd (false≢true h)
asym (negsuc a) (pos b) h = refl
asym (negsuc a) (negsuc b) h = let q = ltb-true b a h in le-ltb a b (omega arith)

-- a < b and b ≤ c
less_most : (a b c : ℤ) → lt_z a b ≡ true → lt_z c b ≡ false → lt_z a c ≡ true
less_most (pos a) (pos b) (pos c) h g = let p = ltb-true a b h in let q = ltb-false c b g in lt-ltb a c (omega arith)
less_most (pos a) (pos b) (negsuc c) h g = absurd (true≢false g)
less_most (pos a) (negsuc b) c h g = absurd (false≢true h)
less_most (negsuc a) (pos b) (pos c) h g = refl
less_most (negsuc a) (pos b) (negsuc c) h g = absurd (true≢false g)
less_most (negsuc a) (negsuc b) (pos c) h g = refl
less_most (negsuc a) (negsuc b) (negsuc c) h g = let p = ltb-true b a h in let q = ltb-false b c g in lt-ltb c a (omega arith)

-- a ≤ b and b ≤ c
most_most : (a b c : ℤ) → lt_z b a ≡ false → lt_z c b ≡ false → lt_z c a ≡ false
most_most a b c h g = ways (lt_z c a) (λ t. absurd (true≢false (sym (less_most c a b t h) ∙ g))) (λ t. t)

least_first : (a b : VarId) → less_id a (least_id a b) ≡ false
least_first a b = go (less_id b a) refl
  where
    go : (t : Bool) → less_id b a ≡ t → less_id a (pick t b a) ≡ false
    go true e = asym b.0 a.0 e
    go false e = irrefl a.0

least_second : (a b : VarId) → less_id b (least_id a b) ≡ false
least_second a b = go (less_id b a) refl
  where
    go : (t : Bool) → less_id b a ≡ t → less_id b (pick t b a) ≡ false
    go true e = irrefl b.0
    go false e = e

-- the least of an id and others is not above it, nor above one of them
pub least_le : (x : VarId) (ys : List VarId) → less_id x (least_from x ys) ≡ false
unfolding least_from
least_le x [] = irrefl x.0
least_le x (y ∷ ys) = most_most (least_from (least_id x y) ys).0 (least_id x y).0 x.0 (least_le (least_id x y) ys) (least_first x y)

pub least_among : (x : VarId) (ys : List VarId) (id : VarId) → has_id ys id ≡ true → less_id id (least_from x ys) ≡ false
unfolding least_from has_id
least_among x [] id h = absurd (false≢true h)
least_among x (y ∷ ys) id h = go (same_id y id) refl h (least_among (least_id x y) ys id)
  where
    go : (t : Bool) → same_id y id ≡ t → (t || has_id ys id) ≡ true → (has_id ys id ≡ true → less_id id (least_from (least_id x y) ys) ≡ false) → less_id id (least_from (least_id x y) ys) ≡ false
    go true e q f =
        subst (λ (i : VarId). less_id i (least_from (least_id x y) ys) ≡ false) (same_id_true y id e)
        (most_most (least_from (least_id x y) ys).0 (least_id x y).0 y.0 (least_le (least_id x y) ys) (least_second x y))
    go false e q f = f q

one_below : (a : ℤ) → lt_z (a -ℤ pos 1) a ≡ true
one_below a = ap (λ (z : ℤ). lt_z z a) (-ℤ_one a) ∙ go a
  where
    go : (a : ℤ) → lt_z (pred_ℤ a) a ≡ true
    go (pos zero) = refl
    go (pos (suc n)) = lt-ltb n (suc n) (omega arith)
    go (negsuc n) = lt-ltb n (suc n) (omega arith)

below_less : (a : VarId) → same_id (below_id a) a ≡ false → less_id (below_id a) a ≡ true
below_less a h = go (int_eq a.0 (negsuc 32767)) h
  where
    go : (t : Bool) → same_id (pick t a (record { 0 = a.0 -ℤ pos 1 })) a ≡ false → less_id (pick t a (record { 0 = a.0 -ℤ pos 1 })) a ≡ true
    go true q = absurd (true≢false (sym (same_id_refl a) ∙ q))
    go false q = one_below a.0

-- an added id is below the floor
pub added_under : (floor : VarId) (ys : List VarId) → same_id (below_id (least_from floor ys)) (least_from floor ys) ≡ false → less_id (below_id (least_from floor ys)) floor ≡ true
added_under floor ys h =
    less_most (below_id (least_from floor ys)).0 (least_from floor ys).0 floor.0 (below_less (least_from floor ys) h) (least_le floor ys)

-- the ids of a block's table are its statements'
has_append : (xs ys : List VarId) (id : VarId) → has_id (xs ++ ys) id ≡ (has_id xs id || has_id ys id)
unfolding has_id
has_append [] ys id = refl
has_append (x ∷ xs) ys id = go (same_id x id) (has_append xs ys id)
  where
    go : (t : Bool) → has_id (xs ++ ys) id ≡ (has_id xs id || has_id ys id) → (t || has_id (xs ++ ys) id) ≡ ((t || has_id xs id) || has_id ys id)
    go true e = refl
    go false e = e

pub data Or (A B : Type 0) : Type 0 where
  left : A → Or A B
  right : B → Or A B

or_true : (a b : Bool) → (a || b) ≡ true → Or (a ≡ true) (b ≡ true)
or_true true b h = left refl
or_true false b h = right h

or_left : (a b : Bool) → a ≡ true → (a || b) ≡ true
or_left true b h = refl
or_left false b h = absurd (false≢true h)

or_right : (a b : Bool) → b ≡ true → (a || b) ≡ true
or_right true b h = refl
or_right false b h = h

either : {A B C : Type 0} → Or A B → (A → C) → (B → C) → C
either (left a) f g = f a
either (right b) f g = g b

only : (x id : VarId) → has_id (x ∷ []) id ≡ true → same_id x id ≡ true
unfolding has_id
only x id q = either (or_true (same_id x id) false q) (λ r. r) (λ r. absurd (false≢true r))

join_from : (l : List VarId) (x id : VarId) → has_id (join_id l x) id ≡ true → Or (has_id l id ≡ true) (same_id x id ≡ true)
join_from l x id h =
    ways (has_id l x) (λ t. left (sym (ap (λ (m : List VarId). has_id m id) (join_held l x t)) ∙ h))
    (λ t.
    let e : (has_id l id || has_id (x ∷ []) id) ≡ true = sym (has_append l (x ∷ []) id) ∙ sym (ap (λ (m : List VarId). has_id m id) (join_new l x t)) ∙ h in
    either (or_true (has_id l id) (has_id (x ∷ []) id) e) (λ q. left q) (λ q. right (only x id q)))

joins_from : (l xs : List VarId) (id : VarId) → has_id (join_ids l xs) id ≡ true → Or (has_id l id ≡ true) (has_id xs id ≡ true)
unfolding join_ids has_id
joins_from l [] id h = left h
joins_from l (x ∷ xs) id h =
    either (joins_from (join_id l x) xs id h)
    (λ q. either (join_from l x id q) (λ r. left r) (λ r. right (or_left (same_id x id) (has_id xs id) r)))
    (λ q. right (or_right (same_id x id) (has_id xs id) q))

vars_from_lem : (l : List VarId) (ss : List Stmt) (id : VarId) → has_id (vars_from l ss) id ≡ true → Or (has_id l id ≡ true) (has_id (all_ids ss) id ≡ true)
unfolding vars_from all_ids
vars_from_lem l [] id h = left h
vars_from_lem l (s ∷ ss) id h =
    either (vars_from_lem (join_ids l (ids_of s)) ss id h)
    (λ q. either (joins_from l (ids_of s) id q) (λ r. left r) (λ r. right (has_append (ids_of s) (all_ids ss) id ∙ or_left (has_id (ids_of s) id) (has_id (all_ids ss) id) r)))
    (λ q. right (has_append (ids_of s) (all_ids ss) id ∙ or_right (has_id (ids_of s) id) (has_id (all_ids ss) id) q))

pub vars_among : (ss : List Stmt) (id : VarId) → has_id (vars_of ss) id ≡ true → has_id (all_ids ss) id ≡ true
unfolding vars_of has_id
vars_among ss id h = either (vars_from_lem [] ss id h) (λ q. absurd (false≢true q)) (λ q. q)

-- the least of 0 and the ids of a block
abbrev pub floor_of : List Stmt → VarId
floor_of ss = least_from (record { 0 = pos 0 }) (all_ids ss)

pub vars_real : (ss : List Stmt) (id : VarId) → has_id (vars_of ss) id ≡ true → less_id id (floor_of ss) ≡ false
vars_real ss id h = least_among (record { 0 = pos 0 }) (all_ids ss) id (vars_among ss id h)

and_left : (a b : Bool) → (a && b) ≡ true → a ≡ true
and_left true b h = refl
and_left false b h = absurd (false≢true h)

pub lasting_real : (ms : Marks) (ss : List Stmt) (id : VarId) → lasting ms id ≡ true → less_id id (floor_of ss) ≡ false
lasting_real ms ss id h =
    most_most (floor_of ss).0 (pos 0) id.0 (least_le (record { 0 = pos 0 }) (all_ids ss)) (asym (pos 0) id.0 (and_left (less_id (record { 0 = pos 0 }) id) (not (marked ms id)) h))
