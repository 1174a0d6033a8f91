-- A table takes the ids of statements one after the other, until one finds no room.
use Prim.Native.Nat.{ℕ, suc, ◌+◌, ◌<◌, ◌≤◌}
use native.Mathlib.Numerals.{add-one}
use native.Mathlib.Omega.{arith}
use mathlib.Core.Path.{◌≡◌, refl, sym, ap, ◌∙◌}
use mathlib.Core.Bool.{true}
use mathlib.Core.List.{List, [], ◌∷◌, ◌++◌, append_assoc}
use lib.Dec.{ltb}
use lib.ListN.{length, take, drop, get_or, set, length-append, drop_of_length-le}
use lib.Seq.{drop-cons, set_at, take-append_seam, take-length}
use borrow.Author.Tests.{lt-ltb, le-ltb, ltb-true, ltb-false, le-leb, lt-leb}
use Rattle.std.specs.Prelude.{Some, None}
use Rattle.pcode.specs.Block.{has_id}
use Rattle.pcode.specs.declared.var.VarId.{VarId}
use Rattle.pcode.specs.declared.block.Stmt.{Stmt}
use Rattle.vars.specs.declared.Vars.{Vars}
use Rattle.vars.specs.Vars.{ids_of, join_id, join_ids, row_of, held_ids, no_ids, table_of, Sits, if_fits, over_from, vars_from, vars_of, named_of, cap_of}
use Rattle.vars.proofs.Rows.{ways, has_row, join_held, join_new, joins_longer, vars_more, vars_longer}

pub no_ids_length : length no_ids ≡ 112
unfolding no_ids
no_ids_length = refl

-- the next free place takes an element
pub put_more : {A : Type 0} (l free : List A) (x d : A) (k : ℕ) → k ≡ length l → k < length free
    → set (l ++ drop k free) k x ≡ (l ++ (x ∷ [])) ++ drop (suc k) free
put_more l free x d k e h =
    rw (drop-cons free k d h) (set_at l (get_or free k d) (drop (suc k) free) x k (sym e) ∙ sym (append_assoc l (x ∷ []) (drop (suc k) free)))

table_held : (l : List VarId) → held_ids (table_of l) ≡ l
table_held l = take-append_seam l (drop (length l) no_ids)

-- a table of few enough ids sits
pub sits : (m : ℕ) (l : List VarId) → length l ≤ m → m ≤ 112 → Sits m (table_of l)
sits m l h k = record { table = ap table_of (sym (table_held l)); small = rw (table_held l) h; room = k }

-- a list that fits, or does not
pub fits_yes : (m : ℕ) (l : List VarId) → length l ≤ m → Some (table_of l) ≡ if_fits m l
fits_yes m l h = rw (le-leb _ _ h) refl

pub fits_no : (m : ℕ) (l : List VarId) → m < length l → None ≡ if_fits m l
fits_no m l h = rw (lt-leb _ _ h) refl

pub fits_none : (m : ℕ) (l : List VarId) → None ≡ if_fits m l → m < length l
fits_none m l e =
    ways (ltb m (length l)) (λ t. ltb-true _ _ t)
    (λ t. let h = ltb-false m (length l) t in absurd (apart (table_of l) (e ∙ sym (fits_yes m l h))))
  where
    apart : (v : Vars) → None ≡ Some v → ⊥
    apart v e = let z : ◌≡◌ {A = ℕ} 0 1 = cc in omega arith

pub fits_some : (m : ℕ) (l : List VarId) (v : Vars) → m ≤ 112 → Some v ≡ if_fits m l → Sits m v × (held_ids v ≡ l)
fits_some m l v k e =
    ways (ltb m (length l)) (λ t. absurd (apart v (fits_no m l (ltb-true _ _ t) ∙ sym e)))
    (λ t. let h = ltb-false m (length l) t in
    let f : v ≡ table_of l = let g : Some v ≡ Some (table_of l) = e ∙ sym (fits_yes m l h) in cc in
    rw f (sits m l h k, table_held l))
  where
    apart : (v : Vars) → None ≡ Some v → ⊥
    apart v e = let z : ◌≡◌ {A = ℕ} 0 1 = cc in omega arith

made : (a b : List VarId) (i j : ℕ) → a ≡ b → i ≡ j → ◌≡◌ {A = Vars} (record { ids = a; count = i }) (record { ids = b; count = j })
made a b i j e f = rw (e, f) refl

module _ (m : ℕ) (v : Vars) (s : Sits m v) where
  counted : v.count ≡ length (held_ids v)
  counted = ap (λ (t : Vars). t.count) s.table

  pub join_none : Some v ≡ if_fits m (join_ids (held_ids v) [])
  unfolding join_ids
  join_none = ap Some s.table ∙ fits_yes m (held_ids v) s.small

  module _ (x : VarId) where
    pub join_there : row_of (held_ids v) x < v.count → Some v ≡ if_fits m (join_id (held_ids v) x)
    join_there h =
        let e : has_id (held_ids v) x ≡ true = sym (has_row (held_ids v) x) ∙ lt-ltb _ _ (omega (arith, counted)) in
        rw (join_held (held_ids v) x e) (ap Some s.table ∙ fits_yes m (held_ids v) s.small)

    module _ (h : v.count ≤ row_of (held_ids v) x) where
      new : join_id (held_ids v) x ≡ held_ids v ++ (x ∷ [])
      new = join_new (held_ids v) x (sym (has_row (held_ids v) x) ∙ le-ltb _ _ (omega (arith, counted)))

      pub join_full : m ≤ v.count → None ≡ if_fits m (join_id (held_ids v) x)
      join_full k = rw new (fits_no m _ (omega (arith, counted, length-append (held_ids v) (x ∷ []))))

      pub join_more : v.count < m → Some (record { ids = set v.ids v.count x; count = v.count + 1 }) ≡ if_fits m (join_id (held_ids v) x)
      join_more k =
          let l = held_ids v in
          let n : length (l ++ (x ∷ [])) ≡ v.count + 1 = length-append l (x ∷ []) ∙ omega (arith, counted) in
          let i : v.ids ≡ l ++ drop (length l) no_ids = ap (λ (t : Vars). t.ids) s.table in
          let q : set v.ids v.count x ≡ (l ++ (x ∷ [])) ++ drop (length (l ++ (x ∷ []))) no_ids =
          ap (λ (t : List VarId). set t v.count x) i ∙ ap (λ (k : ℕ). set (l ++ drop k no_ids) v.count x) (sym counted)
          ∙ put_more l no_ids x x v.count counted (rw no_ids_length (omega (arith, s.room)))
          ∙ ap (λ (k : ℕ). (l ++ (x ∷ [])) ++ drop k no_ids) (sym (n ∙ add-one v.count)) in
          rw (new) (ap Some (made _ _ _ _ q (sym n)) ∙ fits_yes m _ (omega (arith, n)))

joins_append : (l xs ys : List VarId) → join_ids l (xs ++ ys) ≡ join_ids (join_ids l xs) ys
unfolding join_ids
joins_append l [] ys = refl
joins_append l (x ∷ xs) ys = joins_append (join_id l x) xs ys

-- the ids of a statement, one operand after the other
module _ (m : ℕ) (l xs ys zs : List VarId) where
  pub first_full : None ≡ if_fits m (join_ids l xs) → None ≡ if_fits m (join_ids l (xs ++ (ys ++ zs)))
  first_full e = rw (joins_append l xs (ys ++ zs)) (fits_no m _ (omega (arith, fits_none m _ e, joins_longer (join_ids l xs) (ys ++ zs))))

  module _ (o : Vars) (k : m ≤ 112) (e : Some o ≡ if_fits m (join_ids l xs)) where
    pub second_sits : Sits m o
    second_sits = (fits_some m _ o k e).0

    second_ids : join_ids (held_ids o) ys ≡ join_ids l (xs ++ ys)
    second_ids = ap (λ (t : List VarId). join_ids t ys) (fits_some m _ o k e).1 ∙ sym (joins_append l xs ys)

    pub second_full : None ≡ if_fits m (join_ids (held_ids o) ys) → None ≡ if_fits m (join_ids l (xs ++ (ys ++ zs)))
    second_full f =
        let g : None ≡ if_fits m (join_ids l (xs ++ ys)) = f ∙ ap (if_fits m) second_ids in
        rw (sym (append_assoc xs ys zs), joins_append l (xs ++ ys) zs) (fits_no m _ (omega (arith, fits_none m _ g, joins_longer (join_ids l (xs ++ ys)) zs)))

    module _ (a : Vars) (f : Some a ≡ if_fits m (join_ids (held_ids o) ys)) where
      pub third_sits : Sits m a
      third_sits = (fits_some m _ a k f).0

      pub third_ids : join_ids (held_ids a) zs ≡ join_ids l (xs ++ (ys ++ zs))
      third_ids = ap (λ (t : List VarId). join_ids t zs) ((fits_some m _ a k f).1 ∙ second_ids) ∙ sym (joins_append l (xs ++ ys) zs) ∙ ap (join_ids l) (append_assoc xs ys zs)

-- the walk over the statements: place i is not beyond the limit
module _ (m : ℕ) (k : m ≤ 112) (ss : List Stmt) where
  pub record Going (i : ℕ) (v : Vars) : Type 0 where
    pub place : over_from m [] ss ≡ i + over_from m (vars_of (take i ss)) (drop i ss)
    pub held : held_ids v ≡ vars_of (take i ss)
    pub sits : Sits m v

  pub going_none : Going 0 (table_of [])
  unfolding vars_of vars_from
  going_none = record { place = omega arith; held = table_held []; sits = sits m [] (omega arith) k }

  module _ (i : ℕ) (v : Vars) (g : Going i v) where
    whole : v ≡ table_of (vars_of (take i ss))
    whole = g.sits.table ∙ ap table_of g.held

    named_at : over_from m [] ss ≡ i → record { vars = v; place = i } ≡ named_of m ss
    named_at e = rw (e, sym whole) refl

    pub going_last : length ss ≤ i → i ≤ length ss → record { vars = v; place = length ss } ≡ named_of m ss
    unfolding over_from
    going_last h k =
        let e : length ss ≡ i = omega arith in
        rw e (named_at (g.place ∙ rw (drop_of_length-le ss {i = i} h) (omega arith)))

    module _ (d : Stmt) (h : i < length ss) where
      pub going_over : None ≡ if_fits m (join_ids (held_ids v) (ids_of (get_or ss i d))) → record { vars = v; place = i } ≡ named_of m ss
      unfolding over_from
      going_over f =
          let n : m < length (join_ids (vars_of (take i ss)) (ids_of (get_or ss i d))) = fits_none m _ (f ∙ ap (λ (l : List VarId). if_fits m (join_ids l (ids_of (get_or ss i d)))) g.held) in
          named_at (g.place ∙ rw (drop-cons ss i d h, lt-ltb _ _ n) (omega arith))

      pub going_more : (w : Vars) → Some w ≡ if_fits m (join_ids (held_ids v) (ids_of (get_or ss i d))) → Going (i + 1) w
      unfolding over_from
      going_more w f =
          let p : Sits m w × (held_ids w ≡ join_ids (vars_of (take i ss)) (ids_of (get_or ss i d))) = fits_some m _ w k (f ∙ ap (λ (l : List VarId). if_fits m (join_ids l (ids_of (get_or ss i d)))) g.held) in
          let n : length (join_ids (vars_of (take i ss)) (ids_of (get_or ss i d))) ≤ m = rw (sym p.1) p.0.small in
          record {
            place = g.place ∙ rw (drop-cons ss i d h, le-ltb _ _ n, vars_more ss i d h, add-one i) (omega arith);
            held = p.1 ∙ sym (vars_more ss i d h);
            sits = p.0;
          }

pub cap_small : (m : ℕ) → cap_of m ≤ 112
cap_small m = omega arith

-- where all fit, no statement names a variable beyond the limit, and the table holds them all
all_fit : (m : ℕ) (l : List VarId) (ss : List Stmt) → length (vars_from l ss) ≤ m → over_from m l ss ≡ length ss
unfolding vars_from over_from
all_fit m l [] h = refl
all_fit m l (s ∷ ss) h =
    let k = vars_longer (join_ids l (ids_of s)) ss in
    rw (le-ltb m (length (join_ids l (ids_of s))) (omega arith)) (ap suc (all_fit m (join_ids l (ids_of s)) ss h))

pub named_held : (m : ℕ) (ss : List Stmt) → length (vars_of ss) ≤ m → held_ids (named_of m ss).vars ≡ vars_of ss
unfolding vars_of
named_held m ss h = table_held (vars_from [] (take (over_from m [] ss) ss)) ∙ ap (λ (n : ℕ). vars_from [] (take n ss)) (all_fit m [] ss h) ∙ ap (vars_from []) (take-length ss)
