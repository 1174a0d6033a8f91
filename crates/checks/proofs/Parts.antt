-- What is known of parts in range, and of the ids of an append.
use Prim.Native.Nat.{ℕ, ◌+◌, ◌≤◌}
use mathlib.Core.Path.{◌≡◌, refl, sym}
use mathlib.Core.Bool.{Bool, true, false, true≢false, ◌||◌}
use mathlib.Core.List.{List, [], ◌∷◌, ◌++◌}
use lib.Dec.{eqb, leb}
use borrow.Author.Tests.{leb-true}
use Rattle.pcode.specs.Var.{pick, zero_id, same_id}
use Rattle.pcode.specs.Block.{has_id}
use Rattle.pcode.specs.declared.var.VarId.{VarId}
use Rattle.pcode.specs.declared.var.VarNode.{VarNode}
use Rattle.checks.specs.Statements.{good_size, good_node}

-- a choice that came out true
pub chosen : (t u : Bool) → pick t u false ≡ true → (t ≡ true) × (u ≡ true)
chosen true u e = (refl, e)
chosen false u e = absurd (true≢false (sym e))

refused : (t u : Bool) → pick t false u ≡ true → u ≡ true
refused true u e = absurd (true≢false (sym e))
refused false u e = e

pub size_in : (n : ℕ) → good_size n ≡ true → n ≤ 16
unfolding good_size
size_in n e = leb-true n 16 (refused (eqb n 0) (leb n 16) e)

-- a part in range ends within its row
pub node_in : (v : VarNode) → good_node v ≡ true → v.offset + v.size ≤ 16
unfolding good_node
node_in v e =
    let x = chosen (good_size v.size) (leb (v.offset + v.size) 16) (refused (zero_id v.id) _ e) in
    leb-true (v.offset + v.size) 16 x.1

or_left : (t u v : Bool) → (u ≡ true → v ≡ true) → (t || u) ≡ true → (t || v) ≡ true
or_left true u v f e = refl
or_left false u v f e = f e

or_right : (t u : Bool) → u ≡ true → (t || u) ≡ true
or_right true u e = refl
or_right false u e = e

pub has_left : (xs ys : List VarId) (id : VarId) → has_id xs id ≡ true → has_id (xs ++ ys) id ≡ true
unfolding has_id
has_left [] ys id e = absurd (true≢false (sym e))
has_left (x ∷ xs) ys id e = or_left (same_id x id) (has_id xs id) (has_id (xs ++ ys) id) (has_left xs ys id) e

pub has_right : (xs ys : List VarId) (id : VarId) → has_id ys id ≡ true → has_id (xs ++ ys) id ≡ true
unfolding has_id
has_right [] ys id e = e
has_right (x ∷ xs) ys id e = or_right (same_id x id) (has_id (xs ++ ys) id) (has_right xs ys id e)
