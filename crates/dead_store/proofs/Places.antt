-- From rows to ids: what a statement's parts are at the row of an id.
use Rattle.std.proofs.Common.{ℕ, ◌≤◌, ◌<◌, arith, ◌≡◌, refl, sym, ap, ◌∙◌, Bool, true, false, ◌&&◌, List, [], ◌∷◌, ◌++◌, eqb, length, eqb-true, eq-eqb}
use Rattle.pcode.specs.Var.{same_id, as_operand}
use Rattle.pcode.specs.Block.{has_id}
use Rattle.pcode.specs.declared.var.VarId.{VarId}
use Rattle.pcode.specs.declared.var.Operand.{Operand}
use Rattle.pcode.specs.declared.var.Operand.TheVariants.{None, Const, Var}
use Rattle.pcode.specs.declared.block.Stmt.{Stmt}
use Rattle.pcode.proofs.Ids.{same_id_true, same_id_refl}
use Rattle.vars.specs.Vars.{ids_in, ids_of, row_of}
use Rattle.vars.proofs.Rows.{ways, has_here, row_apart, row_below}
use Rattle.live_bytes.specs.Bytes.{inside}
use Rattle.live_tables.specs.Rows.{is_var, part_of, no_part, row_in}
use Rattle.dead_store.specs.Stays.{names, names_id}
use Rattle.live_tables.specs.Tables.{at}
use Rattle.live_tables.proofs.Rowwise.{and_false}
use Rattle.live_bytes.proofs.Runs.{run_none}

-- an id among two lists
has_left : (xs ys : List VarId) (id : VarId) → has_id xs id ≡ true → has_id (xs ++ ys) id ≡ true
unfolding has_id
has_left [] ys id e = cc
has_left (x ∷ xs) ys id e = ways (same_id x id) (λ t. rw t) (λ t. rw t (has_left xs ys id (sym (rw t) ∙ e)))

has_right : (xs ys : List VarId) (id : VarId) → has_id ys id ≡ true → has_id (xs ++ ys) id ≡ true
unfolding has_id
has_right [] ys id e = e
has_right (x ∷ xs) ys id e = ways (same_id x id) (λ t. rw t) (λ t. rw t (has_right xs ys id e))

-- the ids of a statement's output and operands are among l
abbrev pub Among : List VarId → Operand → Type 0
Among l a = (id : VarId) → has_id (ids_in a) id ≡ true → has_id l id ≡ true

module _ (l : List VarId) (s : Stmt) (h : (id : VarId) → has_id (ids_of s) id ≡ true → has_id l id ≡ true) where
  pub output_among : Among l (as_operand s.output)
  output_among id e = h id (has_left (ids_in (as_operand s.output)) _ id e)

  pub first_among : Among l s.first
  first_among id e = h id (has_right (ids_in (as_operand s.output)) _ id (has_left (ids_in s.first) _ id e))

  pub second_among : Among l s.second
  second_among id e = h id (has_right (ids_in (as_operand s.output)) _ id (has_right (ids_in s.first) _ id e))

pub no_bytes : (k : ℕ) → inside no_part k ≡ false
unfolding inside
no_bytes k = run_none 0 k

-- the row of an id is that of another exactly if they are the same
same_row : (l : List VarId) (a id : VarId) → has_id l a ≡ true → has_id l id ≡ true → eqb (row_of l id) (row_of l a) ≡ same_id a id
same_row l a id h k =
    ways (same_id a id)
    (λ t. rw (same_id_true a id t) (eq-eqb (row_of l id) (row_of l id) refl ∙ sym (same_id_refl id)))
    (λ t. ways (eqb (row_of l id) (row_of l a))
    (λ u. u ∙ sym (same_id_refl a) ∙ ap (λ (x : VarId). same_id a x) (row_apart l a id h k (sym (eqb-true _ _ u))))
    (λ u. u ∙ sym t))

module _ (l : List VarId) (id : VarId) (k : has_id l id ≡ true) where
  -- a part at the row of an id
  pub names_at : (a : Operand) → Among l a → (n : ℕ) → at (row_in l a) (part_of a) (row_of l id) n ≡ names a id n
  names_at None h n = rw (no_bytes n) (and_false (eqb (row_of l id) 0))
  names_at (Const v m) h n = rw (no_bytes n) (and_false (eqb (row_of l id) 0))
  names_at (Var v) h n = ap (λ (b : Bool). b && inside v n) (same_row l v.id id (h v.id (has_here v.id [] v.id (same_id_refl v.id))) k)

  pub names_id_at : (a : Operand) → Among l a → (is_var a && eqb (row_of l id) (row_in l a)) ≡ names_id a id
  names_id_at None h = refl
  names_id_at (Const v m) h = refl
  names_id_at (Var v) h = same_row l v.id id (h v.id (has_here v.id [] v.id (same_id_refl v.id))) k

-- a row is below 112
pub row_small : (l : List VarId) → length l ≤ 112 → (a : Operand) → Among l a → row_in l a < 112
row_small l h None k = omega arith
row_small l h (Const v n) k = omega arith
row_small l h (Var v) k = omega (arith, row_below l v.id (k v.id (has_here v.id [] v.id (same_id_refl v.id))))
