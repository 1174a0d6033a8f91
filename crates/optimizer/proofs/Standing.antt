-- What the first pass's checks accept stands in its store.
use Prim.Native.Nat.{◌≤◌, ◌<◌}
use native.Mathlib.Omega.{arith}
use mathlib.Core.Path.{◌≡◌, sym, ◌∙◌, ap, subst}
use mathlib.Core.Bool.{true}
use mathlib.Core.List.{List, []}
use lib.ListN.{length, take, drop, get_or, length-append, length-drop}
use lib.Seq.{take-append_seam}
use Rattle.pcode.specs.Var.{as_operand}
use Rattle.pcode.specs.Block.{held, has_id, blank_stmt, first_limits}
use Rattle.pcode.specs.declared.var.VarId.{VarId}
use Rattle.pcode.specs.declared.var.Operand.{Operand}
use Rattle.pcode.specs.declared.var.Operand.TheVariants.{None, Const, Var}
use Rattle.pcode.specs.Var.{Output}
use Rattle.std.specs.declared.option.Option.TheVariants as Out
use Rattle.pcode.specs.declared.block.Stmt.{Stmt}
use Rattle.pcode.specs.declared.block.Block.{Block}
use Rattle.pcode.proofs.Ids.{same_id_refl}
use Rattle.vars.specs.Vars.{ids_in, ids_of, row_of, held_ids, vars_of, too_many, table_of, named_of, cap_of, no_ids}
use Rattle.vars.specs.declared.Vars.{Vars}
use Rattle.vars.proofs.Rows.{row_below, named_has, has_here}
use Rattle.vars.proofs.Joining.{named_held, no_ids_length}
use Rattle.std.proofs.Common.{Ok}
use Rattle.checks.specs.Statements.{good_operand, good_parts}
use Rattle.checks.specs.Checks.{check_of}
use Rattle.checks.proofs.Passing.{Good, Passing, passing}
use Rattle.checks.proofs.Parts.{chosen, size_in, node_in, has_left, has_right}
use Rattle.uses.specs.Operands.{InOperand}
use Rattle.simplify.specs.Simplify.{InOutput}
use Rattle.const_prop.specs.Pass.{InStore, Stands}

-- an operand whose ids the table holds
operand_in : (vars : Vars) (a : Operand) → length (held_ids vars) ≤ 48 → good_operand a ≡ true → ((id : VarId) → has_id (ids_in a) id ≡ true → has_id (held_ids vars) id ≡ true)
    → InOperand 48 vars a
operand_in vars None h e n = tt
operand_in vars (Const v k) h e n = size_in k e
operand_in vars (Var v) h e n =
    let r : row_of (held_ids vars) v.id < length (held_ids vars) = row_below (held_ids vars) v.id (n v.id (has_here v.id [] v.id (same_id_refl v.id))) in
    record { row_in = omega (arith, r, h); inside = node_in v e }

output_in : (vars : Vars) (o : Output) → InOperand 48 vars (as_operand o) → InOutput 48 vars o
output_in vars Out.None i = tt
output_in vars (Out.Some v) i = i

-- a good statement whose ids the table holds
in_store : (vars : Vars) (s : Stmt) → length (held_ids vars) ≤ 48 → Good s → ((id : VarId) → has_id (ids_of s) id ≡ true → has_id (held_ids vars) id ≡ true) → InStore vars s
unfolding good_parts
in_store vars s h g n =
    let o = as_operand s.output in
    let p = chosen (good_operand o) _ g.parts in
    let q = chosen (good_operand s.first) (good_operand s.second) p.1 in
    record {
      first = operand_in vars s.first h q.0 (λ id e. n id (has_right (ids_in o) _ id (has_left (ids_in s.first) _ id e)));
      second = operand_in vars s.second h q.1 (λ id e. n id (has_right (ids_in o) _ id (has_right (ids_in s.first) _ id e)));
      output = output_in vars s.output (operand_in vars o h p.0 (λ id e. n id (has_left (ids_in o) _ id e)));
    }

-- the table of a block's variables has 112 places
table_length : (l : List VarId) → length l ≤ 112 → length (table_of l).ids ≡ 112
table_length l h = length-append l (drop (length l) no_ids) ∙ (let q = length-drop (length l) no_ids in omega (arith, q, no_ids_length, h))

-- a checked block stands in the store
pub standing : (b : Block) (ss : List Stmt) (vars : Vars) → ss ≡ held b → check_of first_limits b ≡ Ok tt → vars ≡ (named_of (cap_of 48) ss).vars → Stands ss vars
standing b ss vars i e r =
    let q : vars ≡ (named_of (cap_of 48) (held b)).vars = r ∙ ap (λ (l : List Stmt). (named_of (cap_of 48) l).vars) i in
    let f = passing first_limits b e in
    let held-is : held_ids vars ≡ vars_of (held b) = ap held_ids q ∙ named_held 48 (held b) f.vars in
    let n : length (held_ids vars) ≤ 48 = subst (λ (k : List VarId). length k ≤ 48) (sym held-is) f.vars in
    subst (λ (l : List Stmt). Stands l vars) (sym i)
    record {
      few = f.short;
      table = ap (λ (z : Vars). length z.ids) q ∙ table_length (vars_of (take (too_many 48 (held b)) (held b))) (short b f);
      parts = λ i h.
          in_store vars (get_or (held b) i blank_stmt) n (f.each i h) (λ id k. subst (λ (z : List VarId). has_id z id ≡ true) (sym held-is) (named_has (held b) i blank_stmt id h k));
    }
  where
    short : (b : Block) → Passing first_limits b → length (vars_of (take (too_many 48 (held b)) (held b))) ≤ 112
    short b f =
        let l = vars_of (take (too_many 48 (held b)) (held b)) in
        let q : l ≡ vars_of (held b) = sym (take-append_seam l (drop (length l) no_ids)) ∙ named_held 48 (held b) f.vars in
        let z : length l ≡ length (vars_of (held b)) = ap length q in
        omega (arith, z, f.vars)
