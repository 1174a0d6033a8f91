-- A checked block may be run: each statement meets what its step asks, at every state.
use Rattle.std.proofs.Common.{ℕ, ◌*◌, ◌≤◌, ◌≡◌, refl, ap, subst, Bool, true, false, ◌||◌, List, length, get_or, Ok}
use Rattle.pcode.specs.Var.{size_of, size_out, as_operand}
use Rattle.pcode.specs.Rules.{meets, output_need, first_need}
use Rattle.pcode.specs.Block.{held, has_id, blank_stmt, second_limits}
use Rattle.pcode.specs.declared.var.VarId.{VarId}
use Rattle.pcode.specs.declared.var.Operand.{Operand}
use Rattle.pcode.specs.declared.var.Operand.TheVariants.{None, Const, Var}
use Rattle.pcode.specs.Var.{Output}
use Rattle.std.specs.declared.option.Option.TheVariants as Out
use Rattle.pcode.specs.declared.block.Stmt.{Stmt}
use Rattle.pcode.specs.declared.block.Block.{Block}
use Rattle.pcode.proofs.Ids.{same_id_refl}
use Rattle.vars.specs.Vars.{ids_in, ids_of, vars_of}
use Rattle.vars.proofs.Rows.{named_has}
use Rattle.checks.specs.Statements.{good_operand, there, good_parts, met_needs, good_sizes}
use Rattle.checks.specs.Checks.{check_of}
use Rattle.checks.proofs.Passing.{Good, passing}
use Rattle.checks.proofs.Parts.{chosen, size_in, node_in, has_left, has_right}
use Rattle.concrete.specs.Fits.{Applies}
use Rattle.machine.specs.Values.{Bytes, value_in, HeldOperand, HeldOutput, ReadyOut}
use Rattle.machine.proofs.Checked.{Passed, applies, value_below}
use Rattle.run.specs.Run.{Runnable}

-- the size of an output is its operand's
out_size : (o : Output) → size_of (as_operand o) ≡ size_out o
out_size Out.None = refl
out_size (Out.Some v) = refl

-- an operand in range whose ids a table has is held
held_operand : (ids : List VarId) → length ids ≤ 112 → (a : Operand) → ((id : VarId) → has_id (ids_in a) id ≡ true → has_id ids id ≡ true) → good_operand a ≡ true → HeldOperand ids a
unfolding has_id
held_operand ids m None h g = tt
held_operand ids m (Const v n) h g = size_in n g
held_operand ids m (Var v) h g = record { named = h v.id (ap (λ (t : Bool). t || false) (same_id_refl v.id)); room = m; inside = node_in v g }

held_output : (ids : List VarId) (o : Output) → HeldOperand ids (as_operand o) → HeldOutput ids o
held_output ids Out.None h = tt
held_output ids (Out.Some v) h = h

-- a good statement whose ids a table has may be run at every state
pub ready : (ids : List VarId) → length ids ≤ 112 → (s : Stmt) → ((id : VarId) → has_id (ids_of s) id ≡ true → has_id ids id ≡ true) → Good s → (rows : List (List ℕ)) → Bytes rows → ReadyOut ids rows s
unfolding good_parts met_needs good_sizes
ready ids m s h g rows b =
    let o = as_operand s.output in
    let p = chosen (good_operand o) _ g.parts in
    let q = chosen (good_operand s.first) _ p.1 in
    let x = chosen (meets (output_need s.op) (there o)) _ g.needs in
    let y = chosen (meets (first_need s.op) (there s.first)) _ x.1 in
    let passed : Passed s.op o s.first s.second =
    record { output = p.0; first = q.0; second = q.1; first_need_lem = y.0; second_need_lem = y.1; sizes = rw (out_size s.output) g.sizes } in
    record {
      operands =
          record {
            first = held_operand ids m s.first (λ id e. h id (has_right (ids_in o) _ id (has_left (ids_in s.first) _ id e))) q.0;
            second = held_operand ids m s.second (λ id e. h id (has_right (ids_in o) _ id (has_right (ids_in s.first) _ id e))) q.1;
            applies =
                subst (λ (n : ℕ). Applies s.op (8 * size_of s.first) (8 * n) (value_in ids rows s.first) (value_in ids rows s.second)) (out_size s.output)
                (applies s.op o s.first s.second _ _ passed (value_below ids rows b s.first) (value_below ids rows b s.second));
          };
      output = held_output ids s.output (held_operand ids m o (λ id e. h id (has_left (ids_in o) _ id e)) p.0);
    }

-- so a block that passes the checks may be run
pub runnable : (b : Block) → check_of second_limits b ≡ Ok tt → Runnable (vars_of (held b)) (held b)
runnable b e i h rows w =
    let p = passing second_limits b e in
    ready (vars_of (held b)) p.vars (get_or (held b) i blank_stmt) (λ id k. named_has (held b) i blank_stmt id h k) (p.each i h) rows w
