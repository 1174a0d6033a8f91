-- What a statement other than a label comes to: dropped, a skip, a copy of a value of the output's size, or itself with operands replaced.
use Rattle.std.proofs.Common.{Option, None as Nothing, Some, Result, Ok, Err, ℕ, zero, suc, ◌*◌, ◌≡◌, refl, sym, ◌∙◌, ap, subst, Bool, true, false, List, arith, length}
use Rattle.pcode.specs.Var.{pick, size_of, as_operand}
use Rattle.pcode.specs.Rules.{side_effects}
use Rattle.pcode.specs.Block.{has_id}
use Rattle.pcode.specs.declared.var.VarId.{VarId}
use Rattle.pcode.specs.declared.var.VarNode.{VarNode}
use Rattle.pcode.specs.declared.var.PcodeLabel.{PcodeLabel}
use Rattle.pcode.specs.declared.var.Operand.{Operand}
use Rattle.pcode.specs.Var.{Output}
use Rattle.std.specs.declared.option.Option.TheVariants as Out
use Rattle.pcode.specs.declared.op.CallOp.{CallOp}
use Rattle.pcode.specs.declared.op.CallOp.TheVariants as Calls
use Rattle.pcode.specs.declared.op.Op.{Op}
use Rattle.pcode.specs.declared.op.Op.TheVariants as Ops
use Rattle.pcode.specs.declared.block.Stmt.{Stmt}
use Rattle.vars.specs.Vars.{held_ids}
use Rattle.vars.specs.declared.Vars.{Vars}
use Rattle.checks.specs.Statements.{good_node, good_operand, there}
use Rattle.checks.specs.Labels.{is_label}
use Rattle.bit_vec.specs.Lists.{bits}
use Rattle.bit_vec.specs.Known.{const_of}
use Rattle.eval.specs.Held.{coded}
use Rattle.eval.specs.Eval as Eval
use Rattle.eval.specs.declared.EvalError.{EvalError}
use Rattle.const_eval.specs.declared.place.Place.{Place}
use Rattle.const_eval.specs.Known.{part_of, same_codes, Within}
use Rattle.const_eval.specs.State.{State, first_use}
use Rattle.const_eval.proofs.Codes.{same_sound}
use Rattle.settle.specs.declared.Outcome.{Outcome}
use Rattle.settle.specs.Settle.{named, source_of, decide_by, decide_of, settled_by, settled_of}
use Rattle.settle.proofs.Settles.{value_length}
use Rattle.uses.specs.Operands.{place_of, operand_bits}
use Rattle.widen.specs.Turn.{turn_of, turn_call}
use Rattle.widen.specs.Simple.{jump_of, exit_of}
use Rattle.widen.specs.declared.turn.Turn.{Turn}
use Rattle.widen.specs.declared.turn.Turn.TheVariants.{Plain, Marker, Label, Jump, Exit, Hook}
use Rattle.widen.specs.declared.simple.Simple.{Simple}
use Rattle.widen.specs.declared.simple.Simple.TheVariants.{Dropped, Skips, Copies, Stays}
use Rattle.simplify.specs.Simplify.{used_both, replaced_of, simple_by, write_of, plain_of, hook_of, simplify_of}
use Rattle.first_checked.proofs.Held.{Sure, sure_within, first_sure, both_sure}
use Rattle.first_checked.proofs.Fine.{In, NoZero, Fine, Like, good_size_lem, node_parts, sized_there, parts_of, output_in, fine_sits, bits_length, replaced_fine, first_like, second_like}

-- an operation is no label
abbrev pub NotLabel : Op → Type 0
NotLabel op = (l : PcodeLabel) → is_label op l ≡ false

-- what the rule of an operation says of it
abbrev pub Says : Turn → Op → Type 0
Says Plain op = NotLabel op
Says Marker op = NotLabel op
Says (Label l) op = op ≡ Ops.PcodeLabel l
Says (Jump l) op = op ≡ Ops.PcodeBranch l
Says Exit op = NotLabel op
Says Hook op = NotLabel op

call_says : (k : CallOp) (n : ℕ) → Says (turn_call k) (Ops.Call k n)
call_says Calls.Arg n = λ l. refl
call_says Calls.PcodeOp n = λ l. refl
call_says Calls.Hook n = λ l. refl
call_says Calls.HookIf n = λ l. refl
call_says Calls.TracerLoad n = λ l. refl
call_says Calls.TracerStore n = λ l. refl

pub turn_says : (op : Op) → Says (turn_of op) op
turn_says (Ops.Trap t) = λ l. refl
turn_says Ops.InstructionMarker = λ l. refl
turn_says (Ops.PcodeLabel l) = refl
turn_says (Ops.PcodeBranch l) = refl
turn_says (Ops.Branch n) = λ l. refl
turn_says (Ops.Load n) = λ l. refl
turn_says (Ops.Store n) = λ l. refl
turn_says (Ops.Call k n) = call_says k n
turn_says (Ops.Select n) = λ l. refl
turn_says (Ops.Subpiece n) = λ l. refl
turn_says (Ops.Opaque k) = λ l. refl
turn_says (Ops.Float k) = λ l. refl
turn_says (Ops.One k) = λ l. refl
turn_says (Ops.Two k) = λ l. refl
turn_says (Ops.Divide k) = λ l. refl
turn_says (Ops.Shift k) = λ l. refl
turn_says (Ops.Rotate k) = λ l. refl
turn_says (Ops.Compare k) = λ l. refl
turn_says (Ops.Bool k) = λ l. refl

pub jump_no_label : (op : Op) (t : PcodeLabel) → op ≡ Ops.PcodeBranch t → NotLabel op
jump_no_label op t e l = ap (λ (x : Op). is_label x l) e

-- a copy of a value of the output's size
pub record CopyOf (ids : List VarId) (o : VarNode) (a : Operand) : Type 0 where
  pub output : good_node o ≡ true
  pub output_in : has_id ids o.id ≡ true
  pub good : good_operand a ≡ true
  pub value_in : In ids a
  pub present : there a ≡ true
  pub size : size_of a ≡ o.size

abbrev pub ComesTo : List VarId → Stmt → Result Simple EvalError → Type 0
ComesTo ids st (Ok Dropped) = Unit {0}
ComesTo ids st (Ok (Skips l)) = st.op ≡ Ops.PcodeBranch l
ComesTo ids st (Ok (Copies o a)) = CopyOf ids o a
ComesTo ids st (Ok (Stays s)) = (s.op ≡ st.op) × Fine ids s
ComesTo ids st (Err e) = Unit {0}

-- an operand that is copied is as long as the output
abbrev Sized : ℕ → ℕ → ℕ → Result Outcome EvalError → Type 0
Sized a b n (Ok Outcome.Stays) = Unit {0}
Sized a b n (Ok Outcome.Unchanged) = Unit {0}
Sized a b n (Ok (Outcome.Constantly k)) = Unit {0}
Sized a b n (Ok Outcome.First) = a ≡ n
Sized a b n (Ok Outcome.Second) = b ≡ n
Sized a b n (Err e) = Unit {0}

source_sized : (v xa xb : List ℕ) → Sized (length xa) (length xb) (length v) (Ok (source_of v xa xb))
source_sized v xa xb = go (same_codes xa v) (same_codes xb v) refl refl
  where
    go : (t u : Bool) → same_codes xa v ≡ t → same_codes xb v ≡ u → Sized (length xa) (length xb) (length v) (Ok (pick t Outcome.First (pick u Outcome.Second Outcome.Stays)))
    go true u p q = ap length (same_sound xa v p)
    go false true p q = ap length (same_sound xb v q)
    go false false p q = tt

decide_sized : (old v xa xb : List ℕ) → Sized (length xa) (length xb) (length v) (Ok (decide_of old v xa xb))
decide_sized old v xa xb = go (same_codes old v) (const_of (bits v))
  where
    go : (t : Bool) (c : Option ℕ) → Sized (length xa) (length xb) (length v) (Ok (pick t Outcome.Unchanged (decide_by c (source_of v xa xb))))
    go true c = tt
    go false (Some k) = tt
    go false Nothing = source_sized v xa xb

settled_sized : (op : Op) (p : Place) (xa xb : List ℕ) (s : State) → Within (length s.store) p → Sized (length xa) (length xb) (8 * p.size) (settled_of op p xa xb s).outcome
settled_sized op p xa xb s w = go (Eval.outcome_of coded op xa xb (part_of p s.store)).answer
  where
    cells : List ℕ
    cells = (Eval.outcome_of coded op xa xb (part_of p s.store)).cells

    v : List ℕ
    v = named s.tally.next cells

    go : (e : Result (Unit {0}) EvalError) → Sized (length xa) (length xb) (8 * p.size) (settled_by e cells p xa xb s).outcome
    go (Ok u) =
        subst (λ (n : ℕ). Sized (length xa) (length xb) n (Ok (decide_of (part_of p s.store) v xa xb))) (value_length op p xa xb s.store s.tally.next w)
        (decide_sized (part_of p s.store) v xa xb)
    go (Err x) = tt

module _ (vars : Vars) (no_zero : NoZero (held_ids vars)) (k : ℕ) (st : Stmt) (s : State) (h : Sure (length (held_ids vars)) (suc (suc (suc k))) s) (f : Fine (held_ids vars) st) where
  abbrev ids : List VarId
  ids = held_ids vars

  abbrev N : ℕ
  N = length (held_ids vars)

  abbrev r : Stmt
  r = replaced_of vars st s

  abbrev u : State
  u = used_both vars st s

  stays : ComesTo ids st (Ok (Stays r))
  stays = (refl, replaced_fine vars no_zero (suc k) st s h f)

  u_sure : Sure N (suc k) u
  u_sure = both_sure N vars (suc k) st s h (fine_sits vars no_zero st f)

  module _ (o : VarNode) (e : st.output ≡ Out.Some o) where
    o_good : good_node o ≡ true
    o_good = ap (λ (x : Output). good_operand (as_operand x)) (sym e) ∙ (parts_of st f.good).output

    o_in : has_id ids o.id ≡ true
    o_in = subst (λ (x : Output). In ids (as_operand x)) e f.output

    same_size : (a b : Operand) → Like ids a b → 8 * size_of a ≡ 8 * o.size → CopyOf ids o b
    same_size a b l q =
        let z = l.size in
        let m : size_of b ≡ o.size = omega (arith, z, q) in
        let g = good_size_lem o.size (node_parts o o_good).size in
        record { output = o_good; output_in = o_in; good = l.good; value_in = l.named; present = sized_there b (omega (arith, m, g.0)); size = m }

    simple_comes : (d : Result Outcome EvalError) (t : Bool) → Sized (8 * size_of st.first) (8 * size_of st.second) (8 * o.size) d → ComesTo ids st (simple_by d t o r)
    simple_comes (Err e) t z = tt
    simple_comes (Ok Outcome.Stays) t z = stays
    simple_comes (Ok Outcome.Unchanged) true z = stays
    simple_comes (Ok Outcome.Unchanged) false z = tt
    simple_comes (Ok (Outcome.Constantly c)) true z = stays
    simple_comes (Ok (Outcome.Constantly c)) false z = record { output = o_good; output_in = o_in; good = (node_parts o o_good).size; value_in = tt; present = refl; size = refl }
    simple_comes (Ok Outcome.First) true z = stays
    simple_comes (Ok Outcome.First) false z = same_size st.first r.first (first_like vars no_zero (suc k) st s h f) z
    simple_comes (Ok Outcome.Second) true z = stays
    simple_comes (Ok Outcome.Second) false z = same_size st.second r.second (second_like vars no_zero (suc k) st s h f) z

    write_comes : ComesTo ids st (write_of vars (operand_bits vars st.first) (operand_bits vars st.second) o r u).simple
    write_comes =
        let i = output_in vars no_zero (Out.Some o) o_good o_in in
        let p = place_of vars o in
        let t = first_use p u in
        let g = first_sure N k p u u_sure i in
        let q = fine_sits vars no_zero st f in
        let xa = operand_bits vars st.first t.store in
        let xb = operand_bits vars st.second t.store in
        simple_comes (settled_of st.op p xa xb t).outcome (side_effects st.op)
        (subst (λ (n : ℕ). Sized n (8 * size_of st.second) (8 * o.size) (settled_of st.op p xa xb t).outcome) (bits_length vars no_zero k st.first t g q.first)
        (subst (λ (n : ℕ). Sized (length xa) n (8 * o.size) (settled_of st.op p xa xb t).outcome) (bits_length vars no_zero k st.second t g q.second)
        (settled_sized st.op p xa xb t (sure_within N k p t g i))))

  plain_comes : (o : Output) → st.output ≡ o → ComesTo ids st (plain_of vars (operand_bits vars st.first) (operand_bits vars st.second) o r u).simple
  plain_comes Out.None e = stays
  plain_comes (Out.Some o) e = write_comes o e

  jump_comes : (c : Option ℕ) (l : PcodeLabel) → st.op ≡ Ops.PcodeBranch l → ComesTo ids st (Ok (jump_of c l r))
  jump_comes (Some zero) l e = tt
  jump_comes (Some (suc zero)) l e = e
  jump_comes (Some (suc (suc c))) l e = stays
  jump_comes Nothing l e = stays

  exit_comes : (c : Option ℕ) → ComesTo ids st (Ok (exit_of c r))
  exit_comes (Some zero) = tt
  exit_comes (Some (suc c)) = stays
  exit_comes Nothing = stays

  hook_comes : (o : Output) → ComesTo ids st (hook_of vars o r u).simple
  hook_comes Out.None = stays
  hook_comes (Out.Some o) = stays

  pub simplify_comes : (t : Turn) → Says t st.op → ComesTo ids st (simplify_of vars t st s).simple
  simplify_comes Plain y = plain_comes st.output refl
  simplify_comes Marker y = plain_comes st.output refl
  simplify_comes (Label l) y = plain_comes st.output refl
  simplify_comes (Jump l) y = jump_comes (const_of (bits (operand_bits vars st.first u.store))) l y
  simplify_comes Exit y = exit_comes (const_of (bits (operand_bits vars st.first u.store)))
  simplify_comes Hook y = hook_comes st.output
