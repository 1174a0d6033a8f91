-- What a whole statement keeps: the state stays good, the lengths stay, and the counts grow by four at most. Assumes nothing.
use Rattle.std.proofs.Common.{ℕ, ◌+◌, ◌*◌, ◌≤◌, ◌≡◌, refl, sym, ◌∙◌, subst, List, arith, length, drop, length-append, length-drop}
use Rattle.pcode.specs.declared.var.VarNode.{VarNode}
use Rattle.pcode.specs.declared.var.Operand.{Operand}
use Rattle.pcode.specs.declared.var.Operand.TheVariants.{None, Const, Var}
use Rattle.pcode.specs.Var.{Output}
use Rattle.std.specs.declared.option.Option.TheVariants as Out
use Rattle.pcode.specs.declared.block.Stmt.{Stmt}
use Rattle.vars.specs.declared.Vars.{Vars}
use Rattle.bit_vec.specs.Lists.{codes}
use Rattle.bit_vec.specs.Moves.{digits}
use Rattle.const_eval.specs.Known.{Fit}
use Rattle.const_eval.specs.State.{State, first_use, cleared, Good, Able}
use Rattle.const_eval.proofs.Keeps.{Kept, same_kept, first_kept, cleared_kept, kept_fit, able_room}
use Rattle.settle.proofs.Settles.{settled_kept}
use Rattle.uses.specs.Operands.{place_of, operand_bits, used_by, const_row, InOperand}
use Rattle.uses.proofs.Replaced.{const_codes}
use Rattle.widen.specs.declared.turn.Turn.{Turn}
use Rattle.widen.specs.declared.turn.Turn.TheVariants.{Plain, Marker, Label, Jump, Exit, Hook}
use Rattle.simplify.specs.Simplify.{used_both, replaced_of, write_of, plain_of, hook_of, turned, simplify_of, InOutput, Apt}

-- a good state of the lengths before, whose counts grew by k at most
pub record Grown (k : ℕ) (before after : State) : Type 0 where
  pub good : Good after
  pub store_length : length after.store ≡ length before.store
  pub used_length : length after.used ≡ length before.used
  pub map_length : length after.map ≡ length before.map
  pub count : after.tally.count ≤ before.tally.count + k
  pub next : after.tally.next ≤ before.tally.next + k

pub kept_grown : (s t : State) → Kept s t → Grown 1 s t
kept_grown s t k =
    record { good = k.good; store_length = k.store_length; used_length = k.used_length; map_length = k.map_length; count = k.count; next = k.next }

pub grown_on : (j k : ℕ) (s t u : State) → Grown j s t → Grown k t u → Grown (j + k) s u
grown_on j k s t u a b =
    record {
      good = b.good;
      store_length = b.store_length ∙ a.store_length;
      used_length = b.used_length ∙ a.used_length;
      map_length = b.map_length ∙ a.map_length;
      count = omega (arith, a.count, b.count);
      next = omega (arith, a.next, b.next);
    }

pub grown_more : (j k : ℕ) (s t : State) → j ≤ k → Grown j s t → Grown k s t
grown_more j k s t h a =
    record {
      good = a.good;
      store_length = a.store_length;
      used_length = a.used_length;
      map_length = a.map_length;
      count = omega (arith, a.count, h);
      next = omega (arith, a.next, h);
    }

-- what there is room for, less what was taken
pub able_grown : (j k : ℕ) (s t : State) → Able (j + k) s → Grown j s t → Able k t
able_grown j k s t a g =
    record {
      good = g.good;
      room = omega (arith, a.room, g.count, g.map_length);
      ids = omega (arith, a.ids, g.next);
      rows = omega (arith, a.rows, g.used_length);
    }

pub able_le : (j k : ℕ) (s : State) → j ≤ k → Able k s → Able j s
able_le j k s h a = record { good = a.good; room = omega (arith, a.room, h); ids = omega (arith, a.ids, h); rows = a.rows }

-- an operand's use
pub used_grown : (vars : Vars) (a : Operand) (s : State) → Able 1 s → InOperand (length s.used) vars a → Grown 1 s (used_by vars a s)
used_grown vars None s h i = kept_grown s s (same_kept s h.good)
used_grown vars (Const v n) s h i = kept_grown s s (same_kept s h.good)
used_grown vars (Var v) s h i = kept_grown s (first_use (place_of vars v) s) (first_kept (place_of vars v) s (able_room (place_of vars v) s h i))

-- an operand or output that stands in the store does so in one with as many rows
pub operand_rows : (vars : Vars) (a : Operand) (m n : ℕ) → n ≡ m → InOperand m vars a → InOperand n vars a
operand_rows vars a m n e i = subst (λ (k : ℕ). InOperand k vars a) (sym e) i

pub output_rows : (vars : Vars) (o : Output) (m n : ℕ) → n ≡ m → InOutput m vars o → InOutput n vars o
output_rows vars o m n e i = subst (λ (k : ℕ). InOutput k vars o) (sym e) i

-- after the first operand's use the second's is ready
pub second_ready : (vars : Vars) (st : Stmt) (s t : State) → Apt vars st s → t ≡ used_by vars st.first s → Able 1 t × InOperand (length t.used) vars st.second
second_ready vars st s t a e =
    let g = subst (λ (z : State). Grown 1 s z) (sym e) (used_grown vars st.first s (able_le 1 4 s (omega arith) a.able) a.first) in
    (able_le 1 3 t (omega arith) (able_grown 1 3 s t a.able g), operand_rows vars st.second (length s.used) (length t.used) g.used_length a.second)

-- both operands' uses
pub both_grown : (vars : Vars) (st : Stmt) (s : State) → Apt vars st s → Grown 2 s (used_both vars st s)
both_grown vars st s a =
    let t = used_by vars st.first s in
    let r = second_ready vars st s t a refl in
    grown_on 1 1 s t (used_both vars st s) (used_grown vars st.first s (able_le 1 4 s (omega arith) a.able) a.first) (used_grown vars st.second t r.0 r.1)

pub both_ready : (vars : Vars) (st : Stmt) (s u : State) (r : Stmt) → Apt vars st s → u ≡ used_both vars st s → r.output ≡ st.output
    → Able 2 u × InOutput (length u.used) vars r.output
both_ready vars st s u r a e q =
    let g = subst (λ (z : State). Grown 2 s z) (sym e) (both_grown vars st s a) in
    (able_grown 2 2 s u a.able g, subst (λ (o : Output). InOutput (length u.used) vars o) (sym q) (output_rows vars st.output (length s.used) (length u.used) g.used_length a.output))

-- clearing leaves room
pub cleared_able : (k : ℕ) (s : State) → Able k s → Able k (cleared s)
cleared_able k s a =
    let h = cleared_kept s a.good in
    record { good = h.good; room = omega (arith, a.room, h.map_length); ids = a.ids; rows = omega (arith, a.rows, h.used_length) }

-- an output's value
pub write_grown : (vars : Vars) (xa xb : List ℕ → List ℕ) (o : VarNode) (st : Stmt) (s : State) → Able 2 s → Fit (length s.used) (place_of vars o)
    → Grown 2 s (write_of vars xa xb o st s).state
write_grown vars xa xb o st s a f =
    let p = place_of vars o in
    let t = first_use p s in
    let k = first_kept p s (able_room p s (able_le 1 2 s (omega arith) a) f) in
    let b = able_grown 1 1 s t a (kept_grown s t k) in
    grown_on 1 1 s t _ (kept_grown s t k) (kept_grown t _ (settled_kept st.op p (xa t.store) (xb t.store) t b (kept_fit p s t k f)))

pub plain_grown : (vars : Vars) (xa xb : List ℕ → List ℕ) (o : Output) (st : Stmt) (s : State) → Able 2 s → InOutput (length s.used) vars o
    → Grown 2 s (plain_of vars xa xb o st s).state
plain_grown vars xa xb Out.None st s a i = grown_more 1 2 s s (omega arith) (kept_grown s s (same_kept s a.good))
plain_grown vars xa xb (Out.Some o) st s a i = write_grown vars xa xb o st s a i

pub hook_grown : (vars : Vars) (o : Output) (st : Stmt) (s : State) → Able 2 s → InOutput (length s.used) vars o → Grown 2 s (hook_of vars o st s).state
hook_grown vars Out.None st s a i = grown_more 1 2 s (cleared s) (omega arith) (kept_grown s (cleared s) (cleared_kept s a.good))
hook_grown vars (Out.Some o) st s a i =
    let p = place_of vars o in
    let k = cleared_kept s a.good in
    let b = able_le 1 2 (cleared s) (omega arith) (cleared_able 2 s a) in
    grown_on 1 1 s (cleared s) (first_use p (cleared s)) (kept_grown s (cleared s) k)
    (kept_grown (cleared s) (first_use p (cleared s)) (first_kept p (cleared s) (able_room p (cleared s) b (kept_fit p s (cleared s) k i))))

pub turned_grown : (vars : Vars) (xa xb : List ℕ → List ℕ) (t : Turn) (st : Stmt) (s : State) → Able 2 s → InOutput (length s.used) vars st.output
    → Grown 2 s (turned vars xa xb t st s).state
turned_grown vars xa xb Plain st s a i = plain_grown vars xa xb st.output st s a i
turned_grown vars xa xb Marker st s a i = plain_grown vars xa xb st.output st s a i
turned_grown vars xa xb (Label l) st s a i = plain_grown vars xa xb st.output st s a i
turned_grown vars xa xb (Jump l) st s a i = grown_more 1 2 s s (omega arith) (kept_grown s s (same_kept s a.good))
turned_grown vars xa xb Exit st s a i = grown_more 1 2 s s (omega arith) (kept_grown s s (same_kept s a.good))
turned_grown vars xa xb Hook st s a i = hook_grown vars st.output st s a i

-- a statement takes four at most
pub simplify_grown : (vars : Vars) (t : Turn) (st : Stmt) (s : State) → Apt vars st s → Grown 4 s (simplify_of vars t st s).state
simplify_grown vars t st s a =
    let u = used_both vars st s in
    let r = both_ready vars st s u (replaced_of vars st s) a refl refl in
    grown_on 2 2 s u _ (both_grown vars st s a) (turned_grown vars (operand_bits vars st.first) (operand_bits vars st.second) t (replaced_of vars st s) u r.0 r.1)

-- the row that holds a constant keeps its length
pub row_length : (rows : ℕ) (vars : Vars) (a : Operand) (row : List ℕ) → InOperand rows vars a → length row ≡ 128 → length (const_row a row) ≡ 128
row_length rows vars None row i h = h
row_length rows vars (Const v n) row i h =
    length-append (codes (digits (8 * n) v)) (drop (8 * n) row)
    ∙ (let p = const_codes (8 * n) v in
    let q = length-drop (8 * n) row in
    omega (arith, p, q, h, i))
row_length rows vars (Var v) row i h = h
