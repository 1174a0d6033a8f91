-- Throughout the walk every entry of the value map names a row of the table.
use Rattle.std.proofs.Common.{Option, None as Nothing, Some, Result, Ok, Err, ℕ, suc, ◌+◌, ◌*◌, ◌≤◌, ◌≡◌, refl, sym, subst, Bool, true, false, List, arith, eqb, length, get_or}
use Rattle.pcode.specs.Var.{pick}
use Rattle.pcode.specs.declared.op.Op.{Op}
use Rattle.pcode.specs.declared.var.Operand.{Operand}
use Rattle.pcode.specs.declared.var.Operand.TheVariants.{None, Const, Var}
use Rattle.pcode.specs.Var.{Output}
use Rattle.std.specs.declared.option.Option.TheVariants as Out
use Rattle.pcode.specs.declared.block.Stmt.{Stmt}
use Rattle.vars.specs.declared.Vars.{Vars}
use Rattle.eval.specs.Held.{coded}
use Rattle.eval.specs.Eval as Eval
use Rattle.eval.specs.declared.EvalError.{EvalError}
use Rattle.const_eval.specs.declared.place.Place.{Place}
use Rattle.const_eval.specs.Known.{part_of, Fit, Within}
use Rattle.const_eval.specs.Map.{Entry, Inside}
use Rattle.const_eval.specs.State.{State, entries_of, map_gives, entered, freshened, first_use, noted_by, noted, forgotten, cleared, Room, Able}
use Rattle.const_eval.proofs.Parts.{part_length, fit_within}
use Rattle.const_eval.proofs.Entered.{entered_first}
use Rattle.const_eval.proofs.Looks.{inside_short}
use Rattle.const_eval.proofs.Keeps.{Kept, good_within, first_kept, forgotten_kept, cleared_kept}
use Rattle.settle.specs.Settle.{named, written, settled_by, settled_of}
use Rattle.settle.proofs.Settles.{value_length, written_room, settled_kept}
use Rattle.uses.specs.Operands.{place_of, operand_bits, used_by, InOperand}
use Rattle.widen.specs.declared.turn.Turn.{Turn}
use Rattle.widen.specs.declared.turn.Turn.TheVariants.{Plain, Marker, Label, Jump, Exit, Hook}
use Rattle.simplify.specs.Simplify.{used_both, replaced_of, plain_of, hook_of, turned, simplify_of, InOutput}

module _ (n : ℕ) where
  -- every entry names one of the first n rows
  abbrev pub RowsIn : State → Type 0
  RowsIn s = Inside (128 * n) (entries_of s)

  in_rows : (p : Place) → Fit n p → Within (128 * n) p
  in_rows p f = fit_within n (128 * n) p refl f

  entered_rows : (p : Place) (s : State) → length (part_of p s.store) ≡ 8 * p.size → 131 * s.tally.count + 131 ≤ length s.map → Fit n p → RowsIn s → RowsIn (entered p s)
  entered_rows p s l m f h =
      subst (λ (es : List Entry). Inside (128 * n) es)
      (sym (entered_first s.map s.tally.count p (part_of p s.store) m (sym l) (inside_short (128 * n) (entries_of s) h)))
      (in_rows p f, h)

  first_rows : (p : Place) (s : State) → Room p s → Fit n p → RowsIn s → RowsIn (first_use p s)
  first_rows p s r f h = go (eqb (get_or s.used p.row 0) 0) (first_kept p s r)
    where
      go : (t : Bool) → Kept s (pick t (entered p (freshened p.row s)) s) → RowsIn (pick t (entered p (freshened p.row s)) s)
      go true k =
          let w = subst (λ (z : ℕ). Within z p) (sym k.store_length) (good_within p s r.good r.part_in) in
          entered_rows p (freshened p.row s) (part_length p (freshened p.row s).store w) r.more f h
      go false k = h

  noted_rows : (p : Place) (s : State) → Room p s → Fit n p → RowsIn s → RowsIn (noted p s)
  noted_rows p s r f h = go (map_gives (part_of p s.store) s)
    where
      go : (x : Option Place) → RowsIn (noted_by x p s)
      go Nothing = entered_rows p s (part_length p s.store (good_within p s r.good r.part_in)) r.more f h
      go (Some q) = h

  -- there is room for k more entries, the first n rows are in the store, and every entry names one of them
  pub record Sure (k : ℕ) (s : State) : Type 0 where
    pub able : Able k s
    pub wide : n ≤ length s.used
    pub rows : RowsIn s

  pub sure_fit : (k : ℕ) (p : Place) (s : State) → Sure k s → Fit n p → Fit (length s.used) p
  sure_fit k p s h f = record { row_in = omega (arith, f.row_in, h.wide); inside = f.inside }

  pub sure_within : (k : ℕ) (p : Place) (s : State) → Sure k s → Fit n p → Within (length s.store) p
  sure_within k p s h f = good_within p s h.able.good (sure_fit k p s h f)

  pub sure_less : (j k : ℕ) (s : State) → j ≤ k → Sure k s → Sure j s
  sure_less j k s l h =
      record {
        able = record { good = h.able.good; room = omega (arith, h.able.room, l); ids = omega (arith, h.able.ids, l); rows = h.able.rows };
        wide = h.wide;
        rows = h.rows;
      }

  sure_room : (k : ℕ) (p : Place) (s : State) → Sure (suc k) s → Fit n p → Room p s
  sure_room k p s h f = record { good = h.able.good; part_in = sure_fit (suc k) p s h f; more = omega (arith, h.able.room); ids = omega (arith, h.able.ids) }

  one_able : (k : ℕ) (s : State) → Sure (suc k) s → Able 1 s
  one_able k s h = (sure_less 1 (suc k) s (omega arith) h).able

  sure_next : (k : ℕ) (s t : State) → Sure (suc k) s → Kept s t → RowsIn t → Sure k t
  sure_next k s t h g r =
      record {
        able =
            record {
              good = g.good;
              room = omega (arith, h.able.room, g.count, g.map_length);
              ids = omega (arith, h.able.ids, g.next);
              rows = omega (arith, h.able.rows, g.used_length);
            };
        wide = omega (arith, h.wide, g.used_length);
        rows = r;
      }

  pub first_sure : (k : ℕ) (p : Place) (s : State) → Sure (suc k) s → Fit n p → Sure k (first_use p s)
  first_sure k p s h f =
      let r = sure_room k p s h f in
      sure_next k s (first_use p s) h (first_kept p s r) (first_rows p s r f h.rows)

  pub settled_sure : (k : ℕ) (op : Op) (p : Place) (xa xb : List ℕ) (s : State) → Sure (suc k) s → Fit n p → Sure k (settled_of op p xa xb s).state
  settled_sure k op p xa xb s h f =
      sure_next k s (settled_of op p xa xb s).state h (settled_kept op p xa xb s a g) (go (Eval.outcome_of coded op xa xb (part_of p s.store)).answer)
    where
      a : Able 1 s
      a = one_able k s h

      g : Fit (length s.used) p
      g = sure_fit (suc k) p s h f

      cells : List ℕ
      cells = (Eval.outcome_of coded op xa xb (part_of p s.store)).cells

      v : List ℕ
      v = named s.tally.next cells

      go : (e : Result (Unit {0}) EvalError) → RowsIn (settled_by e cells p xa xb s).state
      go (Ok u) = noted_rows p (written p v s) (written_room p v s a g (value_length op p xa xb s.store s.tally.next (sure_within (suc k) p s h f))) f h.rows
      go (Err x) = h.rows

  pub cleared_sure : (k : ℕ) (s : State) → Sure k s → Sure k (cleared s)
  cleared_sure k s h =
      let g = cleared_kept s h.able.good in
      record {
        able = record { good = g.good; room = omega (arith, h.able.room, g.map_length); ids = h.able.ids; rows = omega (arith, h.able.rows, g.used_length) };
        wide = omega (arith, h.wide, g.used_length);
        rows = tt;
      }

  pub forgotten_sure : (k : ℕ) (temp : List ℕ) (s : State) → Sure k s → Sure k (forgotten temp s)
  forgotten_sure k temp s h =
      let g = forgotten_kept temp s h.able.good in
      record {
        able = record { good = g.good; room = omega (arith, h.able.room, g.map_length); ids = h.able.ids; rows = omega (arith, h.able.rows, g.used_length) };
        wide = omega (arith, h.wide, g.used_length);
        rows = tt;
      }

  -- operands and output stand in the first n rows
  pub record Sits (vars : Vars) (st : Stmt) : Type 0 where
    pub first : InOperand n vars st.first
    pub second : InOperand n vars st.second
    pub output : InOutput n vars st.output

  module _ (vars : Vars) where
    pub used_sure : (k : ℕ) (a : Operand) (s : State) → Sure (suc k) s → InOperand n vars a → Sure k (used_by vars a s)
    used_sure k None s h i = sure_less k (suc k) s (omega arith) h
    used_sure k (Const v m) s h i = sure_less k (suc k) s (omega arith) h
    used_sure k (Var v) s h i = first_sure k (place_of vars v) s h i

    pub both_sure : (k : ℕ) (st : Stmt) (s : State) → Sure (suc (suc k)) s → Sits vars st → Sure k (used_both vars st s)
    both_sure k st s h i = used_sure k st.second (used_by vars st.first s) (used_sure (suc k) st.first s h i.first) i.second

    module _ (xa xb : List ℕ → List ℕ) (k : ℕ) (st : Stmt) (s : State) (h : Sure (suc (suc k)) s) where
      less : Sure k s
      less = sure_less k (suc (suc k)) s (omega arith) h

      plain_sure : (o : Output) → InOutput n vars o → Sure k (plain_of vars xa xb o st s).state
      plain_sure Out.None i = less
      plain_sure (Out.Some o) i =
          let t = first_use (place_of vars o) s in
          settled_sure k st.op (place_of vars o) (xa t.store) (xb t.store) t (first_sure (suc k) (place_of vars o) s h i) i

      hook_sure : (o : Output) → InOutput n vars o → Sure k (hook_of vars o st s).state
      hook_sure Out.None i = cleared_sure k s less
      hook_sure (Out.Some o) i = first_sure k (place_of vars o) (cleared s) (cleared_sure (suc k) s (sure_less (suc k) (suc (suc k)) s (omega arith) h)) i

      pub turned_sure : (t : Turn) → InOutput n vars st.output → Sure k (turned vars xa xb t st s).state
      turned_sure Plain i = plain_sure st.output i
      turned_sure Marker i = plain_sure st.output i
      turned_sure (Label l) i = plain_sure st.output i
      turned_sure (Jump l) i = less
      turned_sure Exit i = less
      turned_sure Hook i = hook_sure st.output i

    pub simplify_sure : (k : ℕ) (t : Turn) (st : Stmt) (s : State) → Sure (suc (suc (suc (suc k)))) s → Sits vars st → Sure k (simplify_of vars t st s).state
    simplify_sure k t st s h i =
        turned_sure (operand_bits vars st.first) (operand_bits vars st.second) k (replaced_of vars st s) (used_both vars st s)
        (both_sure (suc (suc k)) st s h i)
        t
        i.output
