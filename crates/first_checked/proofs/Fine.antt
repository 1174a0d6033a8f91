-- A statement that no check refuses, over some ids, and a replaced operand: it is there as the old one was, and has its size.
use Rattle.std.proofs.Common.{Option, None as Nothing, Some, ℕ, suc, ◌+◌, ◌*◌, ◌≤◌, ◌<◌, ◌≡◌, refl, sym, ◌∙◌, ap, subst, Bool, true, false, List, ◌∷◌, arith, eqb, leb, length, length-take, get_or-take, leb-true, le-leb, ne_eqb}
use mathlib.Core.Bool.{false≢true}
use lib.IntN.{pos}
use borrow.Author.Tests.{eqb-false}
use Rattle.pcode.specs.Var.{pick, same_id, zero_id, size_of, as_operand}
use Rattle.pcode.specs.Block.{has_id, stmt_of}
use Rattle.pcode.specs.declared.var.VarId.{VarId}
use Rattle.pcode.specs.declared.var.VarNode.{VarNode}
use Rattle.pcode.specs.declared.var.Operand.{Operand}
use Rattle.pcode.specs.declared.var.Operand.TheVariants.{None, Const, Var}
use Rattle.pcode.specs.Var.{Output}
use Rattle.std.specs.declared.option.Option.TheVariants as Out
use Rattle.pcode.specs.declared.block.Stmt.{Stmt}
use Rattle.vars.specs.Vars.{held_ids}
use Rattle.vars.specs.declared.Vars.{Vars}
use Rattle.vars.proofs.Rows.{row_below, has_at}
use Rattle.checks.specs.Statements.{good_size, good_node, good_operand, there, good_parts, met_needs, good_sizes}
use Rattle.checks.proofs.Passing.{Good}
use Rattle.bit_vec.specs.Lists.{bits, codes}
use Rattle.bit_vec.specs.Moves.{digits}
use Rattle.bit_vec.specs.Known.{const_of}
use Rattle.const_eval.specs.declared.place.Place.{Place}
use Rattle.const_eval.specs.Known.{part_of, Within}
use Rattle.const_eval.specs.State.{State, entries_of, map_gives}
use Rattle.const_eval.proofs.Parts.{part_length}
use Rattle.const_eval.proofs.Codes.{same_sound}
use Rattle.const_eval.proofs.Looks.{lookup_within, lookup_holds}
use Rattle.uses.specs.Operands.{place_of, node_at, operand_bits, used_by, becomes_by, becomes, InOperand}
use Rattle.uses.proofs.Replaced.{const_codes}
use Rattle.simplify.specs.Simplify.{used_both, replaced_of, InOutput}
use Rattle.alike.proofs.Bools.{or_right}
use Rattle.alike.proofs.Fewer.{Within as Among}
use Rattle.first_checked.proofs.Held.{Sure, Sits, sure_within, used_sure}

-- the id that an operand names, if it names one
abbrev pub Names : (VarId → Type 0) → Operand → Type 0
Names P None = Unit {0}
Names P (Const v n) = Unit {0}
Names P (Var v) = P v.id

-- an operand names one of these ids
abbrev pub In : List VarId → Operand → Type 0
In ids a = Names (λ (id : VarId). has_id ids id ≡ true) a

-- none of these ids is 0
abbrev pub NoZero : List VarId → Type 0
NoZero ids = (id : VarId) → has_id ids id ≡ true → zero_id id ≡ false

-- a statement that no check refuses, over these ids
pub record Fine (ids : List VarId) (s : Stmt) : Type 0 where
  pub good : Good s
  pub output : In ids (as_operand s.output)
  pub first : In ids s.first
  pub second : In ids s.second

pub in_within : (l m : List VarId) (a : Operand) → Among l m → In l a → In m a
in_within l m None w h = tt
in_within l m (Const v n) w h = tt
in_within l m (Var v) w h = w v.id h

pub fine_within : (l m : List VarId) (s : Stmt) → Among l m → Fine l s → Fine m s
fine_within l m s w f =
    record { good = f.good; output = in_within l m (as_operand s.output) w f.output; first = in_within l m s.first w f.first; second = in_within l m s.second w f.second }

-- one id more
pub within_more : (x : VarId) (l : List VarId) → Among l (x ∷ l)
unfolding has_id
within_more x l id h = or_right (same_id x id) (has_id l id) h

pub both_true : (x y : Bool) → pick x y false ≡ true → (x ≡ true) × (y ≡ true)
both_true true y e = (refl, e)
both_true false y e = absurd (false≢true e)

-- sizes from 1 to 16
pub size_good : (n : ℕ) → 1 ≤ n → n ≤ 16 → good_size n ≡ true
unfolding good_size
size_good n h k = rw (ne_eqb n 0 (λ e. omega arith)) (le-leb n 16 k)

pub good_size_lem : (n : ℕ) → good_size n ≡ true → (1 ≤ n) × (n ≤ 16)
unfolding good_size
good_size_lem n e = by (eqb n 0) refl e
  where
    by : (t : Bool) → eqb n 0 ≡ t → pick t false (leb n 16) ≡ true → (1 ≤ n) × (n ≤ 16)
    by true q h = absurd (false≢true h)
    by false q h = let k = eqb-false n 0 q in (omega (arith, k), leb-true n 16 h)

pub node_good : (v : VarNode) → zero_id v.id ≡ false → good_size v.size ≡ true → v.offset + v.size ≤ 16 → good_node v ≡ true
unfolding good_node
node_good v z g h = rw (z, g) (le-leb (v.offset + v.size) 16 h)

pub record NodeParts (v : VarNode) : Type 0 where
  pub id : zero_id v.id ≡ false
  pub size : good_size v.size ≡ true
  pub inside : v.offset + v.size ≤ 16

pub node_parts : (v : VarNode) → good_node v ≡ true → NodeParts v
unfolding good_node
node_parts v e = by (zero_id v.id) refl e
  where
    by : (z : Bool) → zero_id v.id ≡ z → pick z false (pick (good_size v.size) (leb (v.offset + v.size) 16) false) ≡ true → NodeParts v
    by true q h = absurd (false≢true h)
    by false q h = let x = both_true (good_size v.size) _ h in record { id = q; size = x.0; inside = leb-true _ _ x.1 }

pub there_size : (a : Operand) → there a ≡ true → good_operand a ≡ true → good_size (size_of a) ≡ true
there_size None t g = absurd (false≢true t)
there_size (Const v n) t g = g
there_size (Var v) t g = (node_parts v g).size

pub sized_there : (a : Operand) → 1 ≤ size_of a → there a ≡ true
sized_there None h = absurd (omega arith)
sized_there (Const v n) h = refl
sized_there (Var v) h = refl

-- the parts of a good statement
pub record GoodParts (s : Stmt) : Type 0 where
  pub output : good_operand (as_operand s.output) ≡ true
  pub first : good_operand s.first ≡ true
  pub second : good_operand s.second ≡ true

pub parts_of : (s : Stmt) → Good s → GoodParts s
unfolding good_parts
parts_of s g =
    let p = both_true (good_operand (as_operand s.output)) _ g.parts in
    let q = both_true (good_operand s.first) _ p.1 in
    record { output = p.0; first = q.0; second = q.1 }

pub parts_good : (s : Stmt) → GoodParts s → good_parts s ≡ true
unfolding good_parts
parts_good s p = rw (p.output, p.first, p.second)

-- an operand in another's place
pub record Like (ids : List VarId) (a b : Operand) : Type 0 where
  pub present : there b ≡ there a
  pub size : size_of b ≡ size_of a
  pub good : good_operand b ≡ true
  pub named : In ids b

-- operands put in the place of others leave a statement good
pub like_fine : (ids : List VarId) (st : Stmt) (a b : Operand) → Fine ids st → Like ids st.first a → Like ids st.second b → Fine ids (stmt_of st.op st.output a b)
unfolding met_needs good_sizes
like_fine ids st a b f p q =
    record {
      good =
          record {
            parts = parts_good (stmt_of st.op st.output a b) (record { output = (parts_of st f.good).output; first = p.good; second = q.good });
            needs = rw (p.present, q.present) f.good.needs;
            sizes = rw (p.size, q.size) f.good.sizes;
          };
      output = f.output;
      first = p.named;
      second = q.named;
    }

module _ (vars : Vars) (no_zero : NoZero (held_ids vars)) where
  abbrev N : ℕ
  N = length (held_ids vars)

  -- an operand of the table stands in the table's rows
  pub operand_in : (a : Operand) → good_operand a ≡ true → In (held_ids vars) a → InOperand N vars a
  operand_in None g i = tt
  operand_in (Const v n) g i = (good_size_lem n g).1
  operand_in (Var v) g i = record { row_in = row_below (held_ids vars) v.id i; inside = (node_parts v g).inside }

  pub output_in : (o : Output) → good_operand (as_operand o) ≡ true → In (held_ids vars) (as_operand o) → InOutput N vars o
  output_in Out.None g i = tt
  output_in (Out.Some o) g i = operand_in (Var o) g i

  pub fine_sits : (st : Stmt) → Fine (held_ids vars) st → Sits N vars st
  fine_sits st f =
      let p = parts_of st f.good in
      record {
        first = operand_in st.first p.first f.first;
        second = operand_in st.second p.second f.second;
        output = output_in st.output p.output f.output;
      }

  -- an operand has eight codes a byte
  pub bits_length : (k : ℕ) (a : Operand) (s : State) → Sure N k s → InOperand N vars a → length (operand_bits vars a s.store) ≡ 8 * size_of a
  bits_length k None s h i = refl
  bits_length k (Const v n) s h i = const_codes (8 * n) v
  bits_length k (Var v) s h i = part_length (place_of vars v) s.store (sure_within N k (place_of vars v) s h i)

  -- the part that the map gives has an id of the table
  node_held : (p : Place) → Within (128 * N) p → has_id (held_ids vars) (node_at vars p).id ≡ true
  node_held p w =
      let d : VarId = record { 0 = pos 0 } in
      let l = length-take vars.count vars.ids in
      let h : p.row < length (held_ids vars) = omega (arith, w.row_in) in
      let k : p.row < vars.count = omega (arith, l, h) in
      subst (λ (x : VarId). has_id (held_ids vars) x ≡ true) (get_or-take vars.count vars.ids p.row d k) (has_at (held_ids vars) p.row d h)

  -- what an operand that is there becomes, by its bits
  module _ (k : ℕ) (a : Operand) (s : State) (key : List ℕ) (h : Sure N k s) (l : length key ≡ 8 * size_of a) (t : there a ≡ true) (g : good_operand a ≡ true) (i : In (held_ids vars) a) where
    given_like : (p : Place) → map_gives key s ≡ Some p → Like (held_ids vars) a (Var (node_at vars p))
    given_like p e =
        let w = lookup_within (128 * N) s.store (entries_of s) key p h.rows e in
        let u = lookup_within (length s.store) s.store (entries_of s) key p h.able.good.inside e in
        let q : part_of p s.store ≡ key = same_sound (part_of p s.store) key (lookup_holds s.store (entries_of s) key p e) in
        let m : p.size ≡ size_of a = (let z = part_length p s.store u in let y : length (part_of p s.store) ≡ length key = ap length q in omega (arith, z, y, l)) in
        let x = node_held p w in
        record {
          present = sym t;
          size = m;
          good = node_good (node_at vars p) (no_zero (node_at vars p).id x) (ap good_size m ∙ there_size a t g) w.inside;
          named = x;
        }

    by_like : (c : Option ℕ) (f : Option Place) → map_gives key s ≡ f → Like (held_ids vars) a (becomes_by vars c f a)
    by_like (Some j) f e = record { present = sym t; size = refl; good = there_size a t g; named = tt }
    by_like Nothing Nothing e = record { present = refl; size = refl; good = g; named = i }
    by_like Nothing (Some p) e = given_like p e

  pub becomes_like : (k : ℕ) (a : Operand) (s : State) → Sure N k s → good_operand a ≡ true → In (held_ids vars) a → Like (held_ids vars) a (becomes vars s a)
  becomes_like k None s h g i = record { present = refl; size = refl; good = refl; named = tt }
  becomes_like k (Const v n) s h g i =
      let key = codes (digits (8 * n) v) in
      by_like k (Const v n) s key h (const_codes (8 * n) v) refl g tt (const_of (bits key)) (map_gives key s) refl
  becomes_like k (Var v) s h g i =
      let key = part_of (place_of vars v) s.store in
      by_like k (Var v) s key h (bits_length k (Var v) s h (operand_in (Var v) g i)) refl g i (const_of (bits key)) (map_gives key s) refl

  -- a statement with its operands replaced is as good
  pub replaced_fine : (k : ℕ) (st : Stmt) (s : State) → Sure N (suc (suc k)) s → Fine (held_ids vars) st → Fine (held_ids vars) (replaced_of vars st s)
  replaced_fine k st s h f =
      let p = parts_of st f.good in
      let t = used_by vars st.first s in
      let u = used_sure N vars (suc k) st.first s h (operand_in st.first p.first f.first) in
      let v = used_sure N vars k st.second t u (operand_in st.second p.second f.second) in
      like_fine (held_ids vars) st (becomes vars t st.first) (becomes vars (used_both vars st s) st.second) f
      (becomes_like (suc k) st.first t u p.first f.first)
      (becomes_like k st.second (used_both vars st s) v p.second f.second)

  pub first_like : (k : ℕ) (st : Stmt) (s : State) → Sure N (suc (suc k)) s → Fine (held_ids vars) st → Like (held_ids vars) st.first (replaced_of vars st s).first
  first_like k st s h f =
      let p = parts_of st f.good in
      becomes_like (suc k) st.first (used_by vars st.first s) (used_sure N vars (suc k) st.first s h (operand_in st.first p.first f.first)) p.first f.first

  pub second_like : (k : ℕ) (st : Stmt) (s : State) → Sure N (suc (suc k)) s → Fine (held_ids vars) st → Like (held_ids vars) st.second (replaced_of vars st s).second
  second_like k st s h f =
      let p = parts_of st f.good in
      let u = used_sure N vars (suc k) st.first s h (operand_in st.first p.first f.first) in
      becomes_like k st.second (used_both vars st s) (used_sure N vars k st.second (used_by vars st.first s) u (operand_in st.second p.second f.second)) p.second f.second
