-- A checked statement of the run class meets what the evaluator asks.
use Rattle.std.proofs.Common.{ℕ, zero, suc, ◌+◌, ◌*◌, ◌^◌, ◌<◌, ◌≤◌, arith, mod-lt, mul-suc, ◌≡◌, refl, sym, ap, ◌∙◌, subst, Bool, true, false, true≢false, List, [], eqb, leb, lit<, take, drop, get_or, get_or-drop, eqb-true, leb-true}
use native.Mathlib.Nat.{pow-succ'}
use lib.Dec.{eqb-suc-zero}
use lib.Pow.{pow-add, pow_pos}
use Rattle.std.proofs.lemmas.Bool.{and_parts}
use Rattle.pcode.specs.Var.{pick, zero_id, size_of}
use Rattle.pcode.specs.Rules.{fits_rule, size_rule, sizes_one, meets, first_need, second_need}
use Rattle.pcode.specs.declared.var.VarId.{VarId}
use Rattle.pcode.specs.declared.var.VarNode.{VarNode}
use Rattle.pcode.specs.declared.var.Operand.{Operand}
use Rattle.pcode.specs.declared.var.Operand.TheVariants.{None, Const, Var}
use Rattle.pcode.specs.declared.op.OneOp.{OneOp}
use Rattle.pcode.specs.declared.op.OneOp.TheVariants.{Copy, ZeroExtend, SignExtend, IntNot, IntNegate, IntCountOnes, IntCountLeadingZeroes, BoolNot}
use Rattle.pcode.specs.declared.op.Op.{Op}
use Rattle.pcode.specs.declared.op.Op.TheVariants.{Trap, InstructionMarker, PcodeLabel, PcodeBranch, Branch, Load, Store, Call, Select, Subpiece, Opaque, Float, One, Two, Divide, Shift, Rotate, Compare, Bool as BoolOf}
use Rattle.vars.specs.Vars.{row_of}
use Rattle.checks.specs.Statements.{good_size, good_node, good_operand, there}
use Rattle.concrete.specs.Fits.{Alone, Both, Grows, Applies}
use Rattle.state.specs.Bytes.{num_of, read_of}
use Rattle.state.proofs.Digits.{below}
use Rattle.machine.specs.Values.{value_in, Bytes}

power : (n : ℕ) → 256 ^ n ≡ 2 ^ (8 * n)
power zero = refl
power (suc n) = pow-succ' 256 n ∙ ap (λ (m : ℕ). 256 * m) (power n) ∙ sym (pow-add 2 8 (8 * n)) ∙ ap (λ (m : ℕ). 2 ^ m) (let e = mul-suc 8 n in omega arith)

node_below : (rows : List (List ℕ)) → Bytes rows → (r : ℕ) (v : VarNode) → read_of rows r v.offset v.size < 2 ^ (8 * v.size)
unfolding read_of
node_below rows b r v =
    let row = get_or rows r [] in
    subst (λ (m : ℕ). num_of (take v.size (drop v.offset row)) < m) (power v.size)
    (below v.size (drop v.offset row) (λ k. subst (λ (m : ℕ). m < 256) (sym (get_or-drop v.offset row k 0)) (b r (v.offset + k))))

-- an operand's value is below two to its width
pub value_below : (ids : List VarId) (rows : List (List ℕ)) → Bytes rows → (a : Operand) → value_in ids rows a < 2 ^ (8 * size_of a)
value_below ids rows b None = lit< tt
value_below ids rows b (Const v n) = mod-lt v (pow_pos (8 * n))
value_below ids rows b (Var v) = node_below rows b (row_of ids v.id) v

size_range : (n : ℕ) → good_size n ≡ true → (0 < n) × (n ≤ 16)
unfolding good_size
size_range zero e = absurd (true≢false (sym e))
size_range (suc n) e = (omega arith, leb-true (suc n) 16 (sym (ap (λ t. pick t false (leb (suc n) 16)) (eqb-suc-zero n)) ∙ e))

node_range : (v : VarNode) → good_node v ≡ true → (0 < v.size) × (v.size ≤ 16)
unfolding good_node
node_range v e = by (zero_id v.id) (good_size v.size) refl e where
  by : (z g : Bool) → good_size v.size ≡ g → pick z false (pick g (leb (v.offset + v.size) 16) false) ≡ true → (0 < v.size) × (v.size ≤ 16)
  by true g h e = absurd (true≢false (sym e))
  by false true h e = size_range v.size h
  by false false h e = absurd (true≢false (sym e))

-- an operand that is there has 1 to 16 bytes
there_range : (a : Operand) → good_operand a ≡ true → there a ≡ true → (0 < size_of a) × (size_of a ≤ 16)
there_range None g t = absurd (true≢false (sym t))
there_range (Const v n) g t = size_range n g
there_range (Var v) g t = node_range v g

small : (a : Operand) → good_operand a ≡ true → size_of a ≤ 16
small None g = omega arith
small (Const v n) g = (size_range n g).1
small (Var v) g = (node_range v g).1

-- what the checks tell of an operation, its output o and its operands a and b
pub record Passed (op : Op) (o a b : Operand) : Type 0 where
  pub output : good_operand o ≡ true
  pub first : good_operand a ≡ true
  pub second : good_operand b ≡ true
  pub first_need_lem : meets (first_need op) (there a) ≡ true
  pub second_need_lem : meets (second_need op) (there b) ≡ true
  pub sizes : fits_rule (size_rule op) (size_of a) (size_of b) (size_of o) ≡ true

grows : (k : OneOp) (a b o : ℕ) → fits_rule (sizes_one k) a b o ≡ true → Grows k (8 * a) (8 * o)
grows Copy a b o e = tt
grows ZeroExtend a b o e = tt
grows SignExtend a b o e = let l = leb-true a o e in omega arith
grows IntNot a b o e = tt
grows IntNegate a b o e = tt
grows IntCountOnes a b o e = tt
grows IntCountLeadingZeroes a b o e = tt
grows BoolNot a b o e = tt

alone : (a : Operand) (x : ℕ) → good_operand a ≡ true → there a ≡ true → x < 2 ^ (8 * size_of a) → Alone (8 * size_of a) x
alone a x g t h = let r = there_range a g t in record { some = omega arith; most = omega arith; first = h }

both : (a b : Operand) (x y : ℕ) → good_operand a ≡ true → there a ≡ true → size_of b ≡ size_of a → x < 2 ^ (8 * size_of a) → y < 2 ^ (8 * size_of b) → Both (8 * size_of a) x y
both a b x y g t e h k =
    let r = there_range a g t in
    record { some = omega arith; most = omega arith; first = h; second = subst (λ (n : ℕ). y < 2 ^ (8 * n)) e k }

-- so the evaluator may be asked
pub applies : (op : Op) (o a b : Operand) (x y : ℕ) → Passed op o a b → x < 2 ^ (8 * size_of a) → y < 2 ^ (8 * size_of b)
    → Applies op (8 * size_of a) (8 * size_of o) x y
applies (Trap t) o a b x y p h k' = tt
applies InstructionMarker o a b x y p h k' = tt
applies (PcodeLabel l) o a b x y p h k' = tt
applies (PcodeBranch l) o a b x y p h k' = tt
applies (Branch n) o a b x y p h k' = tt
applies (Load n) o a b x y p h k' = tt
applies (Store n) o a b x y p h k' = tt
applies (Call k n) o a b x y p h k' = tt
applies (Select n) o a b x y p h k' = tt
applies (Subpiece n) o a b x y p h k' = tt
applies (Opaque k) o a b x y p h k' = tt
applies (Float k) o a b x y p h k' = tt
applies (One k) o a b x y p h k' = (alone a x p.first p.first_need_lem h, grows k (size_of a) (size_of b) (size_of o) p.sizes, (let s = small o p.output in omega arith))
applies (Two k) o a b x y p h k' =
    let s = and_parts (eqb (size_of a) (size_of o)) (eqb (size_of b) (size_of o)) p.sizes in
    both a b x y p.first p.first_need_lem (eqb-true (size_of b) (size_of o) s.1 ∙ sym (eqb-true (size_of a) (size_of o) s.0)) h k'
applies (Divide k) o a b x y p h k' = tt
applies (Shift k) o a b x y p h k' = alone a x p.first p.first_need_lem h
applies (Rotate k) o a b x y p h k' = tt
applies (Compare k) o a b x y p h k' = both a b x y p.first p.first_need_lem (sym (eqb-true (size_of a) (size_of b) p.sizes)) h k'
applies (BoolOf k) o a b x y p h k' = tt
