-- What the second pass leaves of a checked block of the run class passes the checks, and refusal 16 does not meet it.
use Rattle.std.proofs.Common.{ℕ, suc, ◌+◌, ◌≤◌, arith, add-zero, ◌≡◌, refl, sym, ap, ◌∙◌, Bool, true, false, not, ◌||◌, List, [], ◌∷◌, ◌++◌, append_assoc, ltb, length, take, length-append, length-take, ltb-false, le-ltb, Ok}
use mathlib.Core.Bool.{false≢true}
use lib.ListN.{drop as past}
use lib.Seq.{take-append_seam}
use Rattle.pcode.specs.Var.{pick}
use Rattle.pcode.specs.Rules.{side_effects}
use Rattle.pcode.specs.Block.{held, second_limits, blank_stmts, lasting}
use Rattle.pcode.specs.declared.var.VarId.{VarId}
use Rattle.pcode.specs.declared.var.PcodeLabel.{PcodeLabel}
use Rattle.pcode.specs.declared.op.Op.{Op}
use Rattle.pcode.specs.declared.block.Stmt.{Stmt}
use Rattle.pcode.specs.declared.block.Block.{Block}
use Rattle.pcode.specs.declared.block.Marks.{Marks}
use Rattle.vars.specs.Vars.{ids_of, join_ids, vars_from, vars_of, over_from}
use Rattle.vars.proofs.Rows.{ways, vars_longer}
use Rattle.checks.specs.Statements.{good_parts, met_needs, good_sizes, stmt_check, checks_from}
use Rattle.checks.specs.Labels.{is_label, has_label, good_label, labels_from}
use Rattle.checks.specs.Checks.{variables, check_of}
use Rattle.checks.proofs.Passing.{then_ok, both_ok, passing}
use Rattle.machine.specs.Class.{in_class, backward, outside, first_outside}
use Rattle.machine.specs.declared.class.Class.{Class}
use Rattle.dead_store.specs.Stays.{read_first, persists, judge, dead_of, eliminated, block_of}
use Rattle.alike.proofs.Bools.{or_left}
use Rattle.alike.proofs.Havoc.{Set}
use Rattle.alike.proofs.Elim.{Elim, fin, keep, drop}
use Rattle.alike.proofs.Deals.{not_label}
use Rattle.alike.proofs.Judging.{elim_of, need, cross}
use Rattle.alike.proofs.Fewer.{vars_without}
use Rattle.alike.proofs.Checked.{all_fit}

-- the same labels stand in two lists
abbrev SameLabels : List Stmt → List Stmt → Type 0
SameLabels a a' = (l : PcodeLabel) → has_label a' l ≡ has_label a l

pub has_append : (a b : List Stmt) (l : PcodeLabel) → has_label (a ++ b) l ≡ (has_label a l || has_label b l)
unfolding has_label
has_append [] b l = refl
has_append (s ∷ a) b l = ways (is_label s.op l) (λ t. rw t) (λ t. rw t (has_append a b l))

pub has_one : (s : Stmt) (l : PcodeLabel) → has_label (s ∷ []) l ≡ is_label s.op l
unfolding has_label
has_one s l = ways (is_label s.op l) (λ t. rw t) (λ t. rw t)

or_false : (b : Bool) → (b || false) ≡ b
or_false true = refl
or_false false = refl

with_kept : (a a' : List Stmt) (s : Stmt) → SameLabels a a' → SameLabels (a ++ (s ∷ [])) (a' ++ (s ∷ []))
with_kept a a' s h l = has_append a' (s ∷ []) l ∙ ap (λ (b : Bool). b || has_label (s ∷ []) l) (h l) ∙ sym (has_append a (s ∷ []) l)

with_dropped : (a a' : List Stmt) (s : Stmt) → side_effects s.op ≡ false → SameLabels a a' → SameLabels (a ++ (s ∷ [])) a'
with_dropped a a' s e h l =
    h l ∙ sym (or_false (has_label a l)) ∙ ap (λ (b : Bool). has_label a l || b) (sym (has_one s l ∙ not_label s.op l e)) ∙ sym (has_append a (s ∷ []) l)

-- each statement passes a test of those above it
abbrev pub AllPass : (List Stmt → Op → Bool) → List Stmt → List Stmt → Type 0
AllPass f above [] = Unit {0}
AllPass f above (s ∷ ss) = (f above s.op ≡ true) × AllPass f (above ++ (s ∷ [])) ss

module _ {ms : Marks} where
  labels_left : {r r' : List Stmt} {N C : Set} → Elim ms r r' N C → SameLabels r r'
  unfolding has_label
  labels_left (fin p) l = refl
  labels_left (keep {s = s} e c) l = ap (λ (b : Bool). is_label s.op l || b) (labels_left e l)
  labels_left (drop {s = s} {r = r} e q v nn cc) l = labels_left e l ∙ sym (ap (λ (b : Bool). b || has_label r l) (not_label s.op l q))

  shorter : {r r' : List Stmt} {N C : Set} → Elim ms r r' N C → length r' ≤ length r
  shorter (fin p) = omega arith
  shorter (keep e c) = let h = shorter e in omega arith
  shorter (drop e q v nn cc) = let h = shorter e in omega arith

  pass_left : {r r' : List Stmt} {N C : Set} → Elim ms r r' N C → (f g : List Stmt → Op → Bool) → ((a a' : List Stmt) (op : Op) → SameLabels a a' → g a' op ≡ f a op)
      → (a a' : List Stmt) → SameLabels a a' → AllPass f a r → AllPass g a' r'
  pass_left (fin p) f g same a a' h k = tt
  pass_left (keep {s = s} e c) f g same a a' h k = (same a a' s.op h ∙ k.0, pass_left e f g same (a ++ (s ∷ [])) (a' ++ (s ∷ [])) (with_kept a a' s h) k.1)
  pass_left (drop {s = s} e q v nn cc) f g same a a' h k = pass_left e f g same (a ++ (s ∷ [])) a' (with_dropped a a' s q h) k.1

-- a statement passes at any place
moved : (i j : ℕ) (s : Stmt) → stmt_check i s ≡ Ok tt → stmt_check j s ≡ Ok tt
unfolding stmt_check
moved i j s e =
    let x = then_ok (good_parts s) _ _ e in
    let y = then_ok (met_needs s) _ _ x.1 in
    let z = then_ok (good_sizes s) _ _ y.1 in
    rw (x.0, y.0, z.0)

module _ {ms : Marks} where
  checks_left : {r r' : List Stmt} {N C : Set} → Elim ms r r' N C → (i j : ℕ) → checks_from i r ≡ Ok tt → checks_from j r' ≡ Ok tt
  unfolding checks_from
  checks_left (fin p) i j e = refl
  checks_left (keep {s = s} {r = r} d c) i j e =
      let x = both_ok (stmt_check i s) (checks_from (i + 1) r) e in
      rw (moved i j s x.0) (checks_left d (i + 1) (j + 1) x.1)
  checks_left (drop {s = s} {r = r} d q v nn cc) i j e = checks_left d (i + 1) j (both_ok (stmt_check i s) (checks_from (i + 1) r) e).1

checks_of : (b : Block) → check_of second_limits b ≡ Ok tt → checks_from 0 (held b) ≡ Ok tt
checks_of b e = (passing second_limits b e).checked

-- the walks by place are those with the statements above
module _ (block : List Stmt) where
  above_is : (a ss : List Stmt) → a ++ ss ≡ block → take (length a) block ≡ a
  above_is a ss e = ap (take (length a)) (sym e) ∙ take-append_seam a ss

  next_is : (a : List Stmt) (s : Stmt) (ss : List Stmt) → a ++ (s ∷ ss) ≡ block → (a ++ (s ∷ [])) ++ ss ≡ block
  next_is a s ss e = append_assoc a (s ∷ []) ss ∙ e

  place : (a : List Stmt) (s : Stmt) → length (a ++ (s ∷ [])) ≡ length a + 1
  place a s = length-append a (s ∷ [])

  pub labels_pass : (a ss : List Stmt) → a ++ ss ≡ block → labels_from block (length a) ss ≡ Ok tt → AllPass (good_label block) a ss
  unfolding labels_from
  labels_pass a [] q e = tt
  labels_pass a (s ∷ ss) q e =
      let x = then_ok (good_label block (take (length a) block) s.op) _ _ e in (
        ap (λ (b : List Stmt). good_label block b s.op) (sym (above_is a (s ∷ ss) q)) ∙ x.0,
        labels_pass (a ++ (s ∷ [])) ss (next_is a s ss q) (ap (λ (n : ℕ). labels_from block n ss) (place a s) ∙ x.1),
      )

  pub labels_ok : (a ss : List Stmt) → a ++ ss ≡ block → AllPass (good_label block) a ss → labels_from block (length a) ss ≡ Ok tt
  unfolding labels_from
  labels_ok a [] q h = refl
  labels_ok a (s ∷ ss) q h =
      rw (above_is a (s ∷ ss) q, h.0) (ap (λ (n : ℕ). labels_from block n ss) (sym (place a s)) ∙ labels_ok (a ++ (s ∷ [])) ss (next_is a s ss q) h.1)

  module _ (c : Class) where
    -- refusal 16's test
    abbrev runs : List Stmt → Op → Bool
    runs above op = not (outside c above op)

    pub runs_pass : (a ss : List Stmt) → a ++ ss ≡ block → length a + length ss ≤ first_outside c block (length a) ss → AllPass runs a ss
    unfolding first_outside
    runs_pass a [] q h = tt
    runs_pass a (s ∷ ss) q h =
        by (outside c (take (length a) block) s.op) refl h (λ k. runs_pass (a ++ (s ∷ [])) ss (next_is a s ss q) (rw (place a s) k))
      where
        by : (t : Bool) → outside c (take (length a) block) s.op ≡ t → length a + length (s ∷ ss) ≤ pick t (length a) (first_outside c block (length a + 1) ss)
            → (length a + 1 + length ss ≤ first_outside c block (length a + 1) ss → AllPass runs (a ++ (s ∷ [])) ss) → AllPass runs a (s ∷ ss)
        by true e k rest = absurd (omega arith)
        by false e k rest = (ap (λ (b : List Stmt). runs b s.op) (sym (above_is a (s ∷ ss) q)) ∙ ap not e, rest (omega arith))

    pub runs_ok : (a ss : List Stmt) → a ++ ss ≡ block → AllPass runs a ss → length a + length ss ≤ first_outside c block (length a) ss
    unfolding first_outside
    runs_ok a [] q h = rw (add-zero (length a)) (omega arith)
    runs_ok a (s ∷ ss) q h =
        let ih = runs_ok (a ++ (s ∷ [])) ss (next_is a s ss q) h.1 in
        let n = place a s in
        let e : outside c (take (length a) block) s.op ≡ false = ap (λ (b : List Stmt). outside c b s.op) (above_is a (s ∷ ss) q) ∙ not_not (outside c a s.op) h.0 in
        let m = ap (λ (i : ℕ). first_outside c block i ss) n in
        rw e (omega arith)
      where
        not_not : (b : Bool) → not b ≡ true → b ≡ false
        not_not true e = absurd (false≢true e)
        not_not false e = refl

-- both tests see the labels alone
good_same : (block block' : List Stmt) → SameLabels block block' → (a a' : List Stmt) (op : Op) → SameLabels a a' → good_label block' a' op ≡ good_label block a op
good_same block block' h a a' (Op.Trap j) g = refl
good_same block block' h a a' Op.InstructionMarker g = refl
good_same block block' h a a' (Op.PcodeLabel l) g = ap not (g l)
good_same block block' h a a' (Op.PcodeBranch l) g = h l
good_same block block' h a a' (Op.Branch n) g = refl
good_same block block' h a a' (Op.Load n) g = refl
good_same block block' h a a' (Op.Store n) g = refl
good_same block block' h a a' (Op.Call j n) g = refl
good_same block block' h a a' (Op.Select n) g = refl
good_same block block' h a a' (Op.Subpiece n) g = refl
good_same block block' h a a' (Op.Opaque j) g = refl
good_same block block' h a a' (Op.Float j) g = refl
good_same block block' h a a' (Op.One j) g = refl
good_same block block' h a a' (Op.Two j) g = refl
good_same block block' h a a' (Op.Divide j) g = refl
good_same block block' h a a' (Op.Shift j) g = refl
good_same block block' h a a' (Op.Rotate j) g = refl
good_same block block' h a a' (Op.Compare j) g = refl
good_same block block' h a a' (Op.Bool j) g = refl

backward_same : (a a' : List Stmt) (op : Op) → SameLabels a a' → backward a' op ≡ backward a op
backward_same a a' (Op.Trap j) g = refl
backward_same a a' Op.InstructionMarker g = refl
backward_same a a' (Op.PcodeLabel l) g = refl
backward_same a a' (Op.PcodeBranch l) g = g l
backward_same a a' (Op.Branch n) g = refl
backward_same a a' (Op.Load n) g = refl
backward_same a a' (Op.Store n) g = refl
backward_same a a' (Op.Call j n) g = refl
backward_same a a' (Op.Select n) g = refl
backward_same a a' (Op.Subpiece n) g = refl
backward_same a a' (Op.Opaque j) g = refl
backward_same a a' (Op.Float j) g = refl
backward_same a a' (Op.One j) g = refl
backward_same a a' (Op.Two j) g = refl
backward_same a a' (Op.Divide j) g = refl
backward_same a a' (Op.Shift j) g = refl
backward_same a a' (Op.Rotate j) g = refl
backward_same a a' (Op.Compare j) g = refl
backward_same a a' (Op.Bool j) g = refl

-- as many variables as fit
few_vars : (m : ℕ) (l : List VarId) (ss : List Stmt) → length (vars_from l ss) ≤ m → over_from m l ss ≡ length ss
unfolding vars_from over_from
few_vars m l [] h = refl
few_vars m l (s ∷ ss) h =
    let k = vars_longer (join_ids l (ids_of s)) ss in
    rw (le-ltb m (length (join_ids l (ids_of s))) (omega arith)) (ap suc (few_vars m (join_ids l (ids_of s)) ss h))

pub vars_ok : (ss : List Stmt) → length (vars_of ss) ≤ 112 → variables 112 ss ≡ Ok tt
unfolding variables vars_of
vars_ok ss h = rw (few_vars 112 [] ss h, le-ltb (length ss) (length ss) (omega arith))

-- a block holds what it is made of
pub held_block : (l : List Stmt) → held (block_of l) ≡ l
held_block l = take-append_seam l (past (length l) blank_stmts)

module _ (c : Class) (ms : Marks) (b : Block) (ok : check_of second_limits b ≡ Ok tt) (class : ltb (first_outside c (held b) 0 (held b)) (length (held b)) ≡ false) where
  abbrev left : List Stmt
  left = eliminated ms (held b)

  derived : Elim ms (held b) left (need (persists ms (held b)) (judge (persists ms (held b)) (held b))) (cross (persists ms (held b)) (judge (persists ms (held b)) (held b)))
  derived = elim_of ms (persists ms (held b)) (λ id l. or_left (lasting ms id) (read_first false (held b) id) l) (held b) (all_fit c b ok class)

  small : length left ≤ 129
  small =
      let s = shorter derived in
      let m = length-take b.count b.stmts in
      let n = (passing second_limits b ok).stmts in
      omega arith

  variables_left : length (vars_of left) ≤ 112
  variables_left = let f = vars_without (dead_of (judge (persists ms (held b)) (held b))) (held b) in let n = (passing second_limits b ok).vars in omega arith

  labels_ok_left : labels_from left 0 left ≡ Ok tt
  labels_ok_left =
      labels_ok left [] left refl
      (pass_left derived (good_label (held b)) (good_label left) (good_same (held b) left (labels_left derived)) [] [] (λ l. refl)
      (labels_pass (held b) [] (held b) refl (passing second_limits b ok).labels))

  -- it passes the checks
  pub left_checked : check_of second_limits (block_of left) ≡ Ok tt
  unfolding check_of
  left_checked = rw (held_block left, le-ltb 129 (length left) small, checks_left derived 0 0 (checks_of b ok), vars_ok left variables_left) labels_ok_left

  -- and refusal 16 does not meet it
  pub left_runs : ltb (first_outside c left 0 left) (length left) ≡ false
  left_runs =
      let k = runs_ok left c [] left refl (pass_left derived (runs (held b) c) (runs left c) runs_same [] [] (λ l. refl) (runs_pass (held b) c [] (held b) refl first)) in
      le-ltb (first_outside c left 0 left) (length left) (omega arith)
    where
      first : 0 + length (held b) ≤ first_outside c (held b) 0 (held b)
      first = let h = ltb-false (first_outside c (held b) 0 (held b)) (length (held b)) class in omega arith

      runs_same : (a a' : List Stmt) (op : Op) → SameLabels a a' → runs left c a' op ≡ runs (held b) c a op
      runs_same a a' op h = ap (λ (t : Bool). not (pick (in_class c op) t true)) (backward_same a a' op h)
