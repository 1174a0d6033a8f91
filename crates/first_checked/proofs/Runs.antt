-- Where refusal 16 does not meet the block, it does not meet what the first pass gives: the same operations, and no branch upwards.
use Rattle.std.proofs.Common.{Option, None as Nothing, Some, ◌≡◌, refl, sym, ◌∙◌, ap, subst, Bool, true, false, not, true≢false, List, [], ◌∷◌, ◌++◌, arith, ltb, length, ltb-false, le-ltb}
use Rattle.pcode.specs.Var.{pick, same_label}
use Rattle.pcode.specs.Block.{held}
use Rattle.pcode.specs.declared.var.VarId.{VarId}
use Rattle.pcode.specs.declared.var.PcodeLabel.{PcodeLabel as Label}
use Rattle.pcode.specs.declared.op.OneOp.{OneOp}
use Rattle.pcode.specs.declared.op.Op.{Op}
use Rattle.pcode.specs.declared.block.Stmt.{Stmt}
use Rattle.pcode.specs.declared.block.Block.{Block}
use Rattle.pcode.specs.declared.block.Marks.{Marks}
use Rattle.pcode.proofs.Ids.{same_label_refl}
use Rattle.vars.specs.Vars.{held_ids}
use Rattle.vars.specs.declared.Vars.{Vars}
use Rattle.vars.proofs.Rows.{ways}
use Rattle.checks.specs.Labels.{has_label, good_label}
use Rattle.machine.specs.Class.{in_class, backward, outside, first_outside}
use Rattle.machine.specs.declared.class.Class.{Class}
use Rattle.const_step.specs.Labels.{arrives_of, end_of}
use Rattle.const_prop.specs.Pass.{stmts_of}
use Rattle.alike.proofs.Bools.{not_true}
use Rattle.alike.proofs.Kept.{AllPass, runs_pass, runs_ok}
use Rattle.first_checked.specs.Results.{Given}
use Rattle.first_checked.proofs.Comes.{NotLabel}
use Rattle.first_checked.proofs.Gives.{Gives, drops, skips, copies, stays, widens}
use Rattle.first_checked.proofs.Walk.{Step, turns, passes, lost, kept, meets}
use Rattle.first_checked.proofs.First.{first_walk, block_labels}
use Rattle.first_checked.proofs.Targets.{Has, has_split, label_is, no_label, pass_append}
use Rattle.first_checked.proofs.Labels.{Keeps, last}
use Rattle.first_checked.proofs.Checked.{keeps_start}

-- among fewer labels fewer branches go up
backward_sub : (a x : List Stmt) → ((t : Label) → Has x t → Has a t) → (op : Op) → backward a op ≡ false → backward x op ≡ false
backward_sub a x w (Op.Trap j) h = refl
backward_sub a x w Op.InstructionMarker h = refl
backward_sub a x w (Op.PcodeLabel l) h = refl
backward_sub a x w (Op.PcodeBranch l) h = ways (has_label x l) (λ p. absurd (true≢false (sym (w l p) ∙ h))) (λ p. p)
backward_sub a x w (Op.Branch n) h = refl
backward_sub a x w (Op.Load n) h = refl
backward_sub a x w (Op.Store n) h = refl
backward_sub a x w (Op.Call j n) h = refl
backward_sub a x w (Op.Select n) h = refl
backward_sub a x w (Op.Subpiece n) h = refl
backward_sub a x w (Op.Opaque j) h = refl
backward_sub a x w (Op.Float j) h = refl
backward_sub a x w (Op.One j) h = refl
backward_sub a x w (Op.Two j) h = refl
backward_sub a x w (Op.Divide j) h = refl
backward_sub a x w (Op.Shift j) h = refl
backward_sub a x w (Op.Rotate j) h = refl
backward_sub a x w (Op.Compare j) h = refl
backward_sub a x w (Op.Bool j) h = refl

module _ (c : Class) where
  -- refusal 16's test
  abbrev runs : List Stmt → Op → Bool
  runs above op = not (outside c above op)

  runs_sub : (a x : List Stmt) → ((t : Label) → Has x t → Has a t) → (op : Op) → runs a op ≡ true → runs x op ≡ true
  runs_sub a x w op h = go (in_class c op) (not_true (outside c a op) h)
    where
      go : (t : Bool) → pick t (backward a op) true ≡ false → not (pick t (backward x op) true) ≡ true
      go true e = ap not (backward_sub a x w op e)
      go false e = absurd (true≢false e)

  up_not : (a : List Stmt) (t : Label) → (Has a t → ⊥) → runs a (Op.PcodeBranch t) ≡ true
  up_not a t n = ways (has_label a t) (λ p. absurd (n p)) (λ p. ap not p)

  not_up : (a : List Stmt) (op : Op) (t : Label) → op ≡ Op.PcodeBranch t → runs a op ≡ true → Has a t → ⊥
  not_up a op t e h p = true≢false (sym p ∙ not_true (has_label a t) (sym (ap (runs a) e) ∙ h))

  -- a skip's label does not stand above
  abbrev Onward : List Stmt → Option Label → Type 0
  Onward above Nothing = Unit {0}
  Onward above (Some t) = Has above t → ⊥

  record More (above made : List Stmt) (k : Option Label) (rest : List Stmt) : Type 0 where
    pub block : AllPass runs above rest
    pub result : AllPass runs [] made
    pub onward : Onward above k

  one_runs : (a : List Stmt) (s : Stmt) (k : OneOp) → s.op ≡ Op.One k → runs a s.op ≡ true
  one_runs a s k e = ap (runs a) e

  not_at : (above : List Stmt) (st : Stmt) (t : Label) → (Has above t → ⊥) → (Has (st ∷ []) t → ⊥) → Has (above ++ (st ∷ [])) t → ⊥
  not_at above st t p q r = has_split above (st ∷ []) t r p q

  module _ (above made : List Stmt) (st : Stmt) (w : (t : Label) → Has made t → Has above t) (h : runs above st.op ≡ true) where
    same_runs : (s : Stmt) → s.op ≡ st.op → runs made s.op ≡ true
    same_runs s e = ap (runs made) e ∙ runs_sub above made w st.op h

    gives_runs : {ids : List VarId} {ss : List Stmt} {k : Option Label} → Gives ids st ss k → AllPass runs made ss
    gives_runs drops = tt
    gives_runs (skips l e) = tt
    gives_runs (copies s k e f) = (one_runs made s k e, tt)
    gives_runs (stays s e f) = (same_runs s e, tt)
    gives_runs (widens x s z k e g f i) = (same_runs s e, (one_runs (made ++ (s ∷ [])) z k g, tt))

    gives_onward : {ids : List VarId} {ss : List Stmt} {k : Option Label} → Gives ids st ss k → NotLabel st.op → Onward (above ++ (st ∷ [])) k
    gives_onward drops n = tt
    gives_onward (skips l e) n = not_at above st l (not_up above st.op l e h) (no_label st l n)
    gives_onward (copies s k e f) n = tt
    gives_onward (stays s e f) n = tt
    gives_onward (widens x s z k e g f i) n = tt

  onward_past : (above : List Stmt) (st : Stmt) (l : Label) → st.op ≡ Op.PcodeLabel l → (k : Option Label) → Onward above k → Onward (above ++ (st ∷ [])) (arrives_of k l)
  onward_past above st l e Nothing o = tt
  onward_past above st l e (Some t) o = go (same_label t l) refl
    where
      go : (b : Bool) → same_label t l ≡ b → Onward (above ++ (st ∷ [])) (pick b Nothing (Some t))
      go true z = tt
      go false z = not_at above st t o (λ p. true≢false (sym (same_label_refl l) ∙ ap (λ (x : Label). same_label x l) (label_is st l t e p) ∙ z))

  module _ (block : List Stmt) (ids : List VarId) where
    step : (above made rest ss : List Stmt) (st : Stmt) (k j : Option Label) → Keeps block above made k (st ∷ rest) → good_label block above st.op ≡ true → More above made k (st ∷ rest)
        → Step ids made rest st k ss j → More (above ++ (st ∷ [])) (made ++ ss) j rest
    step above made rest ss st k j h g m (turns n v) =
        record { block = m.block.1; result = pass_append runs [] made ss m.result (gives_runs above made st h.sub m.block.0 v); onward = gives_onward above made st h.sub m.block.0 v n }
    step above made rest ss st k j h g m (passes {t = t} n) =
        record { block = m.block.1; result = pass_append runs [] made [] m.result tt; onward = not_at above st t m.onward (no_label st t n) }
    step above made rest ss st k j h g m (lost {l = l} e r) =
        record { block = m.block.1; result = pass_append runs [] made [] m.result tt; onward = onward_past above st l e k m.onward }
    step above made rest ss st k j h g m (kept e) =
        record { block = m.block.1; result = pass_append runs [] made ss m.result (refl, tt); onward = tt }
    step above made rest ss st k j h g m (meets {t = t} e q) =
        record { block = m.block.1; result = pass_append runs [] made ss m.result (up_not made t (λ p. m.onward (h.sub t p)), (refl, tt)); onward = tt }

  end_runs : (above made : List Stmt) (k : Option Label) → ((t : Label) → Has made t → Has above t) → Onward above k → AllPass runs made (stmts_of (end_of k))
  end_runs above made Nothing w o = tt
  end_runs above made (Some t) w o = (up_not made t (λ p. o (w t p)), tt)

  module _ {b : Block} {vars : Vars} {m : Marks} {l : List Stmt} (g : Given b vars m l) (class : ltb (first_outside c (held b) 0 (held b)) (length (held b)) ≡ false) where
    all_run : AllPass runs [] l
    all_run =
        let n = ltb-false (first_outside c (held b) 0 (held b)) (length (held b)) class in
        let p = runs_pass (held b) c [] (held b) refl (omega (arith, n)) in
        let r = last (held b) (held_ids vars) More (step (held b) (held_ids vars)) (first_walk g) [] (keeps_start (held b)) (block_labels g) (record { block = p; result = tt; onward = tt }) in
        subst (AllPass runs []) r.is
        (pass_append runs [] r.made (stmts_of (end_of r.skip)) r.more.result (end_runs r.above r.made r.skip r.keeps.sub r.more.onward))

    -- refusal 16 does not meet the result
    pub result_runs : ltb (first_outside c l 0 l) (length l) ≡ false
    result_runs = let k = runs_ok l c [] l refl all_run in le-ltb (first_outside c l 0 l) (length l) (omega (arith, k))
