-- Where every branch of the block stays inside one instruction, so does every branch of what the first pass gives.
use Rattle.std.proofs.Common.{Option, None as Nothing, Some, ◌+◌, ◌≡◌, refl, sym, ◌∙◌, ap, subst, Bool, true, false, not, ◌&&◌, true≢false, List, [], ◌∷◌, ◌++◌}
use mathlib.Core.Bool.{false≢true}
use Rattle.pcode.specs.Var.{pick, same_label}
use Rattle.pcode.specs.Block.{held}
use Rattle.pcode.specs.declared.var.VarId.{VarId}
use Rattle.pcode.specs.declared.var.PcodeLabel.{PcodeLabel as Label}
use Rattle.pcode.specs.declared.op.OneOp.{OneOp}
use Rattle.pcode.specs.declared.op.Op.{Op}
use Rattle.pcode.specs.declared.block.Stmt.{Stmt}
use Rattle.pcode.specs.declared.block.Block.{Block}
use Rattle.pcode.specs.declared.block.Marks.{Marks}
use Rattle.pcode.proofs.Ids.{same_label_true, same_label_refl}
use Rattle.vars.specs.Vars.{held_ids}
use Rattle.vars.specs.declared.Vars.{Vars}
use Rattle.checks.specs.Labels.{is_label}
use Rattle.live_tables.specs.Rows.{edge_of, is_marker}
use Rattle.step.specs.Steps.{act_of}
use Rattle.const_step.specs.Labels.{has_target, targets_of, branch_of, label_stmt, arrives_of, end_of}
use Rattle.const_prop.specs.Pass.{stmts_of}
use Rattle.alike.specs.Premises.{reaches, lands, in_one_instruction}
use Rattle.alike.proofs.Bools.{or_left, or_right, and_left, and_right, or_none_left, not_true}
use Rattle.first_checked.specs.Results.{Given}
use Rattle.first_checked.proofs.Gives.{Gives, drops, skips, copies, stays, widens}
use Rattle.first_checked.proofs.Walk.{Step, turns, passes, lost, kept, meets, Walks, ends, goes}
use Rattle.first_checked.proofs.First.{first_walk}
use Rattle.first_checked.proofs.Targets.{Aims, either, aims_left, aims_right, aims_here}

-- a label stands below with no marker between
abbrev Reaches : Label → List Stmt → Type 0
Reaches t ss = reaches t ss ≡ true

abbrev Unmarked : Op → Type 0
Unmarked op = is_marker (edge_of op) ≡ false

abbrev NoMark : List Stmt → Type 0
NoMark [] = Unit {0}
NoMark (s ∷ ss) = Unmarked s.op × NoMark ss

reach_none : (t : Label) → Reaches t [] → ⊥
unfolding reaches
reach_none t h = false≢true h

reach_here : (t : Label) (s : Stmt) (ss : List Stmt) → is_label s.op t ≡ true → Reaches t (s ∷ ss)
unfolding reaches
reach_here t s ss e = or_left (is_label s.op t) (not (is_marker (edge_of s.op)) && reaches t ss) e

reach_next : (t : Label) (s : Stmt) (ss : List Stmt) → Unmarked s.op → Reaches t ss → Reaches t (s ∷ ss)
unfolding reaches
reach_next t s ss e h = or_right (is_label s.op t) (not (is_marker (edge_of s.op)) && reaches t ss) (rw (e, h))

reach_over : (t : Label) (a b : List Stmt) → NoMark a → Reaches t b → Reaches t (a ++ b)
reach_over t [] b n h = h
reach_over t (s ∷ a) b n h = reach_next t s (a ++ b) n.0 (reach_over t a b n.1 h)

-- it stands here, or there is no marker here and it stands below
reach_step : {P : Type 0} (t : Label) (s : Stmt) (ss : List Stmt) → Reaches t (s ∷ ss) → (is_label s.op t ≡ true → P) → (Unmarked s.op → Reaches t ss → P) → P
unfolding reaches
reach_step t s ss h f g =
    let x = not (is_marker (edge_of s.op)) in
    either (is_label s.op t) (x && reaches t ss) h f (λ q. g (not_true (is_marker (edge_of s.op)) (and_left x (reaches t ss) q)) (and_right x (reaches t ss) q))

label_same : (op : Op) (l t : Label) → op ≡ Op.PcodeLabel l → is_label op t ≡ true → l ≡ t
label_same op l t e h = same_label_true l t (ap (λ (x : Op). is_label x t) (sym e) ∙ h)

-- what a statement gives has no marker unless it is one
gives_unmarked : {ids : List VarId} {st : Stmt} {ss : List Stmt} {k : Option Label} → Gives ids st ss k → Unmarked st.op → NoMark ss
gives_unmarked drops n = tt
gives_unmarked (skips l e) n = tt
gives_unmarked (copies s k e f) n = (ap (λ (x : Op). is_marker (edge_of x)) e, tt)
gives_unmarked (stays s e f) n = (ap (λ (x : Op). is_marker (edge_of x)) e ∙ n, tt)
gives_unmarked (widens x s z k e g f i) n = (ap (λ (y : Op). is_marker (edge_of y)) e ∙ n, (ap (λ (y : Op). is_marker (edge_of y)) g, tt))

-- a label that the result so far branches to is reached in what the rest gives
module _ (made rest : List Stmt) where
  step_reach : (ids : List VarId) (ss out : List Stmt) (st : Stmt) (k j : Option Label) (t : Label) → (Reaches t rest → Aims (made ++ ss) t → Reaches t out) → Step ids made rest st k ss j
      → Reaches t (st ∷ rest) → Aims made t → Reaches t (ss ++ out)
  step_reach ids ss out st k j t ih (turns n g) r a =
      reach_step t st rest r (λ p. absurd (true≢false (sym p ∙ n t))) (λ u p. reach_over t ss out (gives_unmarked g u) (ih p (aims_left made ss t a)))
  step_reach ids ss out st k j t ih (passes n) r a =
      reach_step t st rest r (λ p. absurd (true≢false (sym p ∙ n t))) (λ u p. ih p (aims_left made ss t a))
  step_reach ids ss out st k j t ih (lost {l = l} e q) r a =
      reach_step t st rest r
      (λ p. absurd (true≢false (sym (subst (Aims made) (sym (label_same st.op l t e p)) a) ∙ or_none_left (has_target (targets_of made) (1 + l.0)) (has_target (targets_of rest) (1 + l.0)) q)))
      (λ u p. ih p (aims_left made ss t a))
  step_reach ids ss out st k j t ih (kept {l = l} e) r a =
      reach_step t st rest r (λ p. reach_here t (label_stmt l) out (ap (same_label l) (sym (label_same st.op l t e p)) ∙ same_label_refl l))
      (λ u p. reach_next t (label_stmt l) out refl (ih p (aims_left made ss t a)))
  step_reach ids ss out st k j t ih (meets {t = x} {l = l} e q) r a =
      reach_next t (branch_of x) (label_stmt l ∷ out) refl
      (reach_step t st rest r (λ p. reach_here t (label_stmt l) out (ap (same_label l) (sym (label_same st.op l t e p)) ∙ same_label_refl l))
      (λ u p. reach_next t (label_stmt l) out refl (ih p (aims_left made ss t a))))

walks_reach : (ids : List VarId) (t : Label) {made rest out : List Stmt} {k : Option Label} → Walks ids made k rest out → Reaches t rest → Aims made t → Reaches t out
walks_reach ids t ends r a = absurd (reach_none t r)
walks_reach ids t (goes {made = made} {rest = rest} {ss = ss} {out = out} {st = st} {k = k} {j = j} s w) r a =
    step_reach made rest ids ss out st k j t (λ p q. walks_reach ids t w p q) s r a

-- an operation lands in what the rest gives where it lands in the rest
lands_over : (op : Op) (rest out : List Stmt) → lands (act_of op) rest ≡ true → ((t : Label) → op ≡ Op.PcodeBranch t → Reaches t rest → Reaches t out) → lands (act_of op) out ≡ true
lands_over (Op.Trap j) rest out h f = refl
lands_over Op.InstructionMarker rest out h f = refl
lands_over (Op.PcodeLabel l) rest out h f = refl
lands_over (Op.PcodeBranch l) rest out h f = f l refl h
lands_over (Op.Branch n) rest out h f = refl
lands_over (Op.Load n) rest out h f = refl
lands_over (Op.Store n) rest out h f = refl
lands_over (Op.Call j n) rest out h f = refl
lands_over (Op.Select n) rest out h f = refl
lands_over (Op.Subpiece n) rest out h f = refl
lands_over (Op.Opaque j) rest out h f = refl
lands_over (Op.Float j) rest out h f = refl
lands_over (Op.One j) rest out h f = refl
lands_over (Op.Two j) rest out h f = refl
lands_over (Op.Divide j) rest out h f = refl
lands_over (Op.Shift j) rest out h f = refl
lands_over (Op.Rotate j) rest out h f = refl
lands_over (Op.Compare j) rest out h f = refl
lands_over (Op.Bool j) rest out h f = refl

abbrev OneInstruction : List Stmt → Type 0
OneInstruction ss = in_one_instruction ss ≡ true

one_none : OneInstruction []
unfolding in_one_instruction
one_none = refl

one_more : (s : Stmt) (ss : List Stmt) → lands (act_of s.op) ss ≡ true → OneInstruction ss → OneInstruction (s ∷ ss)
unfolding in_one_instruction
one_more s ss h o = rw (h, o)

one_first : (s : Stmt) (ss : List Stmt) → OneInstruction (s ∷ ss) → lands (act_of s.op) ss ≡ true
unfolding in_one_instruction
one_first s ss h = and_left (lands (act_of s.op) ss) (in_one_instruction ss) h

one_rest : (s : Stmt) (ss : List Stmt) → OneInstruction (s ∷ ss) → OneInstruction ss
unfolding in_one_instruction
one_rest s ss h = and_right (lands (act_of s.op) ss) (in_one_instruction ss) h

computes : (s : Stmt) (k : OneOp) (out : List Stmt) → s.op ≡ Op.One k → lands (act_of s.op) out ≡ true
computes s k out e = ap (λ (x : Op). lands (act_of x) out) e

-- a skip's label stands below with no marker between
abbrev Leads : Option Label → List Stmt → Type 0
Leads Nothing rest = Unit {0}
Leads (Some t) rest = Reaches t rest

module _ (made rest : List Stmt) (st : Stmt) (out : List Stmt) where
  abbrev Lands : List Stmt → Type 0
  Lands ss = (t : Label) → Reaches t rest → Aims (made ++ ss) t → Reaches t out

  gives_inside : {ids : List VarId} {ss : List Stmt} {j : Option Label} → Gives ids st ss j → Lands ss → (Leads j rest → OneInstruction out) → lands (act_of st.op) rest ≡ true → OneInstruction (ss ++ out)
  gives_inside drops reach ih h = ih tt
  gives_inside (skips l e) reach ih h = ih (sym (ap (λ (x : Op). lands (act_of x) rest) e) ∙ h)
  gives_inside (copies s k e f) reach ih h = one_more s out (computes s k out e) (ih tt)
  gives_inside (stays s e f) reach ih h =
      one_more s out
      (ap (λ (x : Op). lands (act_of x) out) e ∙ lands_over st.op rest out h (λ t q r. reach t r (aims_right made (s ∷ []) t (aims_here s [] t (e ∙ q)))))
      (ih tt)
  gives_inside (widens x s z k e g f i) reach ih h =
      one_more s (z ∷ out)
      (ap (λ (y : Op). lands (act_of y) (z ∷ out)) e
      ∙ lands_over st.op rest (z ∷ out) h
      (λ t q r. reach_next t z out (ap (λ (y : Op). is_marker (edge_of y)) g) (reach t r (aims_right made (s ∷ (z ∷ [])) t (aims_here s (z ∷ []) t (e ∙ q))))))
      (one_more z out (computes z k out g) (ih tt))

  past_label : (t l : Label) → st.op ≡ Op.PcodeLabel l → same_label t l ≡ false → Reaches t (st ∷ rest) → Reaches t rest
  past_label t l e q r =
      reach_step t st rest r (λ p. absurd (true≢false (sym (same_label_refl l) ∙ ap (λ (x : Label). same_label x l) (label_same st.op l t e p) ∙ q))) (λ u p. p)

  arrives : (k : Option Label) (l : Label) → st.op ≡ Op.PcodeLabel l → Leads k (st ∷ rest) → Leads (arrives_of k l) rest
  arrives Nothing l e r = tt
  arrives (Some t) l e r = go (same_label t l) refl
    where
      go : (b : Bool) → same_label t l ≡ b → Leads (pick b Nothing (Some t)) rest
      go true z = tt
      go false z = past_label t l e z r

  step_inside : (ids : List VarId) (ss : List Stmt) (k j : Option Label) → Step ids made rest st k ss j → Lands ss → (OneInstruction rest → Leads j rest → OneInstruction out)
      → OneInstruction (st ∷ rest) → Leads k (st ∷ rest) → OneInstruction (ss ++ out)
  step_inside ids ss k j (turns n g) reach ih o d = gives_inside g reach (ih (one_rest st rest o)) (one_first st rest o)
  step_inside ids ss k j (passes {t = t} n) reach ih o d =
      ih (one_rest st rest o) (reach_step t st rest d (λ p. absurd (true≢false (sym p ∙ n t))) (λ u p. p))
  step_inside ids ss k j (lost {l = l} e q) reach ih o d = ih (one_rest st rest o) (arrives k l e d)
  step_inside ids ss k j (kept {l = l} e) reach ih o d = one_more (label_stmt l) out refl (ih (one_rest st rest o) tt)
  step_inside ids ss k j (meets {t = x} {l = l} e q) reach ih o d =
      one_more (branch_of x) (label_stmt l ∷ out)
      (reach_next x (label_stmt l) out refl (reach x (past_label x l e q d) (aims_right made (branch_of x ∷ (label_stmt l ∷ [])) x (aims_here (branch_of x) (label_stmt l ∷ []) x refl))))
      (one_more (label_stmt l) out refl (ih (one_rest st rest o) tt))

end_inside : (k : Option Label) → Leads k [] → OneInstruction (stmts_of (end_of k))
end_inside Nothing d = one_none
end_inside (Some t) d = absurd (reach_none t d)

walks_inside : (ids : List VarId) {made rest out : List Stmt} {k : Option Label} → Walks ids made k rest out → OneInstruction rest → Leads k rest → OneInstruction out
walks_inside ids (ends {k = k}) o d = end_inside k d
walks_inside ids (goes {made = made} {rest = rest} {ss = ss} {out = out} {st = st} {k = k} {j = j} s w) o d =
    step_inside made rest st out ids ss k j s (λ t r a. walks_reach ids t w r a) (λ p q. walks_inside ids w p q) o d

-- the first premise holds of the result
pub result_one_instruction : {b : Block} {vars : Vars} {m : Marks} {l : List Stmt} → Given b vars m l → in_one_instruction (held b) ≡ true → in_one_instruction l ≡ true
result_one_instruction {vars = vars} g o = walks_inside (held_ids vars) (first_walk g) o tt
