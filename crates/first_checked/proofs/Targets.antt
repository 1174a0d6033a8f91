-- Labels that stand among statements, labels that statements branch to, and both in what a statement gives.
use Rattle.std.proofs.Common.{Option, ℕ, ◌+◌, ◌≡◌, refl, sym, ◌∙◌, ap, subst, Bool, true, false, not, ◌||◌, true≢false, List, [], ◌∷◌, ◌++◌, append_assoc, append-nil, arith, eqb, eqb-true, eq-eqb}
use mathlib.Core.Bool.{false≢true}
use Rattle.pcode.specs.declared.var.VarId.{VarId}
use Rattle.pcode.specs.declared.var.PcodeLabel.{PcodeLabel as Label}
use Rattle.pcode.specs.declared.op.OneOp.{OneOp}
use Rattle.pcode.specs.declared.op.Op.{Op}
use Rattle.pcode.specs.declared.op.Op.TheVariants as Ops
use Rattle.pcode.specs.declared.block.Stmt.{Stmt}
use Rattle.pcode.proofs.Ids.{same_label_true, same_label_refl}
use Rattle.vars.proofs.Rows.{ways}
use Rattle.checks.specs.declared.label.LabelUse.{LabelUse}
use Rattle.checks.specs.declared.label.LabelUse.TheVariants.{None, Stands, Named}
use Rattle.checks.specs.Labels.{label_of, stands, is_label, has_label}
use Rattle.widen.specs.Turn.{turn_of}
use Rattle.widen.specs.declared.turn.Turn.{Turn}
use Rattle.widen.specs.declared.turn.Turn.TheVariants as Turns
use Rattle.const_step.specs.Labels.{target_by, target_of, has_target, targets_of}
use Rattle.alike.proofs.Bools.{or_left, or_right}
use Rattle.alike.proofs.Kept.{AllPass, has_append, has_one}
use Rattle.first_checked.proofs.Comes.{NotLabel, Says, turn_says}
use Rattle.first_checked.proofs.Gives.{Gives, drops, skips, copies, stays, widens}

-- a label stands among statements; some statement branches to it
abbrev pub Has : List Stmt → Label → Type 0
Has ss t = has_label ss t ≡ true

abbrev pub Aims : List Stmt → Label → Type 0
Aims ss t = has_target (targets_of ss) (1 + t.0) ≡ true

pub either : {P : Type 0} (a b : Bool) → (a || b) ≡ true → (a ≡ true → P) → (b ≡ true → P) → P
either true b e f g = f refl
either false b e f g = g e

pub has_left : (a b : List Stmt) (t : Label) → Has a t → Has (a ++ b) t
has_left a b t h = has_append a b t ∙ or_left (has_label a t) (has_label b t) h

pub has_right : (a b : List Stmt) (t : Label) → Has b t → Has (a ++ b) t
has_right a b t h = has_append a b t ∙ or_right (has_label a t) (has_label b t) h

pub has_split : {P : Type 0} (a b : List Stmt) (t : Label) → Has (a ++ b) t → (Has a t → P) → (Has b t → P) → P
has_split a b t h f g = either (has_label a t) (has_label b t) (sym (has_append a b t) ∙ h) f g

pub has_none : (t : Label) → Has [] t → ⊥
unfolding has_label
has_none t h = false≢true h

aims_append : (a b : List Stmt) (n : ℕ) → has_target (targets_of (a ++ b)) n ≡ (has_target (targets_of a) n || has_target (targets_of b) n)
unfolding has_target
aims_append [] b n = refl
aims_append (s ∷ a) b n = ways (eqb (target_of s) n) (λ t. rw t) (λ t. rw t (aims_append a b n))

pub aims_left : (a b : List Stmt) (t : Label) → Aims a t → Aims (a ++ b) t
aims_left a b t h = aims_append a b (1 + t.0) ∙ or_left (has_target (targets_of a) (1 + t.0)) (has_target (targets_of b) (1 + t.0)) h

pub aims_right : (a b : List Stmt) (t : Label) → Aims b t → Aims (a ++ b) t
aims_right a b t h = aims_append a b (1 + t.0) ∙ or_right (has_target (targets_of a) (1 + t.0)) (has_target (targets_of b) (1 + t.0)) h

pub aims_split : {P : Type 0} (a b : List Stmt) (t : Label) → Aims (a ++ b) t → (Aims a t → P) → (Aims b t → P) → P
aims_split a b t h f g = either (has_target (targets_of a) (1 + t.0)) (has_target (targets_of b) (1 + t.0)) (sym (aims_append a b (1 + t.0)) ∙ h) f g

-- a branch aims at its label, and at no other
pub aims_here : (s : Stmt) (ss : List Stmt) (t : Label) → s.op ≡ Ops.PcodeBranch t → Aims (s ∷ ss) t
unfolding has_target
aims_here s ss t e =
    or_left (eqb (target_of s) (1 + t.0)) (has_target (targets_of ss) (1 + t.0)) (ap (λ (op : Op). eqb (target_by (turn_of op)) (1 + t.0)) e ∙ eq-eqb (1 + t.0) (1 + t.0) refl)

target_is : (op : Op) (t : Label) → eqb (target_by (turn_of op)) (1 + t.0) ≡ true → op ≡ Ops.PcodeBranch t
target_is op t = go (turn_of op) (turn_says op)
  where
    none : eqb 0 (1 + t.0) ≡ true → ⊥
    none e = let q = eqb-true 0 (1 + t.0) e in omega (arith, q)

    go : (u : Turn) → Says u op → eqb (target_by u) (1 + t.0) ≡ true → op ≡ Ops.PcodeBranch t
    go Turns.Plain y e = absurd (none e)
    go Turns.Marker y e = absurd (none e)
    go (Turns.Label l) y e = absurd (none e)
    go (Turns.Jump l) y e =
        let q = eqb-true (1 + l.0) (1 + t.0) e in
        y ∙ ap Ops.PcodeBranch (same_label_true l t (eq-eqb l.0 t.0 (omega (arith, q))))
    go Turns.Exit y e = absurd (none e)
    go Turns.Hook y e = absurd (none e)

pub aims_one : (s : Stmt) (t : Label) → Aims (s ∷ []) t → s.op ≡ Ops.PcodeBranch t
unfolding has_target
aims_one s t h = either (eqb (target_of s) (1 + t.0)) false h (target_is s.op t) (λ e. absurd (false≢true e))

pub aims_none : (t : Label) → Aims [] t → ⊥
unfolding has_target
aims_none t h = false≢true h

-- a label is its own
pub has_label_lem : (s : Stmt) (l : Label) → s.op ≡ Ops.PcodeLabel l → Has (s ∷ []) l
has_label_lem s l e = has_one s l ∙ ap (λ (op : Op). is_label op l) e ∙ same_label_refl l

pub label_is : (s : Stmt) (l t : Label) → s.op ≡ Ops.PcodeLabel l → Has (s ∷ []) t → l ≡ t
label_is s l t e h = same_label_true l t (ap (λ (op : Op). is_label op t) (sym e) ∙ sym (has_one s t) ∙ h)

pub no_label : (s : Stmt) (t : Label) → NotLabel s.op → Has (s ∷ []) t → ⊥
no_label s t n h = true≢false (sym h ∙ has_one s t ∙ n t)

-- an operation that stands once
abbrev once_by : List Stmt → LabelUse → Bool
once_by above None = true
once_by above (Stands l) = not (has_label above l)
once_by above (Named l) = true

abbrev pub once : List Stmt → Op → Bool
once above op = once_by above (label_of op)

not_label_once : (above : List Stmt) (op : Op) → NotLabel op → once above op ≡ true
not_label_once above op n = go (label_of op) n
  where
    go : (u : LabelUse) → ((l : Label) → stands u l ≡ false) → once_by above u ≡ true
    go None n = refl
    go (Stands l) n = absurd (true≢false (sym (same_label_refl l) ∙ n l))
    go (Named l) n = refl

pub pass_append : (f : List Stmt → Op → Bool) (a b c : List Stmt) → AllPass f a b → AllPass f (a ++ b) c → AllPass f a (b ++ c)
pass_append f a [] c p q = subst (λ (x : List Stmt). AllPass f x c) (append-nil a) q
pass_append f a (s ∷ b) c p q = (p.0, pass_append f (a ++ (s ∷ [])) b c p.1 (subst (λ (x : List Stmt). AllPass f x c) (sym (append_assoc a (s ∷ []) b)) q))

-- what a statement other than a label gives: no label, and no branch but its own
one_no_label : (s : Stmt) (k : OneOp) → s.op ≡ Ops.One k → NotLabel s.op
one_no_label s k e l = ap (λ (op : Op). is_label op l) e

same_no_label : (s st : Stmt) → s.op ≡ st.op → NotLabel st.op → NotLabel s.op
same_no_label s st e n l = ap (λ (op : Op). is_label op l) e ∙ n l

one_no_branch : (s : Stmt) (k : OneOp) (t : Label) → s.op ≡ Ops.One k → Aims (s ∷ []) t → ⊥
one_no_branch s k t e h =
    let q : Ops.One k ≡ Ops.PcodeBranch t = sym e ∙ aims_one s t h in
    let z : 0 ≡ 1 + t.0 = ap (λ (op : Op). target_by (turn_of op)) q in
    omega (arith, z)

-- two branches to the same label; a label is no branch
pub branch_same : (a b : Label) → Ops.PcodeBranch a ≡ Ops.PcodeBranch b → a ≡ b
branch_same a b e =
    let z : 1 + a.0 ≡ 1 + b.0 = ap (λ (op : Op). target_by (turn_of op)) e in
    same_label_true a b (eq-eqb a.0 b.0 (omega (arith, z)))

pub label_no_branch : (l t : Label) → Ops.PcodeLabel l ≡ Ops.PcodeBranch t → ⊥
label_no_branch l t e =
    let z : 0 ≡ 1 + t.0 = ap (λ (op : Op). target_by (turn_of op)) e in
    omega (arith, z)

module _ {ids : List VarId} {st : Stmt} where
  pub gives_labels : {ss : List Stmt} {k : Option Label} → Gives ids st ss k → NotLabel st.op → (t : Label) → Has ss t → ⊥
  gives_labels drops n t h = has_none t h
  gives_labels (skips l e) n t h = has_none t h
  gives_labels (copies s k e f) n t h = no_label s t (one_no_label s k e) h
  gives_labels (stays s e f) n t h = no_label s t (same_no_label s st e n) h
  gives_labels (widens x s z k e g f i) n t h = has_split (s ∷ []) (z ∷ []) t h (no_label s t (same_no_label s st e n)) (no_label z t (one_no_label z k g))

  pub gives_once : {ss : List Stmt} {k : Option Label} → Gives ids st ss k → NotLabel st.op → (a : List Stmt) → AllPass once a ss
  gives_once drops n a = tt
  gives_once (skips l e) n a = tt
  gives_once (copies s k e f) n a = (not_label_once a s.op (one_no_label s k e), tt)
  gives_once (stays s e f) n a = (not_label_once a s.op (same_no_label s st e n), tt)
  gives_once (widens x s z k e g f i) n a = (not_label_once a s.op (same_no_label s st e n), (not_label_once (a ++ (s ∷ [])) z.op (one_no_label z k g), tt))

  pub gives_branch : {ss : List Stmt} {k : Option Label} → Gives ids st ss k → (t : Label) → Aims ss t → st.op ≡ Ops.PcodeBranch t
  gives_branch drops t h = absurd (aims_none t h)
  gives_branch (skips l e) t h = absurd (aims_none t h)
  gives_branch (copies s k e f) t h = absurd (one_no_branch s k t e h)
  gives_branch (stays s e f) t h = sym e ∙ aims_one s t h
  gives_branch (widens x s z k e g f i) t h = aims_split (s ∷ []) (z ∷ []) t h (λ q. sym e ∙ aims_one s t q) (λ q. absurd (one_no_branch z k t g q))
