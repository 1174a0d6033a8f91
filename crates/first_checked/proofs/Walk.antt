-- The walk as a relation: what each statement gives, whatever is known of values.
use Rattle.std.proofs.Common.{Option, None as Nothing, Some, Result, Ok, Err, ℕ, suc, ◌+◌, ◌*◌, ◌≤◌, ◌≡◌, refl, sym, ◌∙◌, ap, subst, Bool, true, false, List, [], ◌∷◌, ◌++◌, append_assoc, arith, length, drop}
use lib.ListN.{length-replicate}
use lib.Seq.{take-append_seam}
use Rattle.pcode.specs.Var.{pick, same_label}
use Rattle.pcode.specs.Block.{held, blank_stmts}
use Rattle.pcode.specs.declared.var.VarId.{VarId}
use Rattle.pcode.specs.declared.var.PcodeLabel.{PcodeLabel}
use Rattle.pcode.specs.declared.op.Op.TheVariants as Ops
use Rattle.pcode.specs.declared.block.Stmt.{Stmt}
use Rattle.vars.specs.Vars.{held_ids}
use Rattle.vars.specs.declared.Vars.{Vars}
use Rattle.const_eval.specs.State.{State, forgotten, cleared}
use Rattle.widen.specs.Turn.{turn_of}
use Rattle.widen.specs.declared.turn.Turn.{Turn}
use Rattle.widen.specs.declared.turn.Turn.TheVariants.{Plain, Marker, Label, Jump, Exit, Hook}
use Rattle.widen.specs.declared.widen.Why.{Why}
use Rattle.widen.specs.declared.widen.Made.{Made}
use Rattle.widen.specs.Widen.{nothing_m, made_in}
use Rattle.pcode.specs.declared.block.Block.{Block}
use Rattle.pcode.specs.declared.refusal.Refusal.{Refusal}
use Rattle.simplify.specs.Simplify.{simplify_of}
use Rattle.const_step.specs.Labels.{targets_of, reached_by, branch_of, label_stmt, arrives_of, kept_label, label_of, end_of}
use Rattle.const_step.specs.Steps.{at_other, step_by}
use Rattle.const_prop.specs.Pass.{Env, Walk, all_ids, least_of, step_of, stmts_of, after_step, gives, answer_by, walk_from, zeros, start_state}
use Rattle.first_checked.proofs.Held.{Sure, simplify_sure, cleared_sure, forgotten_sure, sure_less}
use Rattle.first_checked.proofs.Fine.{NoZero, Fine, fine_sits}
use Rattle.first_checked.proofs.Ids.{AllFine}
use Rattle.first_checked.proofs.Comes.{NotLabel, Says, turn_says, jump_no_label, simplify_comes}
use Rattle.first_checked.proofs.Gives.{Gives, Low, least_of_low, made_gives}

-- one statement, after the result so far and before the rest, under a skip or none: what it gives, and the skip after it
pub data Step (ids : List VarId) (made rest : List Stmt) (st : Stmt) : Option PcodeLabel → List Stmt → Option PcodeLabel → Type 0 where
  turns : {ss : List Stmt} {k : Option PcodeLabel} → NotLabel st.op → Gives ids st ss k → Step ids made rest st Nothing ss k
  passes : {t : PcodeLabel} → NotLabel st.op → Step ids made rest st (Some t) [] (Some t)
  lost : {k : Option PcodeLabel} {l : PcodeLabel} → st.op ≡ Ops.PcodeLabel l → reached_by (targets_of rest) (targets_of made) l ≡ false → Step ids made rest st k [] (arrives_of k l)
  kept : {k : Option PcodeLabel} {l : PcodeLabel} → st.op ≡ Ops.PcodeLabel l → Step ids made rest st k (label_stmt l ∷ []) Nothing
  meets : {t l : PcodeLabel} → st.op ≡ Ops.PcodeLabel l → same_label t l ≡ false → Step ids made rest st (Some t) (branch_of t ∷ (label_stmt l ∷ [])) Nothing

-- the rest of a block, and what it gives
pub data Walks (ids : List VarId) : List Stmt → Option PcodeLabel → List Stmt → List Stmt → Type 0 where
  ends : {made : List Stmt} {k : Option PcodeLabel} → Walks ids made k [] (stmts_of (end_of k))
  goes : {made rest ss out : List Stmt} {st : Stmt} {k j : Option PcodeLabel} → Step ids made rest st k ss j → Walks ids (made ++ ss) j rest out → Walks ids made k (st ∷ rest) (ss ++ out)

-- a step that is not refused
pub record Gave (y : Result Made Why) (next : Result Block Refusal) (l : List Stmt) : Type 0 where
  pub made : Made
  pub is : y ≡ Ok made
  pub next_is : next ≡ gives l

fine_only : (y : Result Made Why) (i : ℕ) (next : Result Block Refusal) (l : List Stmt) → answer_by y i next ≡ gives l → Gave y next l
fine_only (Ok m) i next l e = record { made = m; is = refl; next_is = e }
fine_only (Err y) i next l e = absurd (cc)

-- the same block holds the same statements
gives_same : (x l : List Stmt) → gives x ≡ gives l → x ≡ l
gives_same x l e =
    let q : ◌≡◌ {A = Block} (record { stmts = x ++ drop (length x) blank_stmts; count = length x }) (record { stmts = l ++ drop (length l) blank_stmts; count = length l }) = cc in
    sym (take-append_seam x (drop (length x) blank_stmts)) ∙ ap held q ∙ take-append_seam l (drop (length l) blank_stmts)

module _ (vars : Vars) (no_zero : NoZero (held_ids vars)) where
  abbrev ids : List VarId
  ids = held_ids vars

  abbrev N : ℕ
  N = length (held_ids vars)

  module _ (made rest : List Stmt) (st : Stmt) (f : Fine ids st) (least : VarId) (low : Low least) (k : ℕ) where
    other_step : (t : Turn) (j : Option PcodeLabel) (s : State) → Sure N (suc (suc (suc (suc k)))) s → NotLabel st.op → Says t st.op → (m : Made) → (at_other vars least j t st s).made ≡ Ok m
        → Step ids made rest st j (stmts_of m) m.skip
    other_step t (Some l) s h n y m w = let z : nothing_m (Some l) ≡ m = cc in subst (λ (x : Made). Step ids made rest st (Some l) (stmts_of x) x.skip) z (passes n)
    other_step t Nothing s h n y m w =
        let g = sure_less N (suc (suc (suc k))) (suc (suc (suc (suc k)))) s (omega arith) h in
        turns n (made_gives ids st (simplify_of vars t st s).state.store vars (simplify_of vars t st s).simple least low (simplify_comes vars no_zero k st s g f t y) m w)

    label_step : (j : Option PcodeLabel) (l : PcodeLabel) → st.op ≡ Ops.PcodeLabel l
        → Step ids made rest st j (stmts_of (label_of j l (reached_by (targets_of rest) (targets_of made) l))) (label_of j l (reached_by (targets_of rest) (targets_of made) l)).skip
    label_step j l e = go (reached_by (targets_of rest) (targets_of made) l) refl j
      where
        met : (t : PcodeLabel) (b : Bool) → same_label t l ≡ b → Step ids made rest st (Some t) (stmts_of (kept_label (pick b Nothing (Some t)) l)) (kept_label (pick b Nothing (Some t)) l).skip
        met t true q = kept e
        met t false q = meets e q

        go : (b : Bool) → reached_by (targets_of rest) (targets_of made) l ≡ b → (j : Option PcodeLabel) → Step ids made rest st j (stmts_of (label_of j l b)) (label_of j l b).skip
        go false q j = lost e q
        go true q Nothing = kept e
        go true q (Some t) = met t (same_label t l) refl

    module _ (temp : List ℕ) (s : State) (h : Sure N (suc (suc (suc (suc k)))) s) where
      by_turn : (t : Turn) (j : Option PcodeLabel) → Says t st.op → (m : Made) → (step_by vars temp (targets_of rest) (targets_of made) least j t st s).made ≡ Ok m
          → Step ids made rest st j (stmts_of m) m.skip
      by_turn (Label l) j y m w =
          let z : label_of j l (reached_by (targets_of rest) (targets_of made) l) ≡ m = cc in
          subst (λ (x : Made). Step ids made rest st j (stmts_of x) x.skip) z (label_step j l y)
      by_turn Marker j y m w = other_step Marker j (forgotten temp s) (forgotten_sure N (suc (suc (suc (suc k)))) temp s h) y y m w
      by_turn Plain j y m w = other_step Plain j s h y y m w
      by_turn (Jump l) j y m w = other_step (Jump l) j s h (jump_no_label st.op l y) y m w
      by_turn Exit j y m w = other_step Exit j s h y y m w
      by_turn Hook j y m w = other_step Hook j s h y y m w

      other_sure : (t : Turn) (j : Option PcodeLabel) (s : State) → Sure N (suc (suc (suc (suc k)))) s → Sure N k (at_other vars least j t st s).state
      other_sure t (Some l) s h = sure_less N k (suc (suc (suc (suc k)))) s (omega arith) h
      other_sure t Nothing s h = simplify_sure N vars k t st s h (fine_sits vars no_zero st f)

      label_sure : (b : Bool) → Sure N k (pick b (cleared s) s)
      label_sure true = cleared_sure N k s (sure_less N k (suc (suc (suc (suc k)))) s (omega arith) h)
      label_sure false = sure_less N k (suc (suc (suc (suc k)))) s (omega arith) h

      step_sure : (t : Turn) (j : Option PcodeLabel) (below above : List ℕ) → Sure N k (step_by vars temp below above least j t st s).state
      step_sure (Label l) j below above = label_sure (reached_by below above l)
      step_sure Marker j below above = other_sure Marker j (forgotten temp s) (forgotten_sure N (suc (suc (suc (suc k)))) temp s h)
      step_sure Plain j below above = other_sure Plain j s h
      step_sure (Jump l) j below above = other_sure (Jump l) j s h
      step_sure Exit j below above = other_sure Exit j s h
      step_sure Hook j below above = other_sure Hook j s h

  module _ (temp : List ℕ) (block : List Stmt) where
    abbrev env : Env
    env = record { vars = vars; temp = temp; block = block }

    step_of_lem : (w : Walk) (st : Stmt) (rest : List Stmt) (k : ℕ) → Sure N (suc (suc (suc (suc k)))) w.state → Fine ids st → (m : Made) → (step_of env rest w st).made ≡ Ok m
        → Step ids w.made rest st w.skip (stmts_of m) m.skip
    unfolding step_of
    step_of_lem w st rest k h f m y =
        by_turn w.made rest st f (least_of env w.made) (least_of_low (all_ids block) (all_ids w.made)) k temp w.state h (turn_of st.op) w.skip (turn_says st.op) m y

    sure_of : (w : Walk) (st : Stmt) (rest : List Stmt) (k : ℕ) → Sure N (suc (suc (suc (suc k)))) w.state → Fine ids st → Sure N k (step_of env rest w st).state
    unfolding step_of
    sure_of w st rest k h f =
        step_sure w.made rest st f (least_of env w.made) (least_of_low (all_ids block) (all_ids w.made)) k temp w.state h (turn_of st.op) w.skip (targets_of rest) (targets_of w.made)

    -- a walk that is not refused
    pub record Walked (w : Walk) (rest l : List Stmt) : Type 0 where
      pub out : List Stmt
      pub is : w.made ++ out ≡ l
      pub walk : Walks ids w.made w.skip rest out

    pub walked : (i : ℕ) (w : Walk) (rest l : List Stmt) → Sure N (4 * length rest) w.state → AllFine ids rest → walk_from env i w rest ≡ gives l → Walked w rest l
    unfolding walk_from
    walked i w [] l h f e = record { out = stmts_of (end_of w.skip); is = gives_same _ l e; walk = ends }
    walked i w (st ∷ rest) l h f e =
        let x = step_of env rest w st in
        let g = subst (λ (n : ℕ). Sure N n w.state) (four (length rest)) h in
        let y = fine_only x.made i (walk_from env (i + 1) (after_step w x) rest) l e in
        let r = walked (i + 1) (after_step w x) rest l (sure_of w st rest (4 * length rest) g f.0) f.1 y.next_is in
        let q : made_in x.made ≡ y.made = ap made_in y.is in
        record {
          out = stmts_of (made_in x.made) ++ r.out;
          is = sym (append_assoc w.made (stmts_of (made_in x.made)) r.out) ∙ r.is;
          walk = goes (subst (λ (m : Made). Step ids w.made rest st w.skip (stmts_of m) m.skip) (sym q) (step_of_lem w st rest (4 * length rest) g f.0 y.made y.is)) r.walk;
        }
      where
        four : (n : ℕ) → 4 * suc n ≡ suc (suc (suc (suc (4 * n))))
        four n = omega arith

  -- nothing is known at the start
  pub start_sure : (k : ℕ) → k ≤ 256 → N ≤ 48 → Sure N k start_state
  unfolding zeros
  start_sure k h w =
      let a = length-replicate {A = ℕ} 6144 0 in
      let b = length-replicate {A = ℕ} 48 0 in
      let c = length-replicate {A = ℕ} 33536 0 in
      record {
        able = record { good = record { rows = a ∙ ap (λ (n : ℕ). 128 * n) (sym b); room = omega arith; inside = tt }; room = omega (arith, c, h); ids = omega (arith, h); rows = omega (arith, b) };
        wide = omega (arith, b, w);
        rows = tt;
      }
