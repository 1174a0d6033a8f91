-- Every kept label stands once, and a branch of the result finds its label in the result: what holds throughout the walk.
use Rattle.std.proofs.Common.{Option, None as Nothing, Some, ◌+◌, ◌≡◌, refl, sym, ◌∙◌, ap, subst, Bool, true, false, not, true≢false, List, [], ◌∷◌, ◌++◌, append_assoc, append-nil}
use Rattle.pcode.specs.Var.{pick, same_label}
use Rattle.pcode.specs.declared.var.VarId.{VarId}
use Rattle.pcode.specs.declared.var.PcodeLabel.{PcodeLabel as Label}
use Rattle.pcode.specs.declared.op.Op.TheVariants as Ops
use Rattle.pcode.specs.declared.block.Stmt.{Stmt}
use Rattle.pcode.proofs.Ids.{same_label_refl}
use Rattle.vars.proofs.Rows.{ways}
use Rattle.checks.specs.Labels.{has_label, good_label}
use Rattle.const_step.specs.Labels.{has_target, targets_of, reached_by, branch_of, label_stmt, arrives_of, end_of}
use Rattle.const_prop.specs.Pass.{stmts_of}
use Rattle.alike.proofs.Bools.{or_none_left, or_none_right, not_true}
use Rattle.alike.proofs.Kept.{AllPass}
use Rattle.first_checked.proofs.Gives.{Gives, drops, skips, copies, stays, widens}
use Rattle.first_checked.proofs.Walk.{Step, turns, passes, lost, kept, meets, Walks, ends, goes}
use Rattle.first_checked.proofs.Targets.{Has, Aims, has_left, has_right, has_split, has_none, aims_right, aims_split, aims_here, aims_one, aims_none, has_label_lem, label_is, no_label, once, pass_append, branch_same, label_no_branch, gives_labels, gives_once, gives_branch}

-- a label stands in the result so far, or in the rest
pub data Found (made rest : List Stmt) (t : Label) : Type 0 where
  up : Has made t → Found made rest t
  down : Has rest t → Found made rest t

abbrev pub Leads : List Stmt → List Stmt → Option Label → Type 0
Leads made rest Nothing = Unit {0}
Leads made rest (Some t) = Found made rest t

module _ (block : List Stmt) where
  -- what holds after the statements above, before the rest
  pub record Keeps (above made : List Stmt) (k : Option Label) (rest : List Stmt) : Type 0 where
    pub whole : above ++ rest ≡ block
    pub sub : (t : Label) → Has made t → Has above t
    pub back : (t : Label) → Aims rest t → Has above t → Has made t
    pub ahead : (t : Label) → Aims made t → Found made rest t
    pub leads : Leads made rest k
    pub single : AllPass once [] made

  module _ (above made rest : List Stmt) (st : Stmt) (k : Option Label) (h : Keeps above made k (st ∷ rest)) where
    next_whole : (above ++ (st ∷ [])) ++ rest ≡ block
    next_whole = append_assoc above (st ∷ []) rest ∙ h.whole

    -- a branch of the block finds its label
    aimed : (t : Label) → good_label block above st.op ≡ true → st.op ≡ Ops.PcodeBranch t → Found made (st ∷ rest) t
    aimed t g e =
        let q : Has (above ++ (st ∷ rest)) t = ap (λ (x : List Stmt). has_label x t) h.whole ∙ sym (ap (good_label block above) e) ∙ g in
        has_split above (st ∷ rest) t q (λ p. up (h.back t (aims_here st rest t e) p)) (λ p. down p)

    -- the statements given have the statement's label
    module _ (ss : List Stmt) (j : Option Label) (lab : (t : Label) → Has (st ∷ []) t → Has ss t) where
      shift : (t : Label) → Found made (st ∷ rest) t → Found (made ++ ss) rest t
      shift t (up p) = up (has_left made ss t p)
      shift t (down p) = has_split (st ∷ []) rest t p (λ q. up (has_right made ss t (lab t q))) (λ q. down q)

      lead_on : (j : Option Label) → Leads made (st ∷ rest) j → Leads (made ++ ss) rest j
      lead_on Nothing l = tt
      lead_on (Some t) l = shift t l

      grown : ((t : Label) → Has ss t → Has (st ∷ []) t) → ((t : Label) → Aims ss t → Found made (st ∷ rest) t) → Leads made (st ∷ rest) j → AllPass once made ss
          → Keeps (above ++ (st ∷ [])) (made ++ ss) j rest
      grown new aim lead one =
          record {
            whole = next_whole;
            sub = λ t p. has_split made ss t p (λ q. has_left above (st ∷ []) t (h.sub t q)) (λ q. has_right above (st ∷ []) t (new t q));
            back = λ t a p. has_split above (st ∷ []) t p (λ q. has_left made ss t (h.back t (aims_right (st ∷ []) rest t a) q)) (λ q. has_right made ss t (lab t q));
            ahead = λ t a. shift t (aims_split made ss t a (h.ahead t) (aim t));
            leads = lead_on j lead;
            single = pass_append once [] made ss h.single one;
          }

    module _ (good : good_label block above st.op ≡ true) where
      gives_leads : {ids : List VarId} {ss : List Stmt} {j : Option Label} → Gives ids st ss j → Leads made (st ∷ rest) j
      gives_leads drops = tt
      gives_leads (skips l e) = aimed l good e
      gives_leads (copies s c e f) = tt
      gives_leads (stays s e f) = tt
      gives_leads (widens x s z c e g f i) = tt

      -- a label of the block has not stood yet
      module _ (l : Label) (e : st.op ≡ Ops.PcodeLabel l) where
        not_above : Has above l → ⊥
        not_above p = true≢false (sym p ∙ not_true (has_label above l) (sym (ap (good_label block above) e) ∙ good))

        not_made : has_label made l ≡ false
        not_made = ways (has_label made l) (λ p. absurd (not_above (h.sub l p))) (λ p. p)

        -- it is not kept: nothing branches to it
        module _ (r : reached_by (targets_of rest) (targets_of made) l ≡ false) where
          not_aimed : (t : Label) → Aims made t → Has (st ∷ []) t → ⊥
          not_aimed t a p =
              let q = label_is st l t e p in
              true≢false (sym (subst (Aims made) (sym q) a) ∙ or_none_left (has_target (targets_of made) (1 + l.0)) (has_target (targets_of rest) (1 + l.0)) r)

          not_below : (t : Label) → Aims rest t → Has (st ∷ []) t → ⊥
          not_below t a p =
              let q = label_is st l t e p in
              true≢false (sym (subst (Aims rest) (sym q) a) ∙ or_none_right (has_target (targets_of made) (1 + l.0)) (has_target (targets_of rest) (1 + l.0)) r)

          past : (t : Label) → (Has (st ∷ []) t → ⊥) → Found made (st ∷ rest) t → Found made rest t
          past t n (up p) = up p
          past t n (down p) = has_split (st ∷ []) rest t p (λ q. absurd (n q)) (λ q. down q)

          arrives : (k : Option Label) → Leads made (st ∷ rest) k → Leads made rest (arrives_of k l)
          arrives Nothing q = tt
          arrives (Some t) q = go (same_label t l) refl
            where
              go : (b : Bool) → same_label t l ≡ b → Leads made rest (pick b Nothing (Some t))
              go true z = tt
              go false z = past t (λ p. true≢false (sym (same_label_refl l) ∙ ap (λ (x : Label). same_label x l) (label_is st l t e p) ∙ z)) q

          lost_keeps : Keeps (above ++ (st ∷ [])) made (arrives_of k l) rest
          lost_keeps =
              record {
                whole = next_whole;
                sub = λ t p. has_left above (st ∷ []) t (h.sub t p);
                back = λ t a p. has_split above (st ∷ []) t p (h.back t (aims_right (st ∷ []) rest t a)) (λ q. absurd (not_below t a q));
                ahead = λ t a. past t (not_aimed t a) (h.ahead t a);
                leads = arrives k h.leads;
                single = h.single;
              }

        -- it is kept, with what comes before it
        module _ (pre : List Stmt) (bare : (t : Label) → Has pre t → ⊥) (aim : (t : Label) → Aims pre t → Found made (st ∷ rest) t) (one : AllPass once made pre) where
          same_label_lem : (t : Label) → Has (st ∷ []) t → Has (pre ++ (label_stmt l ∷ [])) t
          same_label_lem t p = has_right pre (label_stmt l ∷ []) t (subst (Has (label_stmt l ∷ [])) (label_is st l t e p) (has_label_lem (label_stmt l) l refl))

          new_label : (t : Label) → Has (pre ++ (label_stmt l ∷ [])) t → Has (st ∷ []) t
          new_label t p = has_split pre (label_stmt l ∷ []) t p (λ q. absurd (bare t q)) (λ q. subst (Has (st ∷ [])) (label_is (label_stmt l) l t refl q) (has_label_lem st l e))

          fresh : not (has_label (made ++ pre) l) ≡ true
          fresh =
              ways (has_label (made ++ pre) l)
              (λ p. absurd (has_split made pre l p (λ q. true≢false (sym q ∙ not_made)) (bare l)))
              (λ p. ap not p)

          kept_keeps : Keeps (above ++ (st ∷ [])) (made ++ (pre ++ (label_stmt l ∷ []))) Nothing rest
          kept_keeps =
              grown (pre ++ (label_stmt l ∷ [])) Nothing same_label_lem new_label
              (λ t a. aims_split pre (label_stmt l ∷ []) t a (aim t) (λ q. absurd (label_no_branch l t (aims_one (label_stmt l) t q))))
              tt
              (pass_append once made pre (label_stmt l ∷ []) one (fresh, tt))

  branch_alone : (made rest : List Stmt) (x t : Label) → Found made rest x → Aims (branch_of x ∷ []) t → Found made rest t
  branch_alone made rest x t f a = subst (Found made rest) (branch_same x t (aims_one (branch_of x) t a)) f

  pub step_keeps : (ids : List VarId) (above made rest ss : List Stmt) (st : Stmt) (k j : Option Label) → Keeps above made k (st ∷ rest) → good_label block above st.op ≡ true
      → Step ids made rest st k ss j → Keeps (above ++ (st ∷ [])) (made ++ ss) j rest
  step_keeps ids above made rest ss st k j h g (turns n v) =
      grown above made rest st k h ss j (λ t q. absurd (no_label st t n q)) (λ t q. absurd (gives_labels v n t q))
      (λ t a. aimed above made rest st k h t g (gives_branch v t a))
      (gives_leads above made rest st k h g v)
      (gives_once v n made)
  step_keeps ids above made rest ss st k j h g (passes n) =
      grown above made rest st k h [] k (λ t q. absurd (no_label st t n q)) (λ t q. absurd (has_none t q)) (λ t a. absurd (aims_none t a)) h.leads tt
  step_keeps ids above made rest ss st k j h g (lost {l = l} e r) =
      subst (λ (x : List Stmt). Keeps (above ++ (st ∷ [])) x (arrives_of k l) rest) (sym (append-nil made)) (lost_keeps above made rest st k h g l e r)
  step_keeps ids above made rest ss st k j h g (kept {l = l} e) =
      kept_keeps above made rest st k h g l e [] has_none (λ t a. absurd (aims_none t a)) tt
  step_keeps ids above made rest ss st k j h g (meets {t = x} {l = l} e q) =
      kept_keeps above made rest st k h g l e (branch_of x ∷ []) (λ t p. no_label (branch_of x) t (λ u. refl) p) (λ t a. branch_alone made (st ∷ rest) x t h.leads a) (refl, tt)

  -- the whole walk, with more that each step keeps
  module _ (ids : List VarId) (More : List Stmt → List Stmt → Option Label → List Stmt → Type 0)
      (step : (above made rest ss : List Stmt) (st : Stmt) (k j : Option Label) → Keeps above made k (st ∷ rest) → good_label block above st.op ≡ true → More above made k (st ∷ rest)
      → Step ids made rest st k ss j → More (above ++ (st ∷ [])) (made ++ ss) j rest) where
    -- after the last statement
    pub record Last (l : List Stmt) : Type 0 where
      pub above : List Stmt
      pub made : List Stmt
      pub skip : Option Label
      pub keeps : Keeps above made skip []
      pub more : More above made skip []
      pub is : made ++ stmts_of (end_of skip) ≡ l

    pub last : {made rest out : List Stmt} {k : Option Label} → Walks ids made k rest out → (above : List Stmt) → Keeps above made k rest → AllPass (good_label block) above rest → More above made k rest
        → Last (made ++ out)
    last (ends {made = made} {k = k}) above h g m = record { above = above; made = made; skip = k; keeps = h; more = m; is = refl }
    last (goes {made = made} {rest = rest} {ss = ss} {out = out} {st = st} {k = k} {j = j} s w) above h g m =
        subst Last (append_assoc made ss out)
        (last w (above ++ (st ∷ [])) (step_keeps ids above made rest ss st k j h g.0 s) g.1 (step above made rest ss st k j h g.0 m s))
