-- A label: kept or gone, reached by a jump of both runs, by a skip of the pass, or from above.
use Rattle.std.proofs.Common.{Option, None as Nothing, Some, ℕ, ◌+◌, ◌≡◌, refl, sym, ap, ◌∙◌, Bool, true, false, List, [], ◌∷◌, ◌++◌, eqb-true, eq-eqb, ne_eqb, eqb, None as Next, Some as Jump}
use borrow.Author.Tests.{eqb-false}
use Rattle.pcode.specs.Var.{pick, same_label}
use Rattle.pcode.specs.Block.{stmt_of}
use Rattle.pcode.specs.declared.var.VarId.{VarId}
use Rattle.pcode.specs.declared.var.PcodeLabel.{PcodeLabel}
use Rattle.pcode.specs.declared.var.Operand.{Operand}
use Rattle.std.specs.declared.option.Option.TheVariants as Out
use Rattle.pcode.specs.declared.op.Op.{Op}
use Rattle.pcode.specs.declared.op.Op.TheVariants as Ops
use Rattle.pcode.specs.declared.block.Stmt.{Stmt}
use Rattle.pcode.specs.declared.block.Marks.{Marks}
use Rattle.vars.specs.Vars.{held_ids}
use Rattle.vars.specs.declared.Vars.{Vars}
use Rattle.vars.proofs.Rows.{ways}
use Rattle.checks.specs.Labels.{is_label}
use Rattle.const_eval.specs.State as Known
use Rattle.const_eval.specs.State.{cleared}
use Rattle.widen.specs.declared.widen.Made.{Made}
use Rattle.widen.specs.Widen.{nothing_m}
use Rattle.const_step.specs.Labels.{targets_of, has_target, branch_of, label_stmt, kept_label, label_of}
use Rattle.const_prop.specs.Pass.{stmts_of}
use Rattle.step.specs.declared.Act.TheVariants as Act
use Rattle.step.specs.Steps.{Flow}
use Rattle.run.specs.Run.{arrived}
use Rattle.alike.proofs.Havoc.{State, value_by, put_by, Holding, reached, rough, run_by}
use Rattle.alike.proofs.Parts.{Bytewise, put_agree, put_bytes}
use Rattle.first_alike.proofs.Valid.{Valid, valid_same, cleared_valid}
use Rattle.first_alike.proofs.Pairs.{Alike, Pair, moved, stood, added, run_step}
use Rattle.first_alike.proofs.Turns.{Stands, along, ahead, off, Goes, target_more, target_last}

-- of the operation of each of some statements
unfoldable pub Each : (Op → Type 0) → List Stmt → Type 0
Each P [] = Unit {0}
Each P (s ∷ ss) = P s.op × Each P ss

-- none of some statements is the label l
abbrev pub Passes : PcodeLabel → List Stmt → Type 0
Passes l ss = Each (λ op. is_label op l ≡ false) ss

pub label_sym : (l m : PcodeLabel) → same_label l m ≡ same_label m l
label_sym l m = ways (eqb l.0 m.0) (λ e. e ∙ sym (eq-eqb m.0 l.0 (sym (eqb-true l.0 m.0 e)))) (λ e. e ∙ sym (ne_eqb m.0 l.0 (λ q. eqb-false l.0 m.0 e (sym q))))

module _ (ms : Marks) (answers : List ℕ) (floor : VarId) (vars : Vars) where
  abbrev ids : List VarId
  ids = held_ids vars

  -- a jump passes over a statement
  pub jump_step : (u : ℕ → State) (st : Stmt) (rest : List Stmt) (l : PcodeLabel) (h : Holding) → run_by ms answers (rough u) (st ∷ rest) (Jump l) h ≡ run_by ms answers (rough u) rest (arrived l st.op) h
  unfolding run_by
  jump_step u st rest l h = refl

  pub jump_over : (u : ℕ → State) (new tail : List Stmt) (l : PcodeLabel) (h : Holding) → Passes l new → run_by ms answers (rough u) (new ++ tail) (Jump l) h ≡ run_by ms answers (rough u) tail (Jump l) h
  unfolding Each
  jump_over u [] tail l h p = refl
  jump_over u (s ∷ new) tail l h p =
      jump_step u s (new ++ tail) l h ∙ ap (λ (b : Bool). run_by ms answers (rough u) (new ++ tail) (pick b Next (Jump l)) h) p.0 ∙ jump_over u new tail l h p.1

  module _ (u : ℕ → State) (calm : (n : ℕ) → Bytewise (u n)) (m : PcodeLabel) (a b : Operand) (h g : Holding) (p : Pair ms answers floor h g) (done : List Stmt) (K : Known.State) where
    abbrev st : Stmt
    st = stmt_of (Ops.PcodeLabel m) Out.None a b

    abbrev rests : Holding → Holding
    rests x = reached (put_by x.bytes Out.None 0) Act.Nothing x

    same_put : (s : State) (id : VarId) (i : ℕ) → s id i ≡ put_by s Out.None 0 id i
    unfolding put_by
    same_put s id i = refl

    abbrev GoesFor : Flow → Flow → Made → Known.State → Type 0
    GoesFor f f₁ x L = Goes ms answers floor vars u st f h (stmts_of x) f₁ g x.skip (done ++ stmts_of x) L

    -- from above
    pub label_along : (kept : Bool) → Valid ids K h.bytes
        → Goes ms answers floor vars u st Next h (stmts_of (label_of Nothing m kept)) Next g (label_of Nothing m kept).skip (done ++ stmts_of (label_of Nothing m kept)) (pick kept (cleared K) K)
    label_along true v =
        record {
          sights = [];
          on = u;
          calm = calm;
          flow = Next;
          flow₁ = Next;
          after = rests h;
          after₁ = rests g;
          one = λ rest. run_step ms answers floor u st rest h (value_by h.bytes a) (value_by h.bytes b) refl refl;
          two = λ tail. run_step ms answers floor u (label_stmt m) tail g 0 0 refl refl;
          pair =
              moved ms answers floor h g (put_by h.bytes Out.None 0) (put_by g.bytes Out.None 0) Act.Nothing Act.Nothing p
              (λ id r i. put_agree h.bytes g.bytes Out.None 0 id i (λ n. p.bytes id r i)) (put_bytes h.bytes Out.None 0 p.bytewise) p.loads;
          stands = along refl (cleared_valid ids K (put_by h.bytes Out.None 0));
        }
    label_along false v =
        record {
          sights = [];
          on = u;
          calm = calm;
          flow = Next;
          flow₁ = Next;
          after = rests h;
          after₁ = g;
          one = λ rest. run_step ms answers floor u st rest h (value_by h.bytes a) (value_by h.bytes b) refl refl;
          two = λ tail. refl;
          pair =
              stood ms answers floor h g (put_by h.bytes Out.None 0) Act.Nothing p (λ id r i. sym (same_put h.bytes id i)) (put_bytes h.bytes Out.None 0 p.bytewise) refl;
          stands = along refl (valid_same ids K h.bytes (put_by h.bytes Out.None 0) v (same_put h.bytes));
        }

    -- the first run arrives, or jumps on
    here : (l : PcodeLabel) (t : Bool) → same_label l m ≡ t → (rest : List Stmt) → run_by ms answers (rough u) (st ∷ rest) (Jump l) h ≡ run_by ms answers (rough u) rest (pick t Next (Jump l)) h
    here l t e rest = jump_step u st rest l h ∙ ap (λ (x : Bool). run_by ms answers (rough u) rest (pick x Next (Jump l)) h) (label_sym m l ∙ e)

    quiet : (x : Holding) → Alike ms answers floor (put_by x.bytes Out.None 0) x.bytes
    quiet x id r i = sym (same_put x.bytes id i)

    -- by a skip
    pub label_ahead : (l : PcodeLabel) (kept t : Bool) → same_label l m ≡ t → Valid ids K h.bytes
        → GoesFor (Jump l) Next (pick kept (kept_label (pick t Nothing (Some l)) m) (nothing_m (pick t Nothing (Some l)))) (pick kept (cleared K) K)
    label_ahead l true true e v =
        record {
          sights = [];
          on = u;
          calm = calm;
          flow = Next;
          flow₁ = Next;
          after = h;
          after₁ = rests g;
          one = here l true e;
          two = λ tail. run_step ms answers floor u (label_stmt m) tail g 0 0 refl refl;
          pair = added ms answers floor h g (put_by g.bytes Out.None 0) Act.Nothing p (quiet g) h.loads p.loads;
          stands = along refl (cleared_valid ids K h.bytes);
        }
    label_ahead l true false e v =
        record {
          sights = [];
          on = u;
          calm = calm;
          flow = Jump l;
          flow₁ = Jump l;
          after = h;
          after₁ = reached (put_by g.bytes Out.None 0) (Act.Jumps l) g;
          one = here l false e;
          two = λ tail.
              run_step ms answers floor u (branch_of l) (label_stmt m ∷ tail) g 1 0 refl refl
              ∙ jump_step u (label_stmt m) tail l (reached (put_by g.bytes Out.None 0) (Act.Jumps l) g)
              ∙ ap (λ (x : Bool). run_by ms answers (rough u) tail (pick x Next (Jump l)) (reached (put_by g.bytes Out.None 0) (Act.Jumps l) g)) (label_sym m l ∙ e);
          pair = added ms answers floor h g (put_by g.bytes Out.None 0) (Act.Jumps l) p (quiet g) h.loads p.loads;
          stands = off l (target_last done (branch_of l) (label_stmt m ∷ []));
        }
    label_ahead l false true e v =
        record {
          sights = [];
          on = u;
          calm = calm;
          flow = Next;
          flow₁ = Next;
          after = h;
          after₁ = g;
          one = here l true e;
          two = λ tail. refl;
          pair = p;
          stands = along refl v;
        }
    label_ahead l false false e v =
        record {
          sights = [];
          on = u;
          calm = calm;
          flow = Jump l;
          flow₁ = Next;
          after = h;
          after₁ = g;
          one = here l false e;
          two = λ tail. refl;
          pair = p;
          stands = ahead l refl v;
        }

    -- the result's label ends both jumps
    pub label_meets : (l : PcodeLabel) (k : Option PcodeLabel) → same_label l m ≡ true → GoesFor (Jump l) (Jump l) (kept_label k m) (cleared K)
    label_meets l k e =
        record {
          sights = [];
          on = u;
          calm = calm;
          flow = Next;
          flow₁ = Next;
          after = h;
          after₁ = g;
          one = here l true e;
          two = meets k;
          pair = p;
          stands = stands_at k;
        }
      where
        last : (tail : List Stmt) → run_by ms answers (rough u) (label_stmt m ∷ tail) (Jump l) g ≡ run_by ms answers (rough u) tail Next g
        last tail = jump_step u (label_stmt m) tail l g ∙ ap (λ (x : Bool). run_by ms answers (rough u) tail (pick x Next (Jump l)) g) (label_sym m l ∙ e)

        meets : (k : Option PcodeLabel) (tail : List Stmt) → run_by ms answers (rough u) (stmts_of (kept_label k m) ++ tail) (Jump l) g ≡ run_by ms answers (rough u) tail Next g
        meets Nothing tail = last tail
        meets (Some t) tail = jump_step u (branch_of t) (label_stmt m ∷ tail) l g ∙ last tail

        stands_at : (k : Option PcodeLabel) → Stands ids (kept_label k m).skip (done ++ stmts_of (kept_label k m)) (cleared K) h.bytes Next Next
        stands_at Nothing = along refl (cleared_valid ids K h.bytes)
        stands_at (Some t) = along refl (cleared_valid ids K h.bytes)

    -- another label
    pub label_off : (l : PcodeLabel) (x : Made) (L : Known.State) → same_label l m ≡ false → Passes l (stmts_of x) → has_target (targets_of done) (1 + l.0) ≡ true
        → GoesFor (Jump l) (Jump l) x L
    label_off l x L e q r =
        record {
          sights = [];
          on = u;
          calm = calm;
          flow = Jump l;
          flow₁ = Jump l;
          after = h;
          after₁ = g;
          one = here l false e;
          two = λ tail. jump_over u (stmts_of x) tail l g q;
          pair = p;
          stands = off l (target_more done (stmts_of x) (1 + l.0) r);
        }

    pub label_passes : (l : PcodeLabel) (kept : Bool) (k : Option PcodeLabel) → same_label l m ≡ false → Passes l (stmts_of (pick kept (kept_label k m) (nothing_m k)))
    unfolding Each
    label_passes l false k e = tt
    label_passes l true Nothing e = (label_sym m l ∙ e, tt)
    label_passes l true (Some t) e = (refl, (label_sym m l ∙ e, tt))
