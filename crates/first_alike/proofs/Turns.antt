-- One statement that the pass does not skip: the two runs go on alike.
use Rattle.std.proofs.Common.{Option, None as Nothing, Some, Result, Ok, Err, ℕ, ◌+◌, ◌*◌, ◌≤◌, arith, mod-eq_of_lt, ◌≡◌, refl, sym, ap, ap₂, ◌∙◌, subst, Bool, true, false, ◌||◌, List, [], ◌∷◌, ◌++◌, eq-eqb, eqb, length, None as Next, Some as Jump}
use Rattle.pcode.specs.Var.{pick, same_id, less_id, below_id, size_of}
use Rattle.pcode.specs.Block.{has_id, lasting, stmt_of}
use Rattle.pcode.specs.declared.var.VarId.{VarId}
use Rattle.pcode.specs.declared.var.PcodeLabel.{PcodeLabel}
use Rattle.pcode.specs.declared.var.Operand.{Operand}
use Rattle.std.specs.declared.option.Option.TheVariants as Out
use Rattle.pcode.specs.declared.op.Op.{Op}
use Rattle.pcode.specs.declared.block.Stmt.{Stmt}
use Rattle.pcode.specs.declared.block.Marks.{Marks}
use Rattle.vars.specs.Vars.{held_ids}
use Rattle.vars.specs.declared.Vars.{Vars}
use Rattle.bit_vec.specs.Lists.{bits}
use Rattle.bit_vec.specs.Known.{const_of}
use Rattle.const_eval.specs.State as Known
use Rattle.uses.specs.Operands.{operand_bits}
use Rattle.simplify.specs.Simplify.{used_both, replaced_of}
use Rattle.widen.specs.Widen.{made_of}
use Rattle.eval.specs.declared.EvalError.{EvalError}
use Rattle.widen.specs.declared.simple.Simple.{Simple}
use Rattle.widen.specs.declared.simple.Simple.TheVariants as Simples
use Rattle.const_step.specs.Labels.{target_of, targets_of, has_target}
use Rattle.step.specs.Steps.{act_of, flow_of}
use Rattle.step.specs.declared.Act.{Act}
use Rattle.step.specs.Steps.{Flow}
use Rattle.alike.proofs.Havoc.{State, value_by, put_by, view, Sight, taken, Holding, rough, run_by}
use Rattle.alike.proofs.Parts.{Bytewise, put_bytes}
use Rattle.first_alike.proofs.Valid.{Valid, valid_same}
use Rattle.first_alike.proofs.Uses.{Stage}
use Rattle.first_alike.proofs.Operands.{operand_holds, const_value, value_small}
use Rattle.first_alike.proofs.Settled.{Fair}
use Rattle.first_alike.proofs.Pairs.{Real, Pair, stood, onward, onward_bytes}
use Rattle.first_alike.proofs.Effects.{Effect, step_by, seen_by, left, kept_effect}
use Rattle.first_alike.proofs.Prepared.{Sits, both_first, both_valid, first_stead, second_stead}
use Rattle.first_alike.proofs.Outputs.{IsFine, known_real}

-- where the two runs stand: both go on where the pass does; the first jumps where the pass skips; both jump to a label that the result branches to
pub data Stands (ids : List VarId) (skip : Option PcodeLabel) (made : List Stmt) (K : Known.State) (s : State) : Flow → Flow → Type 0 where
  along : skip ≡ Nothing → Valid ids K s → Stands ids skip made K s Next Next
  ahead : (l : PcodeLabel) → skip ≡ Some l → Valid ids K s → Stands ids skip made K s (Jump l) Next
  off : (l : PcodeLabel) → has_target (targets_of made) (1 + l.0) ≡ true → Stands ids skip made K s (Jump l) (Jump l)

-- a branch among some statements is among more
pub target_more : (ss ts : List Stmt) (t : ℕ) → has_target (targets_of ss) t ≡ true → has_target (targets_of (ss ++ ts)) t ≡ true
unfolding has_target
target_more [] ts t h = absurd (let z : ◌≡◌ {A = ℕ} 0 1 = cc in omega arith)
target_more (s ∷ ss) ts t h = go (eqb (target_of s) t) (target_more ss ts t) h
  where
    go : (b : Bool) → (has_target (targets_of ss) t ≡ true → has_target (targets_of (ss ++ ts)) t ≡ true) → (b || has_target (targets_of ss) t) ≡ true → (b || has_target (targets_of (ss ++ ts)) t) ≡ true
    go true f q = refl
    go false f q = f q

pub target_last : (ss : List Stmt) (s : Stmt) (ts : List Stmt) → has_target (targets_of (ss ++ s ∷ ts)) (target_of s) ≡ true
unfolding has_target
target_last [] s ts = ap (λ (b : Bool). b || has_target (targets_of ts) (target_of s)) (eq-eqb (target_of s) (target_of s) refl)
target_last (x ∷ ss) s ts = go (eqb (target_of x) (target_of s)) (target_last ss s ts)
  where
    go : (b : Bool) → has_target (targets_of (ss ++ s ∷ ts)) (target_of s) ≡ true → (b || has_target (targets_of (ss ++ s ∷ ts)) (target_of s)) ≡ true
    go true q = refl
    go false q = q

-- a statement that is not refused
pub fine_fair : (store : List ℕ) (vars : Vars) (m : Result Simple EvalError) (least : VarId) → IsFine (made_of store vars m least) → Fair m
fine_fair store vars (Ok Simples.Dropped) least f = tt
fine_fair store vars (Ok (Simples.Skips l)) least f = tt
fine_fair store vars (Ok (Simples.Copies o a)) least f = tt
fine_fair store vars (Ok (Simples.Stays r)) least f = tt
fine_fair store vars (Err e) least f = absurd f

module _ (ms : Marks) (answers : List ℕ) (floor : VarId) (vars : Vars) where
  abbrev ids : List VarId
  ids = held_ids vars

  -- the two runs over one statement and what the pass makes of it
  pub record Goes (u : ℕ → State) (st : Stmt) (f : Flow) (h : Holding) (new : List Stmt) (f₁ : Flow) (g : Holding) (skip : Option PcodeLabel) (made : List Stmt) (K : Known.State) : Type 0 where
    pub sights : List Sight
    pub on : ℕ → State
    pub calm : (n : ℕ) → Bytewise (on n)
    pub flow : Flow
    pub flow₁ : Flow
    pub after : Holding
    pub after₁ : Holding
    pub one : (rest : List Stmt) → run_by ms answers (rough u) (st ∷ rest) f h ≡ sights ++ run_by ms answers (rough on) rest flow after
    pub two : (tail : List Stmt) → run_by ms answers (rough u) (new ++ tail) f₁ g ≡ sights ++ run_by ms answers (rough on) tail flow₁ after₁
    pub pair : Pair ms answers floor after after₁
    pub stands : Stands ids skip made K after.bytes flow flow₁

  pub goes_effect : (act : Act) (u : ℕ → State) (st : Stmt) (h g : Holding) (new : List Stmt) (skip : Option PcodeLabel) (made : List Stmt) (K : Known.State) → ((n : ℕ) → Bytewise (u n)) → act_of st.op ≡ act
      → Effect ms answers floor act u st new h g
      → Stands ids skip made K (step_by ms answers floor act u st h).bytes (flow_of act (value_by h.bytes st.first)) (flow_of act (value_by h.bytes st.first))
      → Goes u st Next h new Next g skip made K
  goes_effect act u st h g new skip made K b e f s =
      record {
        sights = seen_by ms answers floor act st h;
        on = onward ms answers floor act u;
        calm = onward_bytes ms answers floor act u b;
        flow = flow_of act (value_by h.bytes st.first);
        flow₁ = flow_of act (value_by h.bytes st.first);
        after = step_by ms answers floor act u st h;
        after₁ = f.other;
        one = λ rest. left ms answers floor act u st rest h e;
        two = f.right;
        pair = f.pair;
        stands = s;
      }

  module _ (few : length (held_ids vars) ≤ 48) (real : (id : VarId) → lasting ms id ≡ true → Real ms answers floor id) (real_ids : (id : VarId) → has_id (held_ids vars) id ≡ true → Real ms answers floor id)
      (u : ℕ → State) (calm : (n : ℕ) → Bytewise (u n)) (h g : Holding) (p : Pair ms answers floor h g) (done : List Stmt) (least : VarId)
      (under : same_id (below_id least) least ≡ false → less_id (below_id least) floor ≡ true) (k : ℕ) (a b : Operand) (op : Op) where
    -- without an output
    module _ (sits : Sits ids (stmt_of op Out.None a b)) (K : Known.State) (stage : Stage ids (k + 4) K) (v : Valid ids K h.bytes) where
      abbrev st : Stmt
      st = stmt_of op Out.None a b

      abbrev new : Stmt
      new = replaced_of vars st K

      pub keeps : (act : Act) → act_of op ≡ act → Effect ms answers floor act u st (new ∷ []) h g
      keeps act e =
          let sa = first_stead vars few st sits k K stage h.bytes p.bytewise v in
          let sb = second_stead vars few st sits k K stage h.bytes p.bytewise v in
          kept_effect ms answers floor real u (calm 0) op act e a b new.first new.second h g p sa.value sb.value sa.size
          (known_real ms answers floor real ids real_ids new.first sa.known) (known_real ms answers floor real ids real_ids new.second sb.known) sa.in_row sb.in_row Out.None

      same_put : (s : State) (x : ℕ) (id : VarId) (i : ℕ) → s id i ≡ put_by s Out.None x id i
      unfolding put_by
      same_put s x id i = refl

      after_valid : (x : ℕ) → Valid ids (used_both vars st K) (put_by h.bytes Out.None x)
      after_valid x = valid_same ids (used_both vars st K) h.bytes (put_by h.bytes Out.None x) (both_valid vars few st sits k K stage h.bytes p.bytewise v) (same_put h.bytes x)

      -- a load or an operation without an output, a store, an exit that is kept
      pub stays_load : (n : ℕ) → act_of op ≡ Act.Loads n → Goes u st Next h (new ∷ []) Next g Nothing (done ++ new ∷ []) (used_both vars st K)
      stays_load n e = goes_effect (Act.Loads n) u st h g (new ∷ []) Nothing (done ++ new ∷ []) (used_both vars st K) calm e (keeps (Act.Loads n) e) (along refl (after_valid _))

      pub stays_store : (n : ℕ) → act_of op ≡ Act.Stores n → Goes u st Next h (new ∷ []) Next g Nothing (done ++ new ∷ []) (used_both vars st K)
      stays_store n e = goes_effect (Act.Stores n) u st h g (new ∷ []) Nothing (done ++ new ∷ []) (used_both vars st K) calm e (keeps (Act.Stores n) e) (along refl (after_valid _))

      pub stays_computes : act_of op ≡ Act.Computes → Goes u st Next h (new ∷ []) Next g Nothing (done ++ new ∷ []) (used_both vars st K)
      stays_computes e = goes_effect Act.Computes u st h g (new ∷ []) Nothing (done ++ new ∷ []) (used_both vars st K) calm e (keeps Act.Computes e) (along refl (after_valid _))

      pub stays_exit : (n : ℕ) → act_of op ≡ Act.Exits n → Goes u st Next h (new ∷ []) Next g Nothing (done ++ new ∷ []) (used_both vars st K)
      stays_exit n e = goes_effect (Act.Exits n) u st h g (new ∷ []) Nothing (done ++ new ∷ []) (used_both vars st K) calm e (keeps (Act.Exits n) e) (along refl (after_valid _))

      -- a branch that is kept
      pub stays_jump : (l : PcodeLabel) → act_of op ≡ Act.Jumps l → target_of new ≡ 1 + l.0 → Goes u st Next h (new ∷ []) Next g Nothing (done ++ new ∷ []) (used_both vars st K)
      stays_jump l e t =
          goes_effect (Act.Jumps l) u st h g (new ∷ []) Nothing (done ++ new ∷ []) (used_both vars st K) calm e (keeps (Act.Jumps l) e) (by (eqb (value_by h.bytes a) 0))
        where
          by : (z : Bool) → Stands ids Nothing (done ++ new ∷ []) (used_both vars st K) (put_by h.bytes Out.None 0) (pick z Next (Jump l)) (pick z Next (Jump l))
          by true = along refl (after_valid 0)
          by false = off l (subst (λ (n : ℕ). has_target (targets_of (done ++ new ∷ [])) n ≡ true) t (target_last done new []))

      -- the first operand's known constant is its value
      pub known_first : (c : ℕ) → const_of (bits (operand_bits vars a (used_both vars st K).store)) ≡ Some c → c ≡ value_by h.bytes a
      known_first c e =
          let w = both_valid vars few st sits k K stage h.bytes p.bytewise v in
          let x = operand_holds vars few w.values (used_both vars st K).used (used_both vars st K).store h.bytes p.bytewise (w.rows w.values (λ i l o. refl)) a
          sits.known.first sits.first_in (both_first vars few st sits k K stage) in
          const_value vars few w.values (operand_bits vars a (used_both vars st K).store) (8 * size_of a) (value_by h.bytes a) c x e
          ∙ mod-eq_of_lt (value_small h.bytes a p.bytewise)

      -- nothing is made of it, and the machine stays
      still : (act : Act) (skip : Option PcodeLabel) (f : Flow) → act_of op ≡ act → (step_by ms answers floor act u st h).bytes ≡ put_by h.bytes Out.None 0 → (step_by ms answers floor act u st h).loads ≡ h.loads
          → seen_by ms answers floor act st h ≡ [] → onward ms answers floor act u ≡ u → flow_of act (value_by h.bytes a) ≡ f
          → Stands ids skip (done ++ []) (used_both vars st K) (put_by h.bytes Out.None 0) f Next → Goes u st Next h [] Next g skip (done ++ []) (used_both vars st K)
      still act skip f e eb el es eo ef s =
          record {
            sights = [];
            on = u;
            calm = calm;
            flow = f;
            flow₁ = Next;
            after = step_by ms answers floor act u st h;
            after₁ = g;
            one = λ rest.
                left ms answers floor act u st rest h e
                ∙ ap₂ (λ (x : List Sight) (y : ℕ → State). x ++ run_by ms answers (rough y) rest (flow_of act (value_by h.bytes a)) (step_by ms answers floor act u st h)) es eo
                ∙ ap (λ (x : Flow). run_by ms answers (rough u) rest x (step_by ms answers floor act u st h)) ef;
            two = λ tail. refl;
            pair =
                stood ms answers floor h g (step_by ms answers floor act u st h).bytes act p
                (λ id r i. ap (λ (x : State). x id i) eb ∙ sym (same_put h.bytes 0 id i))
                (subst (λ (x : State). Bytewise x) (sym eb) (put_bytes h.bytes Out.None 0 p.bytewise)) el;
            stands = subst (λ (x : State). Stands ids skip (done ++ []) (used_both vars st K) x f Next) (sym eb) s;
          }

      -- a branch that is known not to be taken
      pub drops_jump : (l : PcodeLabel) → act_of op ≡ Act.Jumps l → 0 ≡ value_by h.bytes a → Goes u st Next h [] Next g Nothing (done ++ []) (used_both vars st K)
      drops_jump l e z =
          still (Act.Jumps l) Nothing Next e refl refl refl refl (ap (λ (x : ℕ). pick (eqb x 0) Next (Jump l)) (sym z)) (along refl (after_valid 0))

      -- a branch that is known to be taken
      pub skips_jump : (l : PcodeLabel) → act_of op ≡ Act.Jumps l → 1 ≡ value_by h.bytes a → Goes u st Next h [] Next g (Some l) (done ++ []) (used_both vars st K)
      skips_jump l e z =
          still (Act.Jumps l) (Some l) (Jump l) e refl refl refl refl (ap (λ (x : ℕ). pick (eqb x 0) Next (Jump l)) (sym z)) (ahead l refl (after_valid 0))

      -- an exit that is known not to be taken
      pub drops_exit : (n : ℕ) → act_of op ≡ Act.Exits n → 0 ≡ value_by h.bytes a → Goes u st Next h [] Next g Nothing (done ++ []) (used_both vars st K)
      drops_exit n e z =
          still (Act.Exits n) Nothing Next e refl refl (ap (λ (x : ℕ). seen_exit x) (sym z)) refl refl (along refl (after_valid 0))
        where
          seen_exit : ℕ → List Sight
          seen_exit x = pick (eqb x 0) [] (taken n (value_by h.bytes a) (value_by h.bytes b) (view ms h.bytes) ∷ [])
