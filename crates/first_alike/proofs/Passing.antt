-- One step of the walk from wherever the two runs stand: along the pass, ahead of it by a skip, or jumping together.
use Rattle.std.proofs.Common.{Option, None as Nothing, Some, Result, Ok, Err, ℕ, zero, suc, ◌+◌, ◌≤◌, arith, ◌≡◌, refl, sym, ap, ◌∙◌, subst, Bool, true, false, ◌||◌, List, [], ◌++◌, take, length, None as Next, Some as Jump}
use Rattle.pcode.specs.Var.{pick, same_label, same_id, less_id, below_id}
use Rattle.pcode.specs.Block.{has_id, lasting, stmt_of}
use Rattle.pcode.specs.Rules.{side_effects}
use Rattle.pcode.specs.declared.var.VarId.{VarId}
use Rattle.pcode.specs.declared.var.PcodeLabel.{PcodeLabel}
use Rattle.pcode.specs.declared.var.VarNode.{VarNode}
use Rattle.pcode.specs.declared.var.Operand.{Operand}
use Rattle.pcode.specs.declared.var.Operand.TheVariants.{None, Const, Var}
use Rattle.pcode.specs.Var.{Output}
use Rattle.std.specs.declared.option.Option.TheVariants as Out
use Rattle.pcode.specs.declared.op.OneOp.{OneOp}
use Rattle.pcode.specs.declared.op.OneOp.TheVariants.{Copy, ZeroExtend}
use Rattle.pcode.specs.declared.op.Op.{Op}
use Rattle.pcode.specs.declared.op.Op.TheVariants as Ops
use Rattle.pcode.specs.declared.block.Stmt.{Stmt}
use Rattle.pcode.specs.declared.block.Marks.{Marks}
use Rattle.pcode.proofs.Ids.{same_label_true}
use Rattle.vars.specs.Vars.{held_ids}
use Rattle.vars.specs.declared.Vars.{Vars}
use Rattle.vars.proofs.Rows.{ways}
use Rattle.bit_vec.specs.Lists.{bits}
use Rattle.bit_vec.specs.Known.{const_of}
use Rattle.checks.specs.Labels.{is_label}
use Rattle.const_eval.specs.State as Known
use Rattle.const_eval.specs.State.{first_use, forgotten, cleared}
use Rattle.settle.specs.Settle.{settled_of}
use Rattle.uses.specs.Operands.{place_of, operand_bits}
use Rattle.settle.specs.declared.Outcome.{Outcome as Fate}
use Rattle.settle.specs.declared.Outcome.TheVariants as Fates
use Rattle.simplify.specs.Simplify.{used_both, replaced_of, simple_by, plain_of, hook_of, turned, simplify_of}
use Rattle.widen.specs.Simple.{jump_of, exit_of}
use Rattle.widen.specs.Turn.{turn_call, turn_of}
use Rattle.widen.specs.Widen.{two_m, made_in, lowest, copied_of, added_of, kept_of, stays_of, widened_of, made_of}
use Rattle.widen.specs.declared.turn.Turn.{Turn}
use Rattle.widen.specs.declared.turn.Turn.TheVariants as Turns
use Rattle.eval.specs.declared.EvalError.{EvalError}
use Rattle.widen.specs.declared.simple.Simple.{Simple}
use Rattle.widen.specs.declared.simple.Simple.TheVariants as Simples
use Rattle.widen.specs.declared.widen.Why.TheVariants as Whys
use Rattle.const_step.specs.Labels.{targets_of, has_target, reached_by, arrives_of, label_of}
use Rattle.const_step.specs.Steps.{Step, at_other}
use Rattle.const_step.specs.Steps as Pass
use Rattle.const_prop.specs.Pass.{stmts_of, temporary_flags}
use Rattle.machine.specs.Class.{own_class, in_class}
use Rattle.pcode.specs.declared.op.CallOp.{CallOp}
use Rattle.pcode.specs.declared.op.CallOp.TheVariants as Calls
use Rattle.step.specs.Steps.{act_of}
use Rattle.step.specs.Steps.{Flow}
use Rattle.alike.proofs.Fits.{Quiet}
use Rattle.alike.proofs.Havoc.{State, Holding, rough, run_by}
use Rattle.alike.proofs.Parts.{Bytewise}
use Rattle.first_alike.proofs.Valid.{Valid}
use Rattle.first_alike.proofs.Uses.{Stage, stage_less}
use Rattle.first_alike.proofs.Pairs.{Real, Pair}
use Rattle.first_alike.proofs.Prepared.{Sits}
use Rattle.first_alike.proofs.Stages.{forgotten_stage, cleared_stage, simplify_stage}
use Rattle.first_alike.proofs.Outputs.{IsFine}
use Rattle.first_alike.proofs.Turns.{Stands, along, ahead, off, Goes, target_more}
use Rattle.first_alike.proofs.Others.{Unlabelled, forgotten_same, goes_other}
use Rattle.first_alike.proofs.Labels.{Each, Passes, jump_step, jump_over, label_along, label_ahead, label_meets, label_off, label_passes}

-- a label, or another operation
pub data Kind : Op → Type 0 where
  is_label_lem : (m : PcodeLabel) → Kind (Ops.PcodeLabel m)
  other : {op : Op} → Unlabelled op → Kind op

pub kind_of : (op : Op) → Kind op
kind_of (Ops.PcodeLabel l) = is_label_lem l
kind_of (Ops.Trap t) = other tt
kind_of Ops.InstructionMarker = other tt
kind_of (Ops.PcodeBranch l) = other tt
kind_of (Ops.Branch n) = other tt
kind_of (Ops.Load n) = other tt
kind_of (Ops.Store n) = other tt
kind_of (Ops.Call j n) = other tt
kind_of (Ops.Select n) = other tt
kind_of (Ops.Subpiece n) = other tt
kind_of (Ops.Opaque j) = other tt
kind_of (Ops.Float j) = other tt
kind_of (Ops.One j) = other tt
kind_of (Ops.Two j) = other tt
kind_of (Ops.Divide j) = other tt
kind_of (Ops.Shift j) = other tt
kind_of (Ops.Rotate j) = other tt
kind_of (Ops.Compare j) = other tt
kind_of (Ops.Bool j) = other tt

-- another turn than a label's
abbrev pub Walked : Turn → Type 0
Walked Turns.Plain = Unit {0}
Walked Turns.Marker = Unit {0}
Walked (Turns.Label l) = ⊥
Walked (Turns.Jump l) = Unit {0}
Walked Turns.Exit = Unit {0}
Walked Turns.Hook = Unit {0}

walked_call : (j : CallOp) → Walked (turn_call j)
walked_call Calls.Arg = tt
walked_call Calls.PcodeOp = tt
walked_call Calls.Hook = tt
walked_call Calls.HookIf = tt
walked_call Calls.TracerLoad = tt
walked_call Calls.TracerStore = tt

-- what is not a label has another turn, and ends no jump
pub walked : (op : Op) → Unlabelled op → Walked (turn_of op)
walked (Ops.PcodeLabel l) h = absurd h
walked (Ops.Trap t) h = tt
walked Ops.InstructionMarker h = tt
walked (Ops.PcodeBranch l) h = tt
walked (Ops.Branch n) h = tt
walked (Ops.Load n) h = tt
walked (Ops.Store n) h = tt
walked (Ops.Call j n) h = walked_call j
walked (Ops.Select n) h = tt
walked (Ops.Subpiece n) h = tt
walked (Ops.Opaque j) h = tt
walked (Ops.Float j) h = tt
walked (Ops.One j) h = tt
walked (Ops.Two j) h = tt
walked (Ops.Divide j) h = tt
walked (Ops.Shift j) h = tt
walked (Ops.Rotate j) h = tt
walked (Ops.Compare j) h = tt
walked (Ops.Bool j) h = tt

pub no_label : (op : Op) (l : PcodeLabel) → Unlabelled op → is_label op l ≡ false
no_label (Ops.PcodeLabel m) l h = absurd h
no_label (Ops.Trap t) l h = refl
no_label Ops.InstructionMarker l h = refl
no_label (Ops.PcodeBranch m) l h = refl
no_label (Ops.Branch n) l h = refl
no_label (Ops.Load n) l h = refl
no_label (Ops.Store n) l h = refl
no_label (Ops.Call j n) l h = refl
no_label (Ops.Select n) l h = refl
no_label (Ops.Subpiece n) l h = refl
no_label (Ops.Opaque j) l h = refl
no_label (Ops.Float j) l h = refl
no_label (Ops.One j) l h = refl
no_label (Ops.Two j) l h = refl
no_label (Ops.Divide j) l h = refl
no_label (Ops.Shift j) l h = refl
no_label (Ops.Rotate j) l h = refl
no_label (Ops.Compare j) l h = refl
no_label (Ops.Bool j) l h = refl

-- a statement that stays is the one given
abbrev From : Stmt → Result Simple EvalError → Type 0
From r (Ok Simples.Dropped) = Unit {0}
From r (Ok (Simples.Skips l)) = Unit {0}
From r (Ok (Simples.Copies o a)) = Unit {0}
From r (Ok (Simples.Stays q)) = q ≡ r
From r (Err e) = Unit {0}

picked : (r : Stmt) (e : Bool) (m : Simple) → From r (Ok m) → From r (Ok (pick e (Simples.Stays r) m))
picked r true m h = refl
picked r false m h = h

fate_from : (f : Result Fate EvalError) (e : Bool) (o : VarNode) (r : Stmt) → From r (simple_by f e o r)
fate_from (Ok Fates.Stays) e o r = refl
fate_from (Ok Fates.Unchanged) e o r = picked r e Simples.Dropped tt
fate_from (Ok (Fates.Constantly k)) e o r = picked r e (Simples.Copies o (Const k o.size)) tt
fate_from (Ok Fates.First) e o r = picked r e (Simples.Copies o r.first) tt
fate_from (Ok Fates.Second) e o r = picked r e (Simples.Copies o r.second) tt
fate_from (Err x) e o r = tt

jump_from : (c : Option ℕ) (l : PcodeLabel) (r : Stmt) → From r (Ok (jump_of c l r))
jump_from (Some zero) l r = tt
jump_from (Some (suc zero)) l r = tt
jump_from (Some (suc (suc k))) l r = refl
jump_from Nothing l r = refl

exit_from : (c : Option ℕ) (r : Stmt) → From r (Ok (exit_of c r))
exit_from (Some zero) r = tt
exit_from (Some (suc k)) r = refl
exit_from Nothing r = refl

module _ (vars : Vars) where
  plain_from : (xa xb : List ℕ → List ℕ) (o : Output) (r : Stmt) (K : Known.State) → From r (plain_of vars xa xb o r K).simple
  plain_from xa xb Out.None r K = refl
  plain_from xa xb (Out.Some o) r K =
      let L = first_use (place_of vars o) K in
      fate_from (settled_of r.op (place_of vars o) (xa L.store) (xb L.store) L).outcome (side_effects r.op) o r

  hook_from : (o : Output) (r : Stmt) (K : Known.State) → From r (hook_of vars o r K).simple
  hook_from Out.None r K = refl
  hook_from (Out.Some o) r K = refl

  turned_from : (xa xb : List ℕ → List ℕ) (t : Turn) (r : Stmt) (K : Known.State) → From r (turned vars xa xb t r K).simple
  turned_from xa xb Turns.Plain r K = plain_from xa xb r.output r K
  turned_from xa xb Turns.Marker r K = plain_from xa xb r.output r K
  turned_from xa xb (Turns.Label l) r K = plain_from xa xb r.output r K
  turned_from xa xb (Turns.Jump l) r K = jump_from (const_of (bits (xa K.store))) l r
  turned_from xa xb Turns.Exit r K = exit_from (const_of (bits (xa K.store))) r
  turned_from xa xb Turns.Hook r K = hook_from r.output r K

  -- what holds of a statement's operation, and of copies and extensions, holds of all that is made of it
  module _ (P : Op → Type 0) (ones : (k : OneOp) → P (Ops.One k)) where
    copied_each : (w : Option ℕ) (o : VarNode) (a : Operand) → P (copied_of w o a).op
    copied_each Nothing o a = ones Copy
    copied_each (Some w) o None = ones ZeroExtend
    copied_each (Some w) o (Const k n) = ones Copy
    copied_each (Some w) o (Var v) = ones ZeroExtend

    kept_each : (w : Option ℕ) (r : Stmt) (o : VarNode) (least : VarId) → P r.op → Each P (stmts_of (made_in (kept_of w r o least)))
    unfolding Each
    kept_each Nothing r o least h = (h, tt)
    kept_each (Some w) r o least h = go (same_id (below_id least) least)
      where
        go : (q : Bool)
            → Each P (stmts_of (made_in (pick q (Err Whys.NoTemporary) (Ok (two_m (stmt_of r.op (Out.Some (added_of least o)) r.first r.second) (stmt_of (Ops.One ZeroExtend) (lowest o w) (Var (added_of least o)) None))))))
        go true = tt
        go false = (h, (ones ZeroExtend, tt))

    stays_each : (store : List ℕ) (o : Output) (r : Stmt) (least : VarId) → P r.op → Each P (stmts_of (made_in (stays_of store vars o r least)))
    unfolding Each
    stays_each store Out.None r least h = (h, tt)
    stays_each store (Out.Some o) r least h = kept_each (widened_of store (place_of vars o)) r o least h

    made_each : (store : List ℕ) (r : Stmt) (m : Result Simple EvalError) (least : VarId) → P r.op → From r m → Each P (stmts_of (made_in (made_of store vars m least)))
    unfolding Each
    made_each store r (Ok Simples.Dropped) least h f = tt
    made_each store r (Ok (Simples.Skips k)) least h f = tt
    made_each store r (Ok (Simples.Copies o a)) least h f = (copied_each (widened_of store (place_of vars o)) o a, tt)
    made_each store r (Ok (Simples.Stays q)) least h f =
        subst (λ (x : Stmt). Each P (stmts_of (made_in (stays_of store vars x.output x least)))) (sym f) (stays_each store r.output r least h)
    made_each store r (Err e) least h f = tt

    pub other_each : (k : Option PcodeLabel) (t : Turn) (st : Stmt) (K : Known.State) (least : VarId) → P st.op → Each P (stmts_of (made_in (at_other vars least k t st K).made))
    unfolding Each
    other_each (Some m) t st K least h = tt
    other_each Nothing t st K least h =
        made_each (simplify_of vars t st K).state.store (replaced_of vars st K) (simplify_of vars t st K).simple least h
        (turned_from (operand_bits vars st.first) (operand_bits vars st.second) t (replaced_of vars st K) (used_both vars st K))

    -- of any step but a label's
    pub step_each : (temp below made : List ℕ) (least : VarId) (k : Option PcodeLabel) (t : Turn) (st : Stmt) (K : Known.State) → Walked t → P st.op
        → Each P (stmts_of (made_in (Pass.step_by vars temp below made least k t st K).made))
    step_each temp below made least k Turns.Plain st K w h = other_each k Turns.Plain st K least h
    step_each temp below made least k Turns.Marker st K w h = other_each k Turns.Marker st (forgotten temp K) least h
    step_each temp below made least k (Turns.Label m) st K w h = absurd w
    step_each temp below made least k (Turns.Jump m) st K w h = other_each k (Turns.Jump m) st K least h
    step_each temp below made least k Turns.Exit st K w h = other_each k Turns.Exit st K least h
    step_each temp below made least k Turns.Hook st K w h = other_each k Turns.Hook st K least h

  module _ (few : length (held_ids vars) ≤ 48) where
    other_stage : (j : ℕ) (k : Option PcodeLabel) (t : Turn) (st : Stmt) (K : Known.State) (least : VarId) → Sits (held_ids vars) st → Stage (held_ids vars) (j + 4) K → Stage (held_ids vars) j (at_other vars least k t st K).state
    other_stage j (Some m) t st K least s g = stage_less (held_ids vars) j (j + 4) K (omega arith) g
    other_stage j Nothing t st K least s g = simplify_stage vars few t st j K s g

    -- what holds throughout, over any step
    pub step_stage : (j : ℕ) (temp below made : List ℕ) (least : VarId) (k : Option PcodeLabel) (t : Turn) (st : Stmt) (K : Known.State) → Sits (held_ids vars) st → Stage (held_ids vars) (j + 4) K
        → Stage (held_ids vars) j (Pass.step_by vars temp below made least k t st K).state
    step_stage j temp below made least k Turns.Plain st K s g = other_stage j k Turns.Plain st K least s g
    step_stage j temp below made least k Turns.Marker st K s g = other_stage j k Turns.Marker st (forgotten temp K) least s (forgotten_stage (held_ids vars) temp (j + 4) K g)
    step_stage j temp below made least k (Turns.Label m) st K s g = by (reached_by below made m)
      where
        by : (b : Bool) → Stage (held_ids vars) j (pick b (cleared K) K)
        by true = stage_less (held_ids vars) j (j + 4) (cleared K) (omega arith) (cleared_stage (held_ids vars) (j + 4) K g)
        by false = stage_less (held_ids vars) j (j + 4) K (omega arith) g
    step_stage j temp below made least k (Turns.Jump m) st K s g = other_stage j k (Turns.Jump m) st K least s g
    step_stage j temp below made least k Turns.Exit st K s g = other_stage j k Turns.Exit st K least s g
    step_stage j temp below made least k Turns.Hook st K s g = other_stage j k Turns.Hook st K least s g

  -- from wherever the runs stand
  module _ (few : length (held_ids vars) ≤ 48) (ms : Marks) (answers : List ℕ) (floor : VarId) (real : (id : VarId) → lasting ms id ≡ true → Real ms answers floor id)
      (real_ids : (id : VarId) → has_id (held_ids vars) id ≡ true → Real ms answers floor id) (u : ℕ → State) (calm : (n : ℕ) → Bytewise (u n)) (h g : Holding) (p : Pair ms answers floor h g)
      (done : List Stmt) (least : VarId) (under : same_id (below_id least) least ≡ false → less_id (below_id least) floor ≡ true) (j : ℕ) (a b : Operand) (K : Known.State)
      (stage : Stage (held_ids vars) (j + 4) K) (below : List ℕ) where
    abbrev step : Option PcodeLabel → Op → Output → Step
    step k op o = Pass.step_by vars (temporary_flags ms (take 48 vars.ids)) below (targets_of done) least k (turn_of op) (stmt_of op o a b) K

    abbrev GoesAt : Op → Output → Flow → Flow → Step → Type 0
    GoesAt op o f f₁ x = Goes ms answers floor vars u (stmt_of op o a b) f h (stmts_of (made_in x.made)) f₁ g (made_in x.made).skip (done ++ stmts_of (made_in x.made)) x.state

    -- a skipped statement
    skipped : (l : PcodeLabel) (op : Op) (o : Output) (t : Turn) → Walked t → is_label op l ≡ false → Valid (held_ids vars) K h.bytes
        → GoesAt op o (Jump l) Next (Pass.step_by vars (temporary_flags ms (take 48 vars.ids)) below (targets_of done) least (Some l) t (stmt_of op o a b) K)
    skipped l op o t w n v = by t w
      where
        over : (L : Known.State) → Valid (held_ids vars) L h.bytes → Goes ms answers floor vars u (stmt_of op o a b) (Jump l) h [] Next g (Some l) (done ++ []) L
        over L q =
            record {
              sights = [];
              on = u;
              calm = calm;
              flow = Jump l;
              flow₁ = Next;
              after = h;
              after₁ = g;
              one = λ rest. jump_step ms answers floor vars u (stmt_of op o a b) rest l h ∙ ap (λ (x : Bool). run_by ms answers (rough u) rest (pick x Next (Jump l)) h) n;
              two = λ tail. refl;
              pair = p;
              stands = ahead l refl q;
            }

        by : (t : Turn) → Walked t → GoesAt op o (Jump l) Next (Pass.step_by vars (temporary_flags ms (take 48 vars.ids)) below (targets_of done) least (Some l) t (stmt_of op o a b) K)
        by Turns.Plain w = over K v
        by Turns.Marker w = over (forgotten (temporary_flags ms (take 48 vars.ids)) K) (forgotten_same ms answers floor vars few K h.bytes v)
        by (Turns.Label m) w = absurd w
        by (Turns.Jump m) w = over K v
        by Turns.Exit w = over K v
        by Turns.Hook w = over K v

    -- a statement that both jumps pass over
    passed : (l : PcodeLabel) (op : Op) (o : Output) (x : Step) → is_label op l ≡ false → Passes l (stmts_of (made_in x.made)) → has_target (targets_of done) (1 + l.0) ≡ true → GoesAt op o (Jump l) (Jump l) x
    passed l op o x n q r =
        record {
          sights = [];
          on = u;
          calm = calm;
          flow = Jump l;
          flow₁ = Jump l;
          after = h;
          after₁ = g;
          one = λ rest. jump_step ms answers floor vars u (stmt_of op o a b) rest l h ∙ ap (λ (y : Bool). run_by ms answers (rough u) rest (pick y Next (Jump l)) h) n;
          two = λ tail. jump_over ms answers floor vars u (stmts_of (made_in x.made)) tail l g q;
          pair = p;
          stands = off l (target_more done (stmts_of (made_in x.made)) (1 + l.0) r);
        }

    -- not a label
    other_goes : (k : Option PcodeLabel) (op : Op) (o : Output) {f f₁ : Flow} → Unlabelled op → in_class own_class op ≡ true → Quiet (act_of op) o → Sits (held_ids vars) (stmt_of op o a b)
        → IsFine (step k op o).made → Stands (held_ids vars) k done K h.bytes f f₁ → GoesAt op o f f₁ (step k op o)
    other_goes k op o n c q s f (along e v) =
        subst (λ (x : Option PcodeLabel). IsFine (step x op o).made → GoesAt op o Next Next (step x op o)) (sym e)
        (goes_other ms answers floor vars few real real_ids u calm h g p done least under j a b K stage v below (targets_of done) op o n c q s) f
    other_goes k op o n c q s f (ahead l e v) =
        subst (λ (x : Option PcodeLabel). GoesAt op o (Jump l) Next (step x op o)) (sym e) (skipped l op o (turn_of op) (walked op n) (no_label op l n) v)
    other_goes k op o n c q s f (off l r) =
        passed l op o (step k op o) (no_label op l n)
        (step_each (λ x. is_label x l ≡ false) (λ i. refl) (temporary_flags ms (take 48 vars.ids)) below (targets_of done) least k (turn_of op) (stmt_of op o a b) K (walked op n) (no_label op l n)) r

    -- a label
    reached_kept : (l m : PcodeLabel) → same_label l m ≡ true → has_target (targets_of done) (1 + l.0) ≡ true → reached_by below (targets_of done) m ≡ true
    reached_kept l m e r = ap (λ (x : Bool). x || has_target below (1 + m.0)) (ap (λ (x : PcodeLabel). has_target (targets_of done) (1 + x.0)) (sym (same_label_true l m e)) ∙ r)

    label_goes : (k : Option PcodeLabel) (m : PcodeLabel) {f f₁ : Flow} → Stands (held_ids vars) k done K h.bytes f f₁ → GoesAt (Ops.PcodeLabel m) Out.None f f₁ (step k (Ops.PcodeLabel m) Out.None)
    label_goes k m (along e v) =
        subst (λ (x : Option PcodeLabel). GoesAt (Ops.PcodeLabel m) Out.None Next Next (step x (Ops.PcodeLabel m) Out.None)) (sym e)
        (label_along ms answers floor vars u calm m a b h g p done K (reached_by below (targets_of done) m) v)
    label_goes k m (ahead l e v) =
        subst (λ (x : Option PcodeLabel). GoesAt (Ops.PcodeLabel m) Out.None (Jump l) Next (step x (Ops.PcodeLabel m) Out.None)) (sym e)
        (label_ahead ms answers floor vars u calm m a b h g p done K l (reached_by below (targets_of done) m) (same_label l m) refl v)
    label_goes k m (off l r) =
        ways (same_label l m)
        (λ e. subst (λ (c : Bool). Goes ms answers floor vars u (stmt_of (Ops.PcodeLabel m) Out.None a b) (Jump l) h (stmts_of (label_of k m c)) (Jump l) g (label_of k m c).skip (done ++ stmts_of (label_of k m c)) (pick c (cleared K) K))
        (sym (reached_kept l m e r)) (label_meets ms answers floor vars u calm m a b h g p done K l (arrives_of k m) e))
        (λ e.
        label_off ms answers floor vars u calm m a b h g p done K l (label_of k m (reached_by below (targets_of done) m)) (pick (reached_by below (targets_of done) m) (cleared K) K) e
        (label_passes ms answers floor vars u calm m a b h g p done K l (reached_by below (targets_of done) m) (arrives_of k m) e) r)

    -- any statement
    pub step_goes : (k : Option PcodeLabel) {op : Op} (o : Output) {f f₁ : Flow} → Kind op → in_class own_class op ≡ true → Quiet (act_of op) o → Sits (held_ids vars) (stmt_of op o a b)
        → IsFine (step k op o).made → Stands (held_ids vars) k done K h.bytes f f₁ → GoesAt op o f f₁ (step k op o)
    step_goes k {op} o (other n) c q s y w = other_goes k op o n c q s y w
    step_goes k o {f} {f₁} (is_label_lem m) c q s y w =
        subst (λ (x : Output). GoesAt (Ops.PcodeLabel m) x f f₁ (step k (Ops.PcodeLabel m) x)) (sym q) (label_goes k m w)
