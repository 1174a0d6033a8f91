-- Every statement other than a label that the pass does not skip: with an output, a marker, and by the operation.
use Rattle.std.proofs.Common.{Option, None as Nothing, Some, Result, Ok, Err, ℕ, zero, suc, ◌+◌, ◌≤◌, ◌<◌, arith, ◌≡◌, refl, sym, ap, ◌∙◌, Bool, true, false, List, [], ◌∷◌, ◌++◌, length, get_or, take, get_or-take, None as Next}
use mathlib.Core.Bool.{false≢true}
use lib.ListN.{length-map, get_or-map}
use Rattle.pcode.specs.Var.{pick, same_id, less_id, below_id, size_of, cut}
use Rattle.pcode.specs.Block.{has_id, lasting, stmt_of}
use Rattle.pcode.specs.declared.var.VarId.{VarId}
use Rattle.pcode.specs.declared.var.PcodeLabel.{PcodeLabel}
use Rattle.pcode.specs.declared.var.VarNode.{VarNode}
use Rattle.pcode.specs.declared.var.Operand.{Operand}
use Rattle.pcode.specs.Var.{Output}
use Rattle.std.specs.declared.option.Option.TheVariants as Out
use Rattle.pcode.specs.declared.op.Op.{Op}
use Rattle.pcode.specs.declared.op.Op.TheVariants as Ops
use Rattle.pcode.specs.declared.block.Stmt.{Stmt}
use Rattle.pcode.specs.declared.block.Marks.{Marks}
use Rattle.vars.specs.Vars.{row_of, held_ids}
use Rattle.vars.specs.declared.Vars.{Vars}
use Rattle.vars.proofs.Rows.{ways, row_below, row_at}
use Rattle.bit_vec.specs.Lists.{bits}
use Rattle.bit_vec.specs.Known.{const_of}
use Rattle.std.proofs.lemmas.List.{get_or_default}
use Rattle.const_eval.specs.State as Known
use Rattle.const_eval.specs.Known.{part_of}
use Rattle.const_eval.specs.State.{first_use, forgotten}
use Rattle.settle.specs.Settle.{settled_of}
use Rattle.uses.specs.Operands.{place_of, operand_bits}
use Rattle.settle.specs.declared.Outcome.{Outcome as Fate}
use Rattle.settle.specs.declared.Outcome.TheVariants as Fates
use Rattle.simplify.specs.Simplify.{used_both, replaced_of, simple_by, simplify_of}
use Rattle.widen.specs.Simple.{jump_of, exit_of}
use Rattle.widen.specs.Turn.{turn_of}
use Rattle.widen.specs.Widen.{made_in, made_of}
use Rattle.eval.specs.declared.EvalError.{EvalError}
use Rattle.widen.specs.declared.turn.Turn.{Turn}
use Rattle.widen.specs.declared.turn.Turn.TheVariants as Turns
use Rattle.const_step.specs.Steps.{Step, at_other}
use Rattle.const_step.specs.Steps as Pass
use Rattle.const_prop.specs.Pass.{stmts_of, temporary_flags}
use Rattle.machine.specs.Class.{own_class, in_class}
use Rattle.step.specs.Steps.{act_of, answer_at}
use Rattle.step.specs.declared.Act.{Act}
use Rattle.sound.specs.Sound.{computes}
use Rattle.alike.proofs.Fits.{Quiet}
use Rattle.alike.proofs.Havoc.{State, Set, value_by, put_by, result_by, mixed, Holding}
use Rattle.alike.proofs.Parts.{Bytewise, put_bytes}
use Rattle.first_alike.proofs.Valid.{Valid, flags_kept, forgotten_valid}
use Rattle.first_alike.proofs.Uses.{Stage}
use Rattle.first_alike.proofs.Operands.{value_small, take_below}
use Rattle.first_alike.proofs.Settled.{Fair, computes_agrees, load_agrees}
use Rattle.first_alike.proofs.Widths.{widened_wide}
use Rattle.first_alike.proofs.Pairs.{Real, Pair, mixed_bytes}
use Rattle.first_alike.proofs.Prepared.{Sits, both_valid, first_stead, second_stead, wrote}
use Rattle.first_alike.proofs.Stages.{forgotten_stage}
use Rattle.first_alike.proofs.Outputs.{Loaded, IsFine, output_makes}
use Rattle.first_alike.proofs.Turns.{along, fine_fair, Goes, goes_effect, keeps, stays_load, stays_store, stays_computes, stays_exit, stays_jump, known_first, drops_jump, skips_jump, drops_exit}

-- not a label
abbrev pub Unlabelled : Op → Type 0
Unlabelled (Ops.Trap t) = Unit {0}
Unlabelled Ops.InstructionMarker = Unit {0}
Unlabelled (Ops.PcodeLabel l) = ⊥
Unlabelled (Ops.PcodeBranch l) = Unit {0}
Unlabelled (Ops.Branch n) = Unit {0}
Unlabelled (Ops.Load n) = Unit {0}
Unlabelled (Ops.Store n) = Unit {0}
Unlabelled (Ops.Call j n) = Unit {0}
Unlabelled (Ops.Select n) = Unit {0}
Unlabelled (Ops.Subpiece n) = Unit {0}
Unlabelled (Ops.Opaque j) = Unit {0}
Unlabelled (Ops.Float j) = Unit {0}
Unlabelled (Ops.One j) = Unit {0}
Unlabelled (Ops.Two j) = Unit {0}
Unlabelled (Ops.Divide j) = Unit {0}
Unlabelled (Ops.Shift j) = Unit {0}
Unlabelled (Ops.Rotate j) = Unit {0}
Unlabelled (Ops.Compare j) = Unit {0}
Unlabelled (Ops.Bool j) = Unit {0}

-- a statement with side effects stays
stays_loaded : (n : ℕ) (f : Result Fate EvalError) (o : VarNode) (r : Stmt) → Fair (simple_by f true o r) → Loaded (Act.Loads n) (simple_by f true o r)
stays_loaded n (Ok Fates.Stays) o r h = tt
stays_loaded n (Ok Fates.Unchanged) o r h = tt
stays_loaded n (Ok (Fates.Constantly k)) o r h = tt
stays_loaded n (Ok Fates.First) o r h = tt
stays_loaded n (Ok Fates.Second) o r h = tt
stays_loaded n (Err e) o r h = absurd h

no_output : {R : Type 0} (o : VarNode) → ◌≡◌ {A = Output} (Out.Some o) Out.None → R
no_output o e = absurd (let z : ◌≡◌ {A = ℕ} 0 1 = cc in omega arith)

module _ (ms : Marks) (answers : List ℕ) (floor : VarId) (vars : Vars) (few : length (held_ids vars) ≤ 48) where
  abbrev ids : List VarId
  ids = held_ids vars

  -- the flag of a lasting variable's row
  lasting_flag : (id : VarId) → has_id ids id ≡ true → row_of ids id < length (temporary_flags ms (take 48 vars.ids)) → get_or (temporary_flags ms (take 48 vars.ids)) (row_of ids id) 0 ≡ 0 → lasting ms id ≡ true
  lasting_flag id h l e =
      let f : VarId → ℕ = λ (x : VarId). pick (lasting ms x) 0 1 in
      let b = row_below ids id h in
      let c : row_of ids id < vars.count = take_below vars.count vars.ids (row_of ids id) b in
      let i : get_or (take 48 vars.ids) (row_of ids id) id ≡ id =
      get_or-take 48 vars.ids (row_of ids id) id (omega (arith, b, few)) ∙ sym (get_or-take vars.count vars.ids (row_of ids id) id c) ∙ row_at ids id id h in
      let g : f id ≡ 0 = sym (ap f i) ∙ sym (get_or-map f (take 48 vars.ids) (row_of ids id) id) ∙ sym (get_or_default (temporary_flags ms (take 48 vars.ids)) (row_of ids id) 0 (f id) l) ∙ e in
      ways (lasting ms id) (λ t. t) (λ t. absurd (let z : ◌≡◌ {A = ℕ} 1 0 = sym (ap (λ (x : Bool). pick x 0 1) t) ∙ g in omega arith))

  flags_long : (id : VarId) → has_id ids id ≡ true → row_of ids id < length (temporary_flags ms (take 48 vars.ids))
  flags_long id h =
      let b = row_below ids id h in
      let m : length (temporary_flags ms (take 48 vars.ids)) ≡ length (take 48 vars.ids) = length-map (take 48 vars.ids) (λ (x : VarId). pick (lasting ms x) 0 1) in
      let q = longer vars.count vars.ids (row_of ids id) b 48 (omega (arith, b, few)) in
      omega (arith, m, q)
    where
      longer : {A : Type 0} (n : ℕ) (l : List A) (i : ℕ) → i < length (take n l) → (m : ℕ) → i < m → i < length (take m l)
      longer zero l i h m g = absurd (omega (arith, h))
      longer (suc n) [] i h m g = absurd (omega (arith, h))
      longer (suc n) (x ∷ l) i h zero g = absurd (omega (arith, g))
      longer (suc n) (x ∷ l) zero h (suc m) g = omega arith
      longer (suc n) (x ∷ l) (suc i) h (suc m) g = let q = longer n l i (omega (arith, h)) m (omega (arith, g)) in omega (arith, q)

  mixed_lasting : (w : Set) (s t : State) (id : VarId) (k : ℕ) → lasting ms id ≡ true → s id k ≡ mixed ms w s t id k
  unfolding mixed
  mixed_lasting w s t id k e = rw e

  -- a marker forgets what it may change
  pub marker_valid : (K : Known.State) (w : Set) (s t : State) → Valid ids K s → Valid ids (forgotten (temporary_flags ms (take 48 vars.ids)) K) (mixed ms w s t)
  marker_valid K w s t v =
      forgotten_valid ids (temporary_flags ms (take 48 vars.ids)) K s (mixed ms w s t) v
      (λ id h u k. mixed_lasting w s t id k (lasting_flag id h (flags_long id h) ((flags_kept K.used (temporary_flags ms (take 48 vars.ids)) (row_of ids id) u).1 (flags_long id h))))

  pub forgotten_same : (K : Known.State) (s : State) → Valid ids K s → Valid ids (forgotten (temporary_flags ms (take 48 vars.ids)) K) s
  forgotten_same K s v = forgotten_valid ids (temporary_flags ms (take 48 vars.ids)) K s s v (λ id h u k. refl)

  module _ (real : (id : VarId) → lasting ms id ≡ true → Real ms answers floor id) (real_ids : (id : VarId) → has_id (held_ids vars) id ≡ true → Real ms answers floor id)
      (u : ℕ → State) (calm : (n : ℕ) → Bytewise (u n)) (h g : Holding) (p : Pair ms answers floor h g) (done : List Stmt) (least : VarId)
      (under : same_id (below_id least) least ≡ false → less_id (below_id least) floor ≡ true) (k : ℕ) (a b : Operand) (K : Known.State) (stage : Stage (held_ids vars) (k + 4) K)
      (v : Valid (held_ids vars) K h.bytes) where
    -- the step of a statement that is not skipped
    abbrev steps : Turn → Stmt → Step
    steps t st = at_other vars least Nothing t st K

    abbrev GoesBy : Stmt → Step → Type 0
    GoesBy st x = Goes ms answers floor vars u st Next h (stmts_of (made_in x.made)) Next g (made_in x.made).skip (done ++ stmts_of (made_in x.made)) x.state

    module _ (op : Op) (o : VarNode) (sits : Sits ids (stmt_of op (Out.Some o) a b)) where
      abbrev st : Stmt
      st = stmt_of op (Out.Some o) a b

      abbrev X : Act → ℕ
      X act = result_by answers h.loads st act (value_by h.bytes a) (value_by h.bytes b)

      -- an operation that computes
      pub output_computes : act_of op ≡ Act.Computes → computes op ≡ true → IsFine (steps Turns.Plain st).made → GoesBy st (steps Turns.Plain st)
      output_computes e c f =
          let s = h.bytes in
          let ch = simplify_of vars Turns.Plain st K in
          let r = replaced_of vars st K in
          let K₃ = first_use (place_of vars o) (used_both vars st K) in
          let w =
          wrote vars few st sits k K stage s p.bytewise v o sits.known.output sits.output_in (X Act.Computes)
          (λ τ ha hb l d. computes_agrees op c τ (operand_bits vars a K₃.store) (operand_bits vars b K₃.store) (part_of (place_of vars o) K₃.store) (size_of a) (size_of b) o.size (value_by s a) (value_by s b) ha hb (value_small s a p.bytewise) (value_small s b p.bytewise) l d)
          (fine_fair ch.state.store vars ch.simple least f) in
          let m =
          output_makes ms answers floor real ids real_ids u (calm 0) op a b r.first r.second o sits.output_in h g p
          (first_stead vars few st sits k K stage s p.bytewise v) (second_stead vars few st sits k K stage s p.bytewise v) least under vars ch.state.store
          Act.Computes e tt ch.simple tt
          (widened_wide vars ch.state (put_by s (Out.Some o) (X Act.Computes)) (put_bytes s (Out.Some o) (X Act.Computes) p.bytewise) w.valid o sits.known.output w.inuse) w.worth f in
          goes_effect ms answers floor vars Act.Computes u st h g (stmts_of (made_in (steps Turns.Plain st).made)) (made_in (steps Turns.Plain st).made).skip (done ++ stmts_of (made_in (steps Turns.Plain st).made)) ch.state calm e m.effect
          (along m.walks w.valid)

    -- a load
    pub output_loads : (n : ℕ) (o : VarNode) → Sits ids (stmt_of (Ops.Load n) (Out.Some o) a b) → IsFine (steps Turns.Plain (stmt_of (Ops.Load n) (Out.Some o) a b)).made
        → GoesBy (stmt_of (Ops.Load n) (Out.Some o) a b) (steps Turns.Plain (stmt_of (Ops.Load n) (Out.Some o) a b))
    output_loads n o sits f =
        let st = stmt_of (Ops.Load n) (Out.Some o) a b in
        let s = h.bytes in
        let x : ℕ = cut (answer_at answers h.loads) o.size in
        let ch = simplify_of vars Turns.Plain st K in
        let r = replaced_of vars st K in
        let K₃ = first_use (place_of vars o) (used_both vars st K) in
        let fair = fine_fair ch.state.store vars ch.simple least f in
        let w =
        wrote vars few st sits k K stage s p.bytewise v o sits.known.output sits.output_in x
        (λ τ ha hb l d. load_agrees n τ (operand_bits vars a K₃.store) (operand_bits vars b K₃.store) (part_of (place_of vars o) K₃.store) o.size x l) fair in
        let m =
        output_makes ms answers floor real ids real_ids u (calm 0) (Ops.Load n) a b r.first r.second o sits.output_in h g p
        (first_stead vars few st sits k K stage s p.bytewise v) (second_stead vars few st sits k K stage s p.bytewise v) least under vars ch.state.store
        (Act.Loads n) refl tt ch.simple (stays_loaded n (settled_of (Ops.Load n) (place_of vars o) (operand_bits vars a K₃.store) (operand_bits vars b K₃.store) K₃).outcome o r fair)
        (widened_wide vars ch.state (put_by s (Out.Some o) x) (put_bytes s (Out.Some o) x p.bytewise) w.valid o sits.known.output w.inuse) w.worth f in
        goes_effect ms answers floor vars (Act.Loads n) u st h g (stmts_of (made_in (steps Turns.Plain st).made)) (made_in (steps Turns.Plain st).made).skip (done ++ stmts_of (made_in (steps Turns.Plain st).made)) ch.state calm refl m.effect
        (along m.walks w.valid)

    -- a branch
    pub goes_jump : (l : PcodeLabel) → Sits ids (stmt_of (Ops.PcodeBranch l) Out.None a b) → GoesBy (stmt_of (Ops.PcodeBranch l) Out.None a b) (steps (Turns.Jump l) (stmt_of (Ops.PcodeBranch l) Out.None a b))
    goes_jump l sits = by (const_of (bits (operand_bits vars a (used_both vars (stmt_of (Ops.PcodeBranch l) Out.None a b) K).store))) refl
      where
        by : (c : Option ℕ) → const_of (bits (operand_bits vars a (used_both vars (stmt_of (Ops.PcodeBranch l) Out.None a b) K).store)) ≡ c
            → GoesBy (stmt_of (Ops.PcodeBranch l) Out.None a b)
            (record {
              state = used_both vars (stmt_of (Ops.PcodeBranch l) Out.None a b) K;
              made = made_of (used_both vars (stmt_of (Ops.PcodeBranch l) Out.None a b) K).store vars (Ok (jump_of c l (replaced_of vars (stmt_of (Ops.PcodeBranch l) Out.None a b) K))) least;
            })
        by (Some zero) e =
            drops_jump ms answers floor vars few real real_ids u calm h g p done least under k a b (Ops.PcodeBranch l) sits K stage v l refl
            (known_first ms answers floor vars few real real_ids u calm h g p done least under k a b (Ops.PcodeBranch l) sits K stage v 0 e)
        by (Some (suc zero)) e =
            skips_jump ms answers floor vars few real real_ids u calm h g p done least under k a b (Ops.PcodeBranch l) sits K stage v l refl
            (known_first ms answers floor vars few real real_ids u calm h g p done least under k a b (Ops.PcodeBranch l) sits K stage v 1 e)
        by (Some (suc (suc n))) e = stays_jump ms answers floor vars few real real_ids u calm h g p done least under k a b (Ops.PcodeBranch l) sits K stage v l refl refl
        by Nothing e = stays_jump ms answers floor vars few real real_ids u calm h g p done least under k a b (Ops.PcodeBranch l) sits K stage v l refl refl

    -- an exit
    pub goes_exit : (n : ℕ) → Sits ids (stmt_of (Ops.Branch n) Out.None a b) → GoesBy (stmt_of (Ops.Branch n) Out.None a b) (steps Turns.Exit (stmt_of (Ops.Branch n) Out.None a b))
    goes_exit n sits = by (const_of (bits (operand_bits vars a (used_both vars (stmt_of (Ops.Branch n) Out.None a b) K).store))) refl
      where
        by : (c : Option ℕ) → const_of (bits (operand_bits vars a (used_both vars (stmt_of (Ops.Branch n) Out.None a b) K).store)) ≡ c
            → GoesBy (stmt_of (Ops.Branch n) Out.None a b)
            (record {
              state = used_both vars (stmt_of (Ops.Branch n) Out.None a b) K;
              made = made_of (used_both vars (stmt_of (Ops.Branch n) Out.None a b) K).store vars (Ok (exit_of c (replaced_of vars (stmt_of (Ops.Branch n) Out.None a b) K))) least;
            })
        by (Some zero) e =
            drops_exit ms answers floor vars few real real_ids u calm h g p done least under k a b (Ops.Branch n) sits K stage v n refl
            (known_first ms answers floor vars few real real_ids u calm h g p done least under k a b (Ops.Branch n) sits K stage v 0 e)
        by (Some (suc i)) e = stays_exit ms answers floor vars few real real_ids u calm h g p done least under k a b (Ops.Branch n) sits K stage v n refl
        by Nothing e = stays_exit ms answers floor vars few real real_ids u calm h g p done least under k a b (Ops.Branch n) sits K stage v n refl

    -- a marker
    abbrev K₀ : Known.State
    K₀ = forgotten (temporary_flags ms (take 48 vars.ids)) K

    abbrev marker : Stmt
    marker = stmt_of Ops.InstructionMarker Out.None a b

    pub goes_marker : Sits ids marker → GoesBy marker (at_other vars least Nothing Turns.Marker marker K₀)
    goes_marker sits =
        let t : State = mixed ms h.changed h.bytes (u 0) in
        let new = replaced_of vars marker K₀ in
        let g₀ = forgotten_stage ids (temporary_flags ms (take 48 vars.ids)) (k + 4) K stage in
        goes_effect ms answers floor vars Act.Marks u marker h g (new ∷ []) Nothing (done ++ new ∷ []) (used_both vars marker K₀) calm refl
        (keeps ms answers floor vars few real real_ids u calm h g p done least under k a b Ops.InstructionMarker sits K₀ g₀ (forgotten_same K h.bytes v) Act.Marks refl)
        (along refl (both_valid vars few marker sits k K₀ g₀ t (mixed_bytes ms answers floor h.changed h.bytes (u 0) p.bytewise (calm 0)) (marker_valid K h.changed h.bytes (u 0) v)))

    -- the step of a statement, by its operation
    abbrev stepped : List ℕ → List ℕ → Stmt → Step
    stepped below made st = Pass.step_by vars (temporary_flags ms (take 48 vars.ids)) below made least Nothing (turn_of st.op) st K

    -- an operation that computes, with or without an output
    either : (op : Op) (o : Output) → act_of op ≡ Act.Computes → computes op ≡ true → Sits ids (stmt_of op o a b) → IsFine (steps Turns.Plain (stmt_of op o a b)).made
        → GoesBy (stmt_of op o a b) (steps Turns.Plain (stmt_of op o a b))
    either op Out.None e c sits f = stays_computes ms answers floor vars few real real_ids u calm h g p done least under k a b op sits K stage v e
    either op (Out.Some o) e c sits f = output_computes op o sits e c f

    pub goes_other : (below made : List ℕ) (op : Op) (o : Output) → Unlabelled op → in_class own_class op ≡ true → Quiet (act_of op) o → Sits ids (stmt_of op o a b)
        → IsFine (stepped below made (stmt_of op o a b)).made → GoesBy (stmt_of op o a b) (stepped below made (stmt_of op o a b))
    goes_other below made Ops.InstructionMarker Out.None n c q s f = goes_marker s
    goes_other below made Ops.InstructionMarker (Out.Some o) n c q s f = no_output o q
    goes_other below made (Ops.PcodeLabel l) o n c q s f = absurd n
    goes_other below made (Ops.PcodeBranch l) Out.None n c q s f = goes_jump l s
    goes_other below made (Ops.PcodeBranch l) (Out.Some o) n c q s f = no_output o q
    goes_other below made (Ops.Branch i) Out.None n c q s f = goes_exit i s
    goes_other below made (Ops.Branch i) (Out.Some o) n c q s f = no_output o q
    goes_other below made (Ops.Load i) Out.None n c q s f = stays_load ms answers floor vars few real real_ids u calm h g p done least under k a b (Ops.Load i) s K stage v i refl
    goes_other below made (Ops.Load i) (Out.Some o) n c q s f = output_loads i o s f
    goes_other below made (Ops.Store i) Out.None n c q s f = stays_store ms answers floor vars few real real_ids u calm h g p done least under k a b (Ops.Store i) s K stage v i refl
    goes_other below made (Ops.Store i) (Out.Some o) n c q s f = no_output o q
    goes_other below made (Ops.Subpiece i) o n c q s f = either (Ops.Subpiece i) o refl refl s f
    goes_other below made (Ops.One j) o n c q s f = either (Ops.One j) o refl refl s f
    goes_other below made (Ops.Two j) o n c q s f = either (Ops.Two j) o refl refl s f
    goes_other below made (Ops.Shift j) o n c q s f = either (Ops.Shift j) o refl refl s f
    goes_other below made (Ops.Compare j) o n c q s f = either (Ops.Compare j) o refl refl s f
    goes_other below made (Ops.Bool j) o n c q s f = either (Ops.Bool j) o refl refl s f
    goes_other below made (Ops.Trap t) o n c q s f = absurd (false≢true c)
    goes_other below made (Ops.Call j i) o n c q s f = absurd (false≢true c)
    goes_other below made (Ops.Select i) o n c q s f = absurd (false≢true c)
    goes_other below made (Ops.Opaque j) o n c q s f = absurd (false≢true c)
    goes_other below made (Ops.Float j) o n c q s f = absurd (false≢true c)
    goes_other below made (Ops.Divide j) o n c q s f = absurd (false≢true c)
    goes_other below made (Ops.Rotate j) o n c q s f = absurd (false≢true c)
