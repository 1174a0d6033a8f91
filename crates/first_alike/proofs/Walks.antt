-- The whole walk: the run of a block is the run of the first pass's result.
use Rattle.std.proofs.Common.{Option, None as Nothing, Some, Result, Ok, Err, ℕ, ◌+◌, ◌*◌, ◌≤◌, arith, ◌≡◌, refl, sym, ap, ◌∙◌, subst, true, false, List, [], ◌∷◌, ◌++◌, append_assoc, take, length, None as Next, Some as Jump}
use lib.ListN.{length-replicate}
use lib.Seq.{take-append_seam}
use Rattle.pcode.specs.Block.{held, has_id, lasting}
use Rattle.pcode.specs.declared.var.VarId.{VarId}
use Rattle.pcode.specs.declared.var.PcodeLabel.{PcodeLabel}
use Rattle.std.specs.declared.option.Option.TheVariants as Out
use Rattle.pcode.specs.declared.block.Stmt.{Stmt}
use Rattle.pcode.specs.declared.block.Marks.{Marks}
use Rattle.pcode.specs.declared.refusal.Refusal.{Refusal}
use Rattle.vars.specs.Vars.{row_of, held_ids, vars_of}
use Rattle.vars.specs.declared.Vars.{Vars}
use Rattle.const_eval.specs.State as Known
use Rattle.widen.specs.Turn.{turn_of}
use Rattle.widen.specs.declared.widen.Why.{Why}
use Rattle.widen.specs.Widen.{made_in}
use Rattle.widen.specs.declared.widen.Made.{Made}
use Rattle.pcode.specs.declared.block.Block.{Block}
use Rattle.const_step.specs.Labels.{targets_of, branch_of, end_of}
use Rattle.const_prop.specs.Pass.{Env, all_ids, least_of, Walk, step_of, stmts_of, after_step, block_with, gives, answer_by, walk_from, zeros, no_store, no_use, no_map, start_state, start_walk, temporary_flags, env_of, propagated_of}
use Rattle.machine.specs.Class.{own_class, in_class}
use Rattle.step.specs.Steps.{act_of}
use Rattle.step.specs.declared.Act.TheVariants as Act
use Rattle.step.specs.Steps.{Flow}
use Rattle.alike.proofs.Fits.{Quiet}
use Rattle.alike.proofs.Havoc.{State, put_by, view, Sight, ended, Holding, reached, rough, run_by}
use Rattle.alike.proofs.Parts.{Bytewise}
use Rattle.alike.proofs.Second.{start_holding, start_bytes}
use Rattle.alike.proofs.Both.{FirstAlike}
use Rattle.first_alike.proofs.Valid.{Rows, Valid, none_used}
use Rattle.first_alike.proofs.Uses.{Stage, stage_less, live_none}
use Rattle.first_alike.proofs.Pairs.{Real, Pair, view_alike, run_step}
use Rattle.first_alike.proofs.Prepared.{Sits}
use Rattle.first_alike.proofs.Outputs.{IsFine}
use Rattle.first_alike.proofs.Turns.{Stands, along, ahead, off}
use Rattle.first_alike.proofs.Labels.{Each, Passes, jump_over}
use Rattle.first_alike.proofs.Passing.{kind_of, step_stage, step_goes}
use Rattle.first_alike.proofs.Least.{floor_of, added_under, vars_real, lasting_real}

-- what the laws ask of a statement: its operands and output, an operation of the run class, an output only where it may be
pub record Runs (ids : List VarId) (st : Stmt) : Type 0 where
  pub sits : Sits ids st
  pub class : in_class own_class st.op ≡ true
  pub quiet : Quiet (act_of st.op) st.output

unfoldable pub AllRun : List VarId → List Stmt → Type 0
AllRun ids [] = Unit {0}
AllRun ids (s ∷ ss) = Runs ids s × AllRun ids ss

-- what the walk makes of the rest of a block
unfoldable pub tail_from : Env → Walk → List Stmt → List Stmt
tail_from env w [] = stmts_of (end_of w.skip)
tail_from env w (st ∷ rest) = stmts_of (made_in (step_of env rest w st).made) ++ tail_from env (after_step w (step_of env rest w st)) rest

-- no step is refused
unfoldable pub Fines : Env → Walk → List Stmt → Type 0
Fines env w [] = Unit {0}
Fines env w (st ∷ rest) = IsFine (step_of env rest w st).made × Fines env (after_step w (step_of env rest w st)) rest

fine_step : (y : Result Made Why) (i : ℕ) (next : Result Block Refusal) (b : Block) → answer_by y i next ≡ Ok b → IsFine y × (answer_by y i next ≡ next) × (next ≡ Ok b)
fine_step (Ok m) i next b h = (tt, refl, h)
fine_step (Err y) i next b h = absurd (cc)

-- an accepted block's result
pub walk_gives : (env : Env) (i : ℕ) (w : Walk) (ss : List Stmt) (b : Block) → walk_from env i w ss ≡ Ok b → Fines env w ss × (walk_from env i w ss ≡ gives (w.made ++ tail_from env w ss))
unfolding walk_from tail_from Fines
walk_gives env i w [] b h = (tt, refl)
walk_gives env i w (st ∷ rest) b h =
    let x = step_of env rest w st in
    let p = fine_step x.made i (walk_from env (i + 1) (after_step w x) rest) b h in
    let ih = walk_gives env (i + 1) (after_step w x) rest b p.2 in
    ((p.0, ih.0), p.1 ∙ ih.1 ∙ ap gives (append_assoc w.made (stmts_of (made_in x.made)) (tail_from env (after_step w x) rest)))

one_branch : (t l : PcodeLabel) → Passes l (branch_of t ∷ [])
unfolding Each
one_branch t l = (refl, tt)

module _ (ms : Marks) (answers : List ℕ) (block : List Stmt) (vars : Vars) (table : held_ids vars ≡ vars_of block) (few : length (held_ids vars) ≤ 48) where
  abbrev floor : VarId
  floor = floor_of block

  abbrev env : Env
  env = env_of vars ms block

  real : (id : VarId) → lasting ms id ≡ true → Real ms answers floor id
  real id h = lasting_real ms block id h

  real_ids : (id : VarId) → has_id (held_ids vars) id ≡ true → Real ms answers floor id
  real_ids id h = vars_real block id (subst (λ (l : List VarId). has_id l id ≡ true) table h)

  -- the end of a run
  over : (u : ℕ → State) (f : Flow) (h : Holding) → run_by ms answers (rough u) [] f h ≡ ended (view ms h.bytes) ∷ []
  unfolding run_by
  over u f h = refl

  same_put : (s : State) (id : VarId) (i : ℕ) → s id i ≡ put_by s Out.None 0 id i
  unfolding put_by
  same_put s id i = refl

  end_alike : (u : ℕ → State) (h g : Holding) (f f₁ : Flow) → Pair ms answers floor h g → run_by ms answers (rough u) [] f h ≡ run_by ms answers (rough u) [] f₁ g
  end_alike u h g f f₁ p = over u f h ∙ ap (λ (s : State). ended s ∷ []) (view_alike ms answers floor real h.bytes g.bytes p.bytes) ∙ sym (over u f₁ g)

  end_goes : (u : ℕ → State) (h g : Holding) (k : Option PcodeLabel) (made : List Stmt) (K : Known.State) {f f₁ : Flow} → Pair ms answers floor h g → Stands (held_ids vars) k made K h.bytes f f₁
      → run_by ms answers (rough u) [] f h ≡ run_by ms answers (rough u) (stmts_of (end_of k)) f₁ g
  end_goes u h g k made K p (along e v) = subst (λ (x : Option PcodeLabel). run_by ms answers (rough u) [] Next h ≡ run_by ms answers (rough u) (stmts_of (end_of x)) Next g) (sym e) (end_alike u h g Next Next p)
  end_goes u h g k made K p (ahead l e v) =
      subst (λ (x : Option PcodeLabel). run_by ms answers (rough u) [] (Jump l) h ≡ run_by ms answers (rough u) (stmts_of (end_of x)) Next g) (sym e)
      (over u (Jump l) h
      ∙ ap (λ (s : State). ended s ∷ []) (view_alike ms answers floor real h.bytes (put_by g.bytes Out.None 0) (λ id r i. p.bytes id r i ∙ same_put g.bytes id i))
      ∙ sym (run_step ms answers floor u (branch_of l) [] g 1 0 refl refl ∙ over u (Jump l) (reached (put_by g.bytes Out.None 0) (Act.Jumps l) g)))
  end_goes u h g k made K p (off l r) = by k
    where
      by : (k : Option PcodeLabel) → run_by ms answers (rough u) [] (Jump l) h ≡ run_by ms answers (rough u) (stmts_of (end_of k)) (Jump l) g
      by Nothing = end_alike u h g (Jump l) (Jump l) p
      by (Some t) = end_alike u h g (Jump l) (Jump l) p ∙ sym (jump_over ms answers floor vars u (branch_of t ∷ []) [] l g (one_branch t l))

  -- the two runs over the rest of a block
  pub sim : (ss : List Stmt) (w : Walk) (u : ℕ → State) → ((n : ℕ) → Bytewise (u n)) → (h g : Holding) {f f₁ : Flow} → AllRun (held_ids vars) ss → Fines env w ss
      → Stage (held_ids vars) (4 * length ss) w.state → Pair ms answers floor h g → Stands (held_ids vars) w.skip w.made w.state h.bytes f f₁
      → run_by ms answers (rough u) ss f h ≡ run_by ms answers (rough u) (tail_from env w ss) f₁ g
  unfolding tail_from Fines AllRun step_of
  sim [] w u calm h g r y s p q = end_goes u h g w.skip w.made w.state p q
  sim (st ∷ rest) w u calm h g r y s p q =
      let j : ℕ = 4 * length rest in
      let t : Stage (held_ids vars) (j + 4) w.state = stage_less (held_ids vars) (j + 4) (4 * length (st ∷ rest)) w.state (omega arith) s in
      let x =
      step_goes vars few ms answers floor real real_ids u calm h g p w.made (least_of env w.made) (added_under floor (all_ids w.made)) j st.first st.second w.state t
      (targets_of rest) w.skip st.output (kind_of st.op) r.0.class r.0.quiet r.0.sits y.0 q in
      let z = step_stage vars few j (temporary_flags ms (take 48 vars.ids)) (targets_of rest) (targets_of w.made) (least_of env w.made) w.skip (turn_of st.op) st w.state r.0.sits t in
      x.one rest
      ∙ ap (λ (l : List Sight). x.sights ++ l) (sim rest (after_step w (step_of env rest w st)) x.on x.calm x.after x.after₁ r.1 y.1 z x.pair x.stands)
      ∙ sym (x.two (tail_from env (after_step w (step_of env rest w st)) rest))

  -- the start: nothing is known
  start_stage : (n : ℕ) → n ≤ 256 → Stage (held_ids vars) n start_state
  unfolding zeros
  start_stage n h =
      let a : length no_use ≡ 48 = length-replicate {A = ℕ} 48 0 in
      let b : length no_store ≡ 6144 = length-replicate {A = ℕ} 6144 0 in
      let c : length no_map ≡ 33536 = length-replicate {A = ℕ} 33536 0 in
      record {
        able =
            record {
              good = record { rows = b ∙ ap (λ (i : ℕ). 128 * i) (sym a); room = omega arith; inside = tt };
              room = omega (arith, c, h);
              ids = omega (arith, h);
              rows = omega (arith, a);
            };
        full = a;
        live = live_none (held_ids vars) no_use;
      }

  start_valid : (s : State) → Valid (held_ids vars) start_state s
  unfolding Rows zeros
  start_valid s = record { values = λ i o. false; rows = λ τ b id h u k l. absurd (none_used 48 (row_of (held_ids vars) id) u) }

  held_gives : (l : List Stmt) → held (block_with l) ≡ l
  held_gives l = take-append_seam l _

  -- the first pass's half of demand 3
  pub first_alike : (made : Block) → AllRun (held_ids vars) block → length block ≤ 64 → propagated_of vars ms block ≡ Ok made → FirstAlike ms answers block (held made)
  first_alike made r short ok start b u c =
      let e = walk_gives env 0 start_walk block made ok in
      let h = start_holding start in
      let p : Pair ms answers floor h h = record { bytes = λ id q k. refl; changed = λ id q k. refl; loads = refl; bytewise = start_bytes start b } in
      let q : made ≡ block_with (tail_from env start_walk block) = same_block made _ (sym ok ∙ e.1) in
      let m : held made ≡ tail_from env start_walk block = ap held q ∙ held_gives (tail_from env start_walk block) in (
        u,
        sim block start_walk u c h h r e.0 (start_stage (4 * length block) (omega arith)) p (along refl (start_valid h.bytes))
            ∙ ap (λ (l : List Stmt). run_by ms answers (rough u) l Next h) (sym m),
      )
    where
      same_block : (x y : Block) → ◌≡◌ {A = Result Block Refusal} (Ok x) (Ok y) → x ≡ y
      same_block x y e = cc
