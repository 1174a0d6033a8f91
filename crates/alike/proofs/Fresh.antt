-- A run that reads no temporary byte last written by an earlier instruction does not care what markers leave in the temporaries written so far.
use Rattle.std.proofs.Common.{ℕ, suc, ◌≤◌, ◌≡◌, refl, sym, ap, ap₂, ◌∙◌, Bool, true, false, not, ◌&&◌, ◌||◌, true≢false, List, [], ◌∷◌, ◌++◌, eq-eqb, length}
use mathlib.Core.Bool.{false≢true}
use Rattle.pcode.specs.Var.{same_id}
use Rattle.pcode.specs.Block.{lasting}
use Rattle.pcode.specs.declared.var.VarId.{VarId}
use Rattle.pcode.specs.declared.var.Operand.{Operand}
use Rattle.pcode.specs.declared.var.Operand.TheVariants.{None, Const, Var}
use Rattle.pcode.specs.declared.block.Stmt.{Stmt}
use Rattle.pcode.specs.declared.block.Marks.{Marks}
use Rattle.pcode.proofs.Ids.{same_id_true}
use Rattle.vars.proofs.Rows.{ways}
use Rattle.live_bytes.specs.Bytes.{inside}
use Rattle.live_bytes.proofs.Runs.{any_not, inside_small}
use Rattle.dead_store.specs.Stays.{names, writes}
use Rattle.machine.specs.Values.{value_in}
use Rattle.step.specs.Steps.{Machine, act_of, events_of, flow_of, rows_after, loads_after, step_of}
use Rattle.step.specs.declared.Act.{Act}
use Rattle.step.specs.Steps.{Flow}
use Rattle.std.specs.Prelude.{None as Next, Some as Jump}
use Rattle.run.specs.Run.{arrived, run_from, Shape}
use Rattle.alike.specs.ById.{Start}
use Rattle.alike.specs.Premises.{Since, stale, reads_stale, wrote, since_after, reads_fresh}
use Rattle.alike.proofs.Fits.{AllFit}
use Rattle.alike.proofs.Havoc.{State, Set, value_by, put_by, result_by, mixed, view, Sight, ended, sights_of, Temps, temps_after, bytes_after, Holding, holding, reached, also, rough, held_after, run_by}
use Rattle.alike.proofs.Parts.{Agree, value_cong, put_other, put_agree, mixed_agree, mixed_same, view_cong}
use Rattle.alike.proofs.Tables.{state_of, AllKnown, value_rows}
use Rattle.alike.proofs.Seen.{seen, seen_append, seen_events, bytes_rows, shape_after}
use Rattle.alike.proofs.Bools.{or_left, or_right, and_left, and_right, or_none_left, or_none_right, not_true}

-- the bytes that may be read: the lasting ones, and those that no earlier instruction wrote last
abbrev pub Fresh : Marks → Since → Set
Fresh ms w id k = lasting ms id || not (w.before id k)

-- a byte of an operand that is not stale is fresh
fresh_names : (ms : Marks) (w : Since) (a : Operand) → stale ms w a ≡ false → (id : VarId) (k : ℕ) → names a id k ≡ true → Fresh ms w id k ≡ true
fresh_names ms w None e id k h = absurd (false≢true h)
fresh_names ms w (Const v n) e id k h = absurd (false≢true h)
fresh_names ms w (Var v) e id k h =
    let i : inside v k ≡ true = and_right (same_id v.id id) (inside v k) h in
    let q : v.id ≡ id = same_id_true v.id id (and_left (same_id v.id id) (inside v k) h) in
    rw (← q) (by (lasting ms v.id) (inside v k) i (w.before v.id k)
    (λ l. any_not 16 (λ n. inside v n && w.before v.id n) k (sym (rw l) ∙ e) (inside_small v k i)))
  where
    by : (b c : Bool) → c ≡ true → (d : Bool) → (b ≡ false → (c && d) ≡ false) → (b || not d) ≡ true
    by true c i d f = refl
    by false c i true f = absurd (true≢false (sym (rw i) ∙ f refl))
    by false c i false f = refl

-- the contents that are left
abbrev shift : Act → (ℕ → State) → ℕ → State
shift Act.Nothing u = u
shift Act.Marks u = λ n. u (suc n)
shift (Act.Jumps l) u = u
shift (Act.Exits n) u = u
shift (Act.Loads n) u = u
shift (Act.Stores n) u = u
shift Act.Computes u = u

shifted : (act : Act) (u : ℕ → State) → rough (shift act u) ≡ temps_after act (rough u)
shifted Act.Nothing u = refl
shifted Act.Marks u = refl
shifted (Act.Jumps l) u = refl
shifted (Act.Exits n) u = refl
shifted (Act.Loads n) u = refl
shifted (Act.Stores n) u = refl
shifted Act.Computes u = refl

-- the bytes changed so far were written
abbrev Written : Set → Since → Type 0
Written v w = (id : VarId) (k : ℕ) → v id k ≡ true → (w.now id k || w.before id k) ≡ true

still_written : (o n b : Bool) → (o ≡ false → (n || b) ≡ true) → ((o || n) || (not o && b)) ≡ true
still_written true n b f = refl
still_written false n b f = f refl

-- a byte that stays was changed before, if at all
stayed : (x y : State) (v : Set) (id : VarId) (k : ℕ) → y id k ≡ x id k → also x y v id k ≡ true → v id k ≡ true
stayed x y v id k e q = sym (rw (e, eq-eqb (x id k) (x id k) refl)) ∙ q

module _ (v : Set) (w : Since) (s : Stmt) (h : Written v w) (ms : Marks) (y u : State) (z : ℕ) where
  wrote_more : Written (also y (put_by y s.output z) v) (wrote w s)
  wrote_more id k q =
      still_written (writes s id k) (w.now id k) (w.before id k)
      (λ e. h id k (stayed y (put_by y s.output z) v id k (put_other y s.output z id k e) q))

  mixed_more : (id : VarId) (k : ℕ) → also y (mixed ms v y u) v id k ≡ true → v id k ≡ true
  mixed_more id k q =
      ways (v id k) (λ t. t)
      (λ t. stayed y (mixed ms v y u) v id k (mixed_agree ms v y y u id k (λ l. refl) (λ l n. absurd (true≢false (sym n ∙ t))) (λ l n. refl)) q)

  written_after : (act : Act) → Written (also y (bytes_after ms act v y u s.output z) v) (since_after w s act)
  written_after Act.Nothing = wrote_more
  written_after Act.Marks = λ id k q. h id k (mixed_more id k q)
  written_after (Act.Jumps l) = wrote_more
  written_after (Act.Exits n) = wrote_more
  written_after (Act.Loads n) = wrote_more
  written_after (Act.Stores n) = wrote_more
  written_after Act.Computes = wrote_more

  module _ (x : State) (g : Agree (Fresh ms w) x y) where
    put_fresh : Agree (Fresh ms (wrote w s)) (put_by x s.output z) (put_by y s.output z)
    put_fresh id k f = put_agree x y s.output z id k (λ e. g id k (sym (ap (λ (b : Bool). lasting ms id || not (not b && w.before id k)) e) ∙ f))

    mixed_fresh : Agree (λ id k. lasting ms id || not (w.now id k || w.before id k)) (mixed ms v x x) (mixed ms v y u)
    mixed_fresh id k f =
        ap (λ (t : State). t id k) (mixed_same ms v x)
        ∙ sym (mixed_agree ms v y x u id k (λ l. sym (g id k (or_left (lasting ms id) _ l)))
        (λ l t. absurd (true≢false (sym (h id k t) ∙ unwritten l)))
        (λ l t. sym (g id k (rw (or_none_right (w.now id k) (w.before id k) (unwritten l)) (or_right (lasting ms id) true refl)))))
      where
        unwritten : lasting ms id ≡ false → (w.now id k || w.before id k) ≡ false
        unwritten l = not_true (w.now id k || w.before id k) (sym (rw l) ∙ f)

    fresh_after : (act : Act) → Agree (Fresh ms (since_after w s act)) (bytes_after ms act v x x s.output z) (bytes_after ms act v y u s.output z)
    fresh_after Act.Nothing = put_fresh
    fresh_after Act.Marks = mixed_fresh
    fresh_after (Act.Jumps l) = put_fresh
    fresh_after (Act.Exits n) = put_fresh
    fresh_after (Act.Loads n) = put_fresh
    fresh_after (Act.Stores n) = put_fresh
    fresh_after Act.Computes = put_fresh

module _ (ms : Marks) (ids : List VarId) (start : Start) (room : length ids ≤ 112) (answers : List ℕ) where
  -- a statement that reads nothing does the same with any values
  values_on : (w : Since) (s : Stmt) (act : Act) (ss : List Stmt) (t : State) (u : Temps) (v : Temps) (h : Holding) (a b a' b' : ℕ)
      → reads_stale ms w act s.first s.second ≡ false
      → ((stale ms w s.first || stale ms w s.second) ≡ false → (a ≡ a') × (b ≡ b'))
      → sights_of t act a b ++ run_by ms answers u ss (flow_of act a) (held_after ms answers v s act a b h)
      ≡ sights_of t act a' b' ++ run_by ms answers u ss (flow_of act a') (held_after ms answers v s act a' b' h)
  values_on w s Act.Nothing ss t u v h a b a' b' e f = refl
  values_on w s Act.Marks ss t u v h a b a' b' e f = refl
  values_on w s (Act.Jumps l) ss t u v h a b a' b' e f =
      ap₂ (λ (p q : ℕ). sights_of t (Act.Jumps l) p q ++ run_by ms answers u ss (flow_of (Act.Jumps l) p) (held_after ms answers v s (Act.Jumps l) p q h)) (f e).0 (f e).1
  values_on w s (Act.Exits n) ss t u v h a b a' b' e f =
      ap₂ (λ (p q : ℕ). sights_of t (Act.Exits n) p q ++ run_by ms answers u ss (flow_of (Act.Exits n) p) (held_after ms answers v s (Act.Exits n) p q h)) (f e).0 (f e).1
  values_on w s (Act.Loads n) ss t u v h a b a' b' e f =
      ap₂ (λ (p q : ℕ). sights_of t (Act.Loads n) p q ++ run_by ms answers u ss (flow_of (Act.Loads n) p) (held_after ms answers v s (Act.Loads n) p q h)) (f e).0 (f e).1
  values_on w s (Act.Stores n) ss t u v h a b a' b' e f =
      ap₂ (λ (p q : ℕ). sights_of t (Act.Stores n) p q ++ run_by ms answers u ss (flow_of (Act.Stores n) p) (held_after ms answers v s (Act.Stores n) p q h)) (f e).0 (f e).1
  values_on w s Act.Computes ss t u v h a b a' b' e f =
      ap₂ (λ (p q : ℕ). sights_of t Act.Computes p q ++ run_by ms answers u ss (flow_of Act.Computes p) (held_after ms answers v s Act.Computes p q h)) (f e).0 (f e).1

  pub free : (ss : List Stmt) (flow : Flow) (m : Machine) (w : Since) (y : State) (v : Set) (u : ℕ → State) → AllFit ss → AllKnown ids ss → Shape m.rows
      → reads_fresh ms ids answers ss flow m w ≡ true → Written v w → Agree (Fresh ms w) (state_of ids start m.rows) y
      → seen ms ids start (run_from ids answers ss flow m) ≡ run_by ms answers (rough u) ss flow (holding y v m.loads)
  unfolding run_from run_by seen step_of reads_fresh
  free [] flow m w y v u f k shape c h g =
      ap (λ (t : State). ended t ∷ []) (view_cong ms (state_of ids start m.rows) y (λ id l j b. g id j (or_left (lasting ms id) _ l)))
  free (s ∷ ss) (Jump l) m w y v u f k shape c h g = free ss (arrived l s.op) m w y v u f.1 k.1 shape c h g
  free (s ∷ ss) Next m w y v u f k shape c h g =
      let X = state_of ids start m.rows in
      let act = act_of s.op in
      let a = value_in ids m.rows s.first in
      let b = value_in ids m.rows s.second in
      let z = result_by answers m.loads s act a b in
      let next : Machine = record { rows = rows_after ids answers m.loads m.rows s act; loads = loads_after m.loads act } in
      let c₀ : reads_stale ms w act s.first s.second ≡ false = not_true _ (and_left (not (reads_stale ms w act s.first s.second)) _ c) in
      let seen-after : Agree (Fresh ms (since_after w s act)) (state_of ids start (rows_after ids answers m.loads m.rows s act)) (bytes_after ms act v y (u 0) s.output z) =
      λ id j p.
      ap (λ (t : State). t id j) (bytes_rows ms ids start room answers m.rows shape m.loads s k.0 act v f.0.output f.0.quiet)
      ∙ fresh_after v w s h ms y (u 0) z X g act id j p in
      let y' = bytes_after ms act v y (u 0) s.output z in
      let ih = free ss (flow_of act a) next (since_after w s act) y' (also y y' v) (shift act u) f.1 k.1
      (shape_after ms ids start room answers m.rows shape m.loads s k.0 act f.0.output)
      (and_right (not (reads_stale ms w act s.first s.second)) _ c) (written_after v w s h ms y (u 0) z act) seen-after in
      seen_append ms ids start (events_of m.rows act a b) (run_from ids answers ss (flow_of act a) next)
      ∙ ap₂ (λ (p q : List Sight). p ++ q)
      (seen_events ms ids start m.rows act a b ∙ ap (λ (t : State). sights_of t act a b) (view_cong ms X y (λ id l j q. g id j (or_left (lasting ms id) _ l)))) ih
      ∙ ap (λ (t : Temps). sights_of (view ms y) act a b ++ run_by ms answers t ss (flow_of act a) (reached y' act (holding y v m.loads))) (shifted act u)
      ∙ values_on w s act ss (view ms y) (temps_after act (rough u)) (rough u) (holding y v m.loads) a b (value_by y s.first) (value_by y s.second) c₀
      (λ e. (
        value_rows ids start room m.rows shape s.first f.0.first k.0.first
            ∙ value_cong X y s.first f.0.first (λ id j q. g id j (fresh_names ms w s.first (or_none_left (stale ms w s.first) (stale ms w s.second) e) id j q)),
        value_rows ids start room m.rows shape s.second f.0.second k.0.second
            ∙ value_cong X y s.second f.0.second (λ id j q. g id j (fresh_names ms w s.second (or_none_right (stale ms w s.first) (stale ms w s.second) e) id j q)),
      ))
