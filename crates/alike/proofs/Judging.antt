-- The statements that stay by the second pass's definition meet the local rules: what is needed is what it says.
use Rattle.std.proofs.Common.{ℕ, ◌≡◌, refl, sym, ap, ◌∙◌, subst, Bool, true, false, not, ◌&&◌, ◌||◌, true≢false, List, [], ◌∷◌}
use mathlib.Core.Bool.{false≢true}
use Rattle.pcode.specs.Var.{same_id, as_operand}
use Rattle.pcode.specs.Rules.{side_effects}
use Rattle.pcode.specs.Block.{lasting}
use Rattle.pcode.specs.declared.var.VarId.{VarId}
use Rattle.pcode.specs.Var.{Output}
use Rattle.std.specs.declared.option.Option.TheVariants as Out
use Rattle.pcode.specs.declared.block.Stmt.{Stmt}
use Rattle.pcode.specs.declared.block.Marks.{Marks}
use Rattle.pcode.proofs.Ids.{same_id_true}
use Rattle.vars.proofs.Rows.{ways}
use Rattle.live_bytes.specs.Bytes.{inside}
use Rattle.live_bytes.proofs.Runs.{any_not, inside_small}
use Rattle.live_tables.specs.declared.rows.Edge.{Edge}
use Rattle.live_tables.specs.declared.rows.Edge.TheVariants.{Inside, Branch, Label, Marker}
use Rattle.live_tables.specs.Rows.{edge_of, ends, is_marker}
use Rattle.dead_store.specs.Stays.{Judged, names, reads, writes, overwritten, read_next, rewritten, read_later, needed, writes_some, stays, judge, dead_of, without}
use Rattle.step.specs.declared.Act.{Act}
use Rattle.alike.proofs.Fits.{Quiet, Fit, AllFit}
use Rattle.alike.proofs.Havoc.{Set}
use Rattle.alike.proofs.Deals.{Deals, marks, jumps, exits, label, silent, loads, stores, computes, deals, inner}
use Rattle.alike.proofs.Bools.{or_right, and_left, and_right, or_none_left, or_none_right}
use Rattle.alike.proofs.Elim.{Lasting, Rule, Elim, fin, keep, drop}

-- the bytes needed before statements: those read, and those of persisting variables that nothing overwrites in the stretch
abbrev pub need : (VarId → Bool) → List Judged → Set
need p js id k = needed js id k || (p id && not (overwritten js id k))

-- the bytes needed at a later label of the instruction
abbrev pub cross : (VarId → Bool) → List Judged → Set
cross p js id k = read_later js id k || p id

-- both above a statement, of what is below: read next (n), rewritten (w), read later (l), persisting (p), overwritten (v)
abbrev need_over : Edge → Bool → Bool → Bool → Bool → Bool → Bool → Bool → Bool → Bool
need_over e kept reads writes n w l p v =
    (((kept && reads) || (not (kept && writes) && (not (ends e) && n)))
    || (not ((kept && writes) || (not (ends e) && w)) && (not (is_marker e) && ((ends e && n) || l))))
    || (p && not (writes || (not (ends e) && v)))

abbrev need_below : Bool → Bool → Bool → Bool → Bool → Bool
need_below n w l p v = (n || (not w && l)) || (p && not v)

abbrev cross_over : Edge → Bool → Bool → Bool → Bool
cross_over e n l p = (not (is_marker e) && ((ends e && n) || l)) || p

read_kept : (e : Edge) (r o n w l p v : Bool) → r ≡ true → need_over e true r o n w l p v ≡ true
read_kept e true o n w l p v h = refl
read_kept e false o n w l p v h = absurd (false≢true h)

-- what is needed below an edge is read below it, read later, or persists
below : (n w l p v : Bool) → need_below n w l p v ≡ true → ((n || l) || p) ≡ true
below true w l p v h = refl
below false w true p v h = refl
below false w false true v h = refl
below false true false false v h = h
below false false false false v h = h

at_edge : (r n l p : Bool) → ((n || l) || p) ≡ true → (((r || false) || (n || l)) || (p && true)) ≡ true
at_edge true n l p h = refl
at_edge false true l p h = refl
at_edge false false true p h = refl
at_edge false false false true h = refl
at_edge false false false false h = h

inside_over : (r n w l p v : Bool) → need_below n w l p v ≡ true → ((((r || n) || (not w && l))) || (p && not v)) ≡ true
inside_over true n w l p v h = refl
inside_over false n w l p v h = h

over_kept : (e : Edge) (r o n w l p v : Bool) → is_marker e ≡ false → need_below n w l p v ≡ true → o ≡ false → need_over e true r o n w l p v ≡ true
over_kept e r true n w l p v m h q = absurd (true≢false q)
over_kept Inside r false n w l p v m h q = inside_over r n w l p v h
over_kept Branch r false n w l p v m h q = at_edge r n l p (below n w l p v h)
over_kept Label r false n w l p v m h q = at_edge r n l p (below n w l p v h)
over_kept Marker r false n w l p v m h q = absurd (true≢false m)

wider : (n l p : Bool) → (l || p) ≡ true → ((n || l) || p) ≡ true
wider true l p h = refl
wider false l p h = h

later_over : (e : Edge) (n l p : Bool) → is_marker e ≡ false → (l || p) ≡ true → cross_over e n l p ≡ true
later_over Inside n l p m h = h
later_over Branch n l p m h = wider n l p h
later_over Label n l p m h = wider n l p h
later_over Marker n l p m h = absurd (true≢false m)

persist_kept : (e : Edge) (r o n w l p v : Bool) → ends e ≡ true → o ≡ false → p ≡ true → need_over e true r o n w l p v ≡ true
persist_kept e r true n w l p v t q h = absurd (true≢false q)
persist_kept e r false n w l false v t q h = absurd (false≢true h)
persist_kept Inside r false n w l true v t q h = absurd (false≢true t)
persist_kept Branch r false n w l true v t q h = or_right ((r || false) || (n || l)) true refl
persist_kept Label r false n w l true v t q h = or_right ((r || false) || (n || l)) true refl
persist_kept Marker r false n w l true v t q h = or_right ((r || false) || false) true refl

across_kept : (e : Edge) (r o n w l p v : Bool) → ends e ≡ true → is_marker e ≡ false → o ≡ false → (l || p) ≡ true → need_over e true r o n w l p v ≡ true
across_kept e r true n w l p v t m q h = absurd (true≢false q)
across_kept Inside r false n w l p v t m q h = absurd (false≢true t)
across_kept Branch r false n w l p v t m q h = at_edge r n l p (wider n l p h)
across_kept Label r false n w l p v t m q h = at_edge r n l p (wider n l p h)
across_kept Marker r false n w l p v t m q h = absurd (true≢false m)

landing_over : (e : Edge) (n w l p v : Bool) → ends e ≡ true → is_marker e ≡ false → need_below n w l p v ≡ true → cross_over e n l p ≡ true
landing_over Inside n w l p v t m h = absurd (false≢true t)
landing_over Branch n w l p v t m h = below n w l p v h
landing_over Label n w l p v t m h = below n w l p v h
landing_over Marker n w l p v t m h = absurd (true≢false m)

-- a statement that does not stay
over_dropped : (e : Edge) (r o n w l p v : Bool) → e ≡ Inside → o ≡ false → need_below n w l p v ≡ true → need_over e false r o n w l p v ≡ true
over_dropped Inside r true n w l p v i q h = absurd (true≢false q)
over_dropped Inside r false n w l p v i q h = h
over_dropped Branch r o n w l p v i q h = absurd (true≢false (ap ends i))
over_dropped Label r o n w l p v i q h = absurd (true≢false (ap ends i))
over_dropped Marker r o n w l p v i q h = absurd (true≢false (ap ends i))

-- what ends a stretch writes nothing
quiet_edge : {act : Act} {edge : Edge} {effects : Bool} (o : Output) → Deals act edge effects → ends edge ≡ true → Quiet act o → o ≡ Out.None
quiet_edge o marks e q = q
quiet_edge o jumps e q = q
quiet_edge o exits e q = q
quiet_edge o label e q = q
quiet_edge o silent e q = q
quiet_edge o loads e q = absurd (false≢true e)
quiet_edge o stores e q = q
quiet_edge o computes e q = absurd (false≢true e)

edge_writes : (s : Stmt) → Fit s → ends (edge_of s.op) ≡ true → (id : VarId) (k : ℕ) → writes s id k ≡ false
edge_writes s f e id k = ap (λ (o : Output). names (as_operand o) id k) (quiet_edge s.output (deals s.op) e f.quiet)

-- a statement that does not stay writes no byte that passes the test
unmet : (o : Output) (f : VarId → ℕ → Bool) → writes_some o f ≡ false → (id : VarId) (k : ℕ) → names (as_operand o) id k ≡ true → f id k ≡ false
unmet Out.None f e id k h = absurd (false≢true h)
unmet (Out.Some v) f e id k h =
    let i : inside v k ≡ true = and_right (same_id v.id id) (inside v k) h in
    let q : (inside v k && f v.id k) ≡ false = any_not 16 (λ n. inside v n && f v.id n) k e (inside_small v k i) in
    let z : f v.id k ≡ false = sym (rw i) ∙ q in
    subst (λ (x : VarId). f x k ≡ false) (same_id_true v.id id (and_left (same_id v.id id) (inside v k) h)) z

swapped : (a b : Bool) → (a || b) ≡ false → (b || a) ≡ true → ⊥
swapped true b e h = true≢false e
swapped false true e h = true≢false e
swapped false false e h = false≢true h

module _ (ms : Marks) (p : VarId → Bool) (keeps : (id : VarId) → lasting ms id ≡ true → p id ≡ true) where
  module _ (s : Stmt) (f : Fit s) (js : List Judged) where
    abbrev now : Bool → Judged
    now b = record { stmt = s; kept = b }

    pub kept_rule : Rule ms s (need p (now true ∷ js)) (cross p (now true ∷ js)) (need p js) (cross p js)
    unfolding read_next rewritten read_later overwritten
    kept_rule = record {
      reading = λ id k h. read_kept (edge_of s.op) (reads s id k) (writes s id k) (read_next js id k) (rewritten js id k) (read_later js id k) (p id) (overwritten js id k) h;
      over = λ m id k h q. over_kept (edge_of s.op) (reads s id k) (writes s id k) (read_next js id k) (rewritten js id k) (read_later js id k) (p id) (overwritten js id k) m h q;
      later = λ m id k h. later_over (edge_of s.op) (read_next js id k) (read_later js id k) (p id) m h;
      shown = λ t id k h. persist_kept (edge_of s.op) (reads s id k) (writes s id k) (read_next js id k) (rewritten js id k) (read_later js id k) (p id) (overwritten js id k) t (edge_writes s f t id k) (keeps id h);
      across = λ t m id k h. across_kept (edge_of s.op) (reads s id k) (writes s id k) (read_next js id k) (rewritten js id k) (read_later js id k) (p id) (overwritten js id k) t m (edge_writes s f t id k) h;
      landing = λ t m id k h. landing_over (edge_of s.op) (read_next js id k) (rewritten js id k) (read_later js id k) (p id) (overwritten js id k) t m h;
    }

    module _ (e : stays p s js ≡ false) where
      pub effects : side_effects s.op ≡ false
      effects = or_none_left (side_effects s.op) _ e

      pub unwritten : (id : VarId) (k : ℕ) → need p js id k ≡ true → writes s id k ≡ false
      unwritten id k h =
          ways (writes s id k)
          (λ t. absurd (swapped (p id && not (overwritten js id k)) (needed js id k)
          (unmet s.output (λ i n. (p i && not (overwritten js i n)) || needed js i n) (or_none_right (side_effects s.op) _ e) id k t) h))
          (λ t. t)

      pub dropped_need : (id : VarId) (k : ℕ) → need p js id k ≡ true → need p (now false ∷ js) id k ≡ true
      unfolding read_next rewritten read_later overwritten
      dropped_need id k h =
          over_dropped (edge_of s.op) (reads s id k) (writes s id k) (read_next js id k) (rewritten js id k) (read_later js id k) (p id) (overwritten js id k)
          (inner (deals s.op) effects) (unwritten id k h) h

      pub dropped_cross : (id : VarId) (k : ℕ) → cross p js id k ≡ true → cross p (now false ∷ js) id k ≡ true
      unfolding read_later
      dropped_cross id k h = later_over (edge_of s.op) (read_next js id k) (read_later js id k) (p id) (ap is_marker (inner (deals s.op) effects)) h

  end_need : Lasting ms (need p [])
  unfolding read_next rewritten read_later overwritten
  end_need id k l = rw (keeps id l)

  -- the pass's own choice
  pub elim_of : (ss : List Stmt) → AllFit ss → Elim ms ss (without (dead_of (judge p ss)) ss) (need p (judge p ss)) (cross p (judge p ss))
  unfolding judge dead_of without
  elim_of [] f = fin end_need
  elim_of (s ∷ ss) f = by (elim_of ss f.1) (stays p s (judge p ss)) refl
    where
      by : Elim ms ss (without (dead_of (judge p ss)) ss) (need p (judge p ss)) (cross p (judge p ss)) → (b : Bool) → stays p s (judge p ss) ≡ b
          → Elim ms (s ∷ ss) (without (not b ∷ dead_of (judge p ss)) (s ∷ ss)) (need p (record { stmt = s; kept = b } ∷ judge p ss)) (cross p (record { stmt = s; kept = b } ∷ judge p ss))
      by ih true e = keep ih (kept_rule s f.0 (judge p ss))
      by ih false e =
          drop ih (effects s f.0 (judge p ss) e) (unwritten s f.0 (judge p ss) e) (dropped_need s f.0 (judge p ss) e) (dropped_cross s f.0 (judge p ss) e)
