-- The second pass's soundness: any choice of kept statements that has a need at each place which meets the local rules runs alike, for some
-- content of the temporaries at the markers.
use Rattle.std.proofs.Common.{ℕ, zero, suc, ◌≡◌, refl, sym, ap, ap₂, ◌∙◌, Bool, true, false, not, ◌&&◌, true≢false, List, [], ◌∷◌, ◌++◌, eqb, eqb-true}
use mathlib.Core.Bool.{false≢true}
use Rattle.pcode.specs.Var.{pick, as_operand}
use Rattle.pcode.specs.Rules.{side_effects}
use Rattle.pcode.specs.Block.{lasting}
use Rattle.pcode.specs.declared.var.VarId.{VarId}
use Rattle.pcode.specs.declared.var.PcodeLabel.{PcodeLabel}
use Rattle.pcode.specs.Var.{Output}
use Rattle.pcode.specs.declared.block.Stmt.{Stmt}
use Rattle.pcode.specs.declared.block.Marks.{Marks}
use Rattle.checks.specs.Labels.{is_label}
use Rattle.live_tables.specs.declared.rows.Edge.{Edge}
use Rattle.live_tables.specs.declared.rows.Edge.TheVariants.{Inside, Branch, Label, Marker}
use Rattle.live_tables.specs.Rows.{edge_of, ends, is_marker}
use Rattle.dead_store.specs.Stays.{names, reads, writes}
use Rattle.step.specs.Steps.{act_of, flow_of, loads_after}
use Rattle.step.specs.declared.Act.{Act}
use Rattle.step.specs.Steps.{Flow}
use Rattle.std.specs.Prelude.{None as Next, Some as Jump}
use Rattle.run.specs.Run.{arrived}
use Rattle.alike.specs.Premises.{reaches, lands, in_one_instruction}
use Rattle.alike.proofs.Fits.{AllFit}
use Rattle.alike.proofs.Bools.{or_left, or_right, and_left, and_right, or_none_left, or_none_right, not_true}
use Rattle.alike.proofs.Havoc.{State, Set, value_by, put_by, result_by, mixed, view, Sight, ended, sights_of, Temps, temps_after, bytes_after, Holding, holding, reached, also, calm, rough, held_after, run_by}
use Rattle.alike.proofs.Parts.{Agree, Bytewise, put_bytes, value_cong, put_other, put_agree, mixed_agree, mixed_same, view_cong}
use Rattle.alike.proofs.Seen.{calm_on}
use Rattle.alike.proofs.Deals.{Deals, marks, jumps, exits, label, silent, loads, stores, computes, deals, computing, label_edge, not_label}

-- one set of bytes lies in another
abbrev pub Sub : Set → Set → Type 0
Sub f g = (id : VarId) (k : ℕ) → f id k ≡ true → g id k ≡ true

-- the bytes of the lasting variables lie in a set
abbrev pub Lasting : Marks → Set → Type 0
Lasting ms f = (id : VarId) (k : ℕ) → lasting ms id ≡ true → f id k ≡ true

-- the local rules of a kept statement. N: the bytes needed before it; C: those needed at a later label; N' and C': the same after it
pub record Rule (ms : Marks) (s : Stmt) (N C N' C' : Set) : Type 0 where
  pub reading : Sub (reads s) N
  pub over : is_marker (edge_of s.op) ≡ false → (id : VarId) (k : ℕ) → N' id k ≡ true → writes s id k ≡ false → N id k ≡ true
  pub later : is_marker (edge_of s.op) ≡ false → Sub C' C
  pub shown : ends (edge_of s.op) ≡ true → Lasting ms N
  pub across : ends (edge_of s.op) ≡ true → is_marker (edge_of s.op) ≡ false → Sub C' N
  pub landing : ends (edge_of s.op) ≡ true → is_marker (edge_of s.op) ≡ false → Sub N' C

-- r' is r without some dead statements
pub data Elim (ms : Marks) : List Stmt → List Stmt → Set → Set → Type 0 where
  fin : {N C : Set} → Lasting ms N → Elim ms [] [] N C
  keep : {s : Stmt} {r r' : List Stmt} {N C N' C' : Set} → Elim ms r r' N' C' → Rule ms s N C N' C' → Elim ms (s ∷ r) (s ∷ r') N C
  drop : {s : Stmt} {r r' : List Stmt} {N C N' C' : Set} → Elim ms r r' N' C' → side_effects s.op ≡ false
      → ((id : VarId) (k : ℕ) → N' id k ≡ true → writes s id k ≡ false) → Sub N' N → Sub C' C → Elim ms (s ∷ r) r' N C

-- the bytes needed on the way, and on the way to a label
abbrev pub at : Flow → Set → Set → Set
at Next N C = N
at (Jump l) N C = C

-- a jump has its label below it in its instruction
abbrev pub Lands : Flow → List Stmt → Type 0
Lands Next r = Unit {0}
Lands (Jump l) r = reaches l r ≡ true

unfoldable pub push : State → (ℕ → State) → ℕ → State
push t u zero = t
push t u (suc n) = u n

-- the contents, with what a marker leaves put before them
abbrev grow : Act → State → (ℕ → State) → ℕ → State
grow Act.Nothing t u = u
grow Act.Marks t u = push t u
grow (Act.Jumps l) t u = u
grow (Act.Exits n) t u = u
grow (Act.Loads n) t u = u
grow (Act.Stores n) t u = u
grow Act.Computes t u = u

marker_ends : (edge : Edge) → is_marker edge ≡ true → ends edge ≡ true
marker_ends Inside e = e
marker_ends Branch e = refl
marker_ends Label e = refl
marker_ends Marker e = refl

-- a byte that a step did not change
unchanged : (x x' : State) (w : Set) (id : VarId) (k : ℕ) → also x x' w id k ≡ false → x id k ≡ x' id k
unchanged x x' w id k e = eqb-true (x id k) (x' id k) (by (eqb (x id k) (x' id k)) (or_none_left (not (eqb (x id k) (x' id k))) (w id k) e))
  where
    by : (b : Bool) → not b ≡ false → b ≡ true
    by true e = refl
    by false e = absurd (true≢false e)

-- only what ends a stretch shows the rows
views : {act : Act} {edge : Edge} {effects : Bool} → Deals act edge effects → (a b : ℕ) (x y : State) → (ends edge ≡ true → x ≡ y) → sights_of x act a b ≡ sights_of y act a b
views marks a b x y e = ap (λ (s : State). sights_of s Act.Marks a b) (e refl)
views jumps a b x y e = refl
views (exits {n = n}) a b x y e = ap (λ (s : State). sights_of s (Act.Exits n) a b) (e refl)
views label a b x y e = refl
views silent a b x y e = refl
views loads a b x y e = refl
views stores a b x y e = refl
views computes a b x y e = refl

-- where a statement is followed
lands_on : (act : Act) (a : ℕ) (r : List Stmt) → lands act r ≡ true → Lands (flow_of act a) r
lands_on Act.Nothing a r e = tt
lands_on Act.Marks a r e = tt
lands_on (Act.Jumps l) a r e = by (eqb a 0)
  where
    by : (b : Bool) → Lands (pick b Next (Jump l)) r
    by true = tt
    by false = e
lands_on (Act.Exits n) a r e = tt
lands_on (Act.Loads n) a r e = tt
lands_on (Act.Stores n) a r e = tt
lands_on Act.Computes a r e = tt

agree_at : (b : Bool) (l : PcodeLabel) (N C : Set) (s t : State) → (b ≡ true → Agree N s t) → (b ≡ false → Agree C s t) → Agree (at (pick b Next (Jump l)) N C) s t
agree_at true l N C s t f g = f refl
agree_at false l N C s t f g = g refl

lands_at : (b : Bool) (l : PcodeLabel) (r : List Stmt) → (b ≡ false → reaches l r ≡ true) → Lands (pick b Next (Jump l)) r
lands_at true l r f = tt
lands_at false l r f = f refl

module _ (ms : Marks) (w w' : Set) (x y : State) (o : Output) (z : ℕ) where
  -- the same number written to both
  put_on : (N : Set) → ((id : VarId) (k : ℕ) → N id k ≡ true → names (as_operand o) id k ≡ false → x id k ≡ y id k) → Agree N (put_by x o z) (put_by y o z)
  put_on N h id k q = put_agree x y o z id k (h id k q)

  -- after a marker that leaves the second's temporaries in the first the two are the same
  module _ (N' C' : Set) where
    agree_on : {act : Act} {edge : Edge} {effects : Bool} → Deals act edge effects → (a : ℕ)
        → (is_marker edge ≡ false → (id : VarId) (k : ℕ) → N' id k ≡ true → names (as_operand o) id k ≡ false → x id k ≡ y id k)
        → (ends edge ≡ true → is_marker edge ≡ false → Agree C' x y)
        → (is_marker edge ≡ true → (id : VarId) (k : ℕ) → mixed ms w x y id k ≡ y id k)
        → Agree (at (flow_of act a) N' C') (bytes_after ms act w x y o z) (bytes_after ms act w' y y o z)
    agree_on marks a f g h = λ id k q. h refl id k ∙ sym (ap (λ (s : State). s id k) (mixed_same ms w' y))
    agree_on (jumps {l = l}) a f g h = agree_at (eqb a 0) l N' C' (put_by x o z) (put_by y o z) (λ e. put_on N' (f refl)) (λ e. put_on C' (λ id k q n. g refl refl id k q))
    agree_on exits a f g h = put_on N' (f refl)
    agree_on label a f g h = put_on N' (f refl)
    agree_on silent a f g h = put_on N' (f refl)
    agree_on loads a f g h = put_on N' (f refl)
    agree_on stores a f g h = put_on N' (f refl)
    agree_on computes a f g h = put_on N' (f refl)

  -- bytes that were never changed stay the same
  alike_on : {act : Act} {edge : Edge} {effects : Bool} → Deals act edge effects → (id : VarId) (k : ℕ) → x id k ≡ y id k
      → (is_marker edge ≡ true → mixed ms w x y id k ≡ y id k) → bytes_after ms act w x y o z id k ≡ bytes_after ms act w' y y o z id k
  alike_on marks id k e h = h refl ∙ sym (ap (λ (s : State). s id k) (mixed_same ms w' y))
  alike_on jumps id k e h = put_agree x y o z id k (λ n. e)
  alike_on exits id k e h = put_agree x y o z id k (λ n. e)
  alike_on label id k e h = put_agree x y o z id k (λ n. e)
  alike_on silent id k e h = put_agree x y o z id k (λ n. e)
  alike_on loads id k e h = put_agree x y o z id k (λ n. e)
  alike_on stores id k e h = put_agree x y o z id k (λ n. e)
  alike_on computes id k e h = put_agree x y o z id k (λ n. e)

  grown : (act : Act) (u : ℕ → State) (F : Temps → State → List Sight)
      → F (temps_after act (rough (grow act y u))) (bytes_after ms act w x (grow act y u 0) o z) ≡ F (rough u) (bytes_after ms act w x y o z)
  unfolding push
  grown Act.Nothing u F = refl
  grown Act.Marks u F = refl
  grown (Act.Jumps l) u F = refl
  grown (Act.Exits n) u F = refl
  grown (Act.Loads n) u F = refl
  grown (Act.Stores n) u F = refl
  grown Act.Computes u F = refl

bytes_on : (ms : Marks) (w : Set) (y : State) (o : Output) (z : ℕ) (act : Act) → Bytewise y → Bytewise (bytes_after ms act w y y o z)
bytes_on ms w y o z Act.Nothing h = put_bytes y o z h
bytes_on ms w y o z Act.Marks h = rw (mixed_same ms w y) h
bytes_on ms w y o z (Act.Jumps l) h = put_bytes y o z h
bytes_on ms w y o z (Act.Exits n) h = put_bytes y o z h
bytes_on ms w y o z (Act.Loads n) h = put_bytes y o z h
bytes_on ms w y o z (Act.Stores n) h = put_bytes y o z h
bytes_on ms w y o z Act.Computes h = put_bytes y o z h

push_bytes : (y : State) (u : ℕ → State) → Bytewise y → ((n : ℕ) → Bytewise (u n)) → (n : ℕ) → Bytewise (push y u n)
unfolding push
push_bytes y u h g zero = h
push_bytes y u h g (suc n) = g n

grow_bytes : (act : Act) (y : State) (u : ℕ → State) → Bytewise y → ((n : ℕ) → Bytewise (u n)) → (n : ℕ) → Bytewise (grow act y u n)
grow_bytes Act.Nothing y u h g = g
grow_bytes Act.Marks y u h g = push_bytes y u h g
grow_bytes (Act.Jumps l) y u h g = g
grow_bytes (Act.Exits n) y u h g = g
grow_bytes (Act.Loads n) y u h g = g
grow_bytes (Act.Stores n) y u h g = g
grow_bytes Act.Computes y u h g = g

module _ (ms : Marks) (answers : List ℕ) where
  -- some content of the temporaries at the markers makes the run of r what the run of r' is
  abbrev pub Some : List Stmt → List Stmt → Flow → Holding → Holding → Type 0
  Some r r' flow h h' = (u : ℕ → State) × ((n : ℕ) → Bytewise (u n)) × (run_by ms answers (rough u) r flow h ≡ run_by ms answers calm r' flow h')

  -- a dropped statement only computes
  dropped : (u : Temps) (s : Stmt) (r : List Stmt) (x : State) (w : Set) (n : ℕ) → act_of s.op ≡ Act.Computes
      → run_by ms answers u (s ∷ r) Next (holding x w n)
      ≡ run_by ms answers u r Next (reached (put_by x s.output (result_by answers n s Act.Computes (value_by x s.first) (value_by x s.second))) Act.Computes (holding x w n))
  unfolding run_by
  dropped u s r x w n e = rw e

  skipped : (u : Temps) (s : Stmt) (r : List Stmt) (l : PcodeLabel) (h : Holding) → is_label s.op l ≡ false → run_by ms answers u (s ∷ r) (Jump l) h ≡ run_by ms answers u r (Jump l) h
  unfolding run_by
  skipped u s r l h e = rw e

  pub sound : {r r' : List Stmt} {N C : Set} → Elim ms r r' N C → (flow : Flow) (x y : State) (w w' : Set) (n : ℕ) → AllFit r → in_one_instruction r ≡ true → Lands flow r
      → Bytewise y → Agree (at flow N C) x y → ((id : VarId) (k : ℕ) → w id k ≡ false → x id k ≡ y id k) → Some r r' flow (holding x w n) (holding y w' n)
  unfolding run_by reaches in_one_instruction
  sound (fin p) Next x y w w' n f i g b h d = (λ m. y, λ m. b, ap (λ (v : State). ended v ∷ []) (view_cong ms x y (λ id l k j. h id k (p id k l))))
  sound (fin p) (Jump l) x y w w' n f i g b h d = absurd (false≢true g)
  sound (drop {s = s} {r = r} e q v nn cc) Next x y w w' n f i g b h d =
      let z = result_by answers n s Act.Computes (value_by x s.first) (value_by x s.second) in
      let x' = put_by x s.output z in
      let ih = sound e Next x' y (also x x' w) w' n f.1 (and_right (lands (act_of s.op) r) (in_one_instruction r) i) tt b
      (λ id k m. put_other x s.output z id k (v id k m) ∙ h id k (nn id k m))
      (λ id k m. sym (unchanged x x' w id k m) ∙ d id k (or_none_right (not (eqb (x id k) (x' id k))) (w id k) m)) in
      (ih.0, ih.1, dropped (rough ih.0) s r x w n (computing (deals s.op) q) ∙ ih.2)
  sound (drop {s = s} {r = r} e q v nn cc) (Jump l) x y w w' n f i g b h d =
      let nl = not_label s.op l q in
      let g' : (not (is_marker (edge_of s.op)) && reaches l r) ≡ true = sym (rw nl) ∙ g in
      let ih = sound e (Jump l) x y w w' n f.1 (and_right (lands (act_of s.op) r) (in_one_instruction r) i) (and_right (not (is_marker (edge_of s.op))) (reaches l r) g') b (λ id k m. h id k (cc id k m)) d in
      (ih.0, ih.1, skipped (rough ih.0) s r l (holding x w n) nl ∙ ih.2)
  sound (keep {s = s} {r = r} {r' = r'} {C = C} {N' = N'} {C' = C'} e c) (Jump l) x y w w' n f i g b h d =
      let m : is_label s.op l ≡ false → (not (is_marker (edge_of s.op)) && reaches l r) ≡ true = λ nl. sym (rw nl) ∙ g in
      let edge : is_label s.op l ≡ true → edge_of s.op ≡ Label = label_edge s.op l in
      sound e (arrived l s.op) x y w w' n f.1 (and_right (lands (act_of s.op) r) (in_one_instruction r) i)
      (lands_at (is_label s.op l) l r (λ nl. and_right (not (is_marker (edge_of s.op))) (reaches l r) (m nl))) b
      (agree_at (is_label s.op l) l N' C' x y
      (λ yl id k q. h id k (c.landing (ap ends (edge yl)) (ap is_marker (edge yl)) id k q))
      (λ nl id k q. h id k (c.later (not_true (is_marker (edge_of s.op)) (and_left (not (is_marker (edge_of s.op))) (reaches l r) (m nl))) id k q)))
      d
  sound (keep {s = s} {r = r} {r' = r'} {N = N} {C = C} {N' = N'} {C' = C'} e c) Next x y w w' n f i g b h d =
      let act = act_of s.op in
      let o = s.output in
      let a = value_by x s.first in
      let a₂ = value_by x s.second in
      let z = result_by answers n s act a a₂ in
      let ea = value_cong x y s.first f.0.first (λ id k q. h id k (c.reading id k (or_left (names s.first id k) (names s.second id k) q))) in
      let eb = value_cong x y s.second f.0.second (λ id k q. h id k (c.reading id k (or_right (names s.first id k) (names s.second id k) q))) in
      let mark : is_marker (edge_of s.op) ≡ true → (id : VarId) (k : ℕ) → mixed ms w x y id k ≡ y id k =
      λ t id k. mixed_agree ms w x y y id k (λ q. h id k (c.shown (marker_ends (edge_of s.op) t) id k q)) (λ q m. refl) (λ q m. d id k m) in
      let x' = bytes_after ms act w x y o z in
      let y' = bytes_after ms act w' y y o z in
      let ih = sound e (flow_of act a) x' y' (also x x' w) (also y y' w') (loads_after n act) f.1
      (and_right (lands act r) (in_one_instruction r) i) (lands_on act a r (and_left (lands act r) (in_one_instruction r) i)) (bytes_on ms w' y o z act b)
      (agree_on ms w w' x y o z N' C' (deals s.op) a (λ t id k q m. h id k (c.over t id k q m)) (λ t t' id k q. h id k (c.across t t' id k q)) mark)
      (λ id k q. alike_on ms w w' x y o z (deals s.op) id k (d id k (or_none_right (not (eqb (x id k) (x' id k))) (w id k) q)) (λ t. mark t id k)) in (
        grow act y ih.0,
        grow_bytes act y ih.0 b ih.1,
        grown ms w w' x y o z act ih.0 (λ u v. sights_of (view ms x) act a a₂ ++ run_by ms answers u r (flow_of act a) (reached v act (holding x w n)))
            ∙ ap₂ (λ (p q : List Sight). p ++ q)
            (views (deals s.op) a a₂ (view ms x) (view ms y) (λ t. view_cong ms x y (λ id l k m. h id k (c.shown t id k l)))) ih.2
            ∙ ap (λ (u : Temps). sights_of (view ms y) act a a₂ ++ run_by ms answers u r' (flow_of act a) (reached y' act (holding y w' n))) (sym (calm_on act))
            ∙ ap₂ (λ (p q : ℕ). sights_of (view ms y) act p q ++ run_by ms answers (temps_after act calm) r' (flow_of act p) (held_after ms answers calm s act p q (holding y w' n))) ea eb,
      )
