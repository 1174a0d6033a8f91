-- What is seen of a run over rows is the run by id where markers leave the temporaries alone; and runs of which the same is seen are alike.
use Rattle.std.proofs.Common.{ℕ, ◌≤◌, arith, ◌≡◌, refl, sym, ap, ap₂, ◌∙◌, List, [], ◌∷◌, ◌++◌, eqb, length, get_or, lt-ltb}
use mathlib.Core.List.{head_d, tail, nil≢cons}
use Rattle.pcode.specs.Var.{as_operand}
use Rattle.pcode.specs.declared.var.VarId.{VarId}
use Rattle.pcode.specs.Var.{Output}
use Rattle.std.specs.declared.option.Option.TheVariants as Out
use Rattle.pcode.specs.declared.block.Stmt.{Stmt}
use Rattle.pcode.specs.declared.block.Marks.{Marks}
use Rattle.machine.specs.Values.{value_in, written, result_in, plain_step}
use Rattle.step.specs.Events.{Event, Loaded, Stored, Taken, Marked, Ended}
use Rattle.step.specs.Steps.{Machine, act_of, events_of, flow_of, rows_after, loads_after, loaded_rows, step_of}
use Rattle.step.specs.declared.Act.{Act}
use Rattle.step.specs.Steps.{Flow}
use Rattle.std.specs.Prelude.{None as Next, Some as Jump}
use Rattle.run.specs.Run.{arrived, run_from, Shape}
use Rattle.run.proofs.Bytes.{write_shape}
use Rattle.vars.specs.Vars.{row_of}
use Rattle.vars.proofs.Rows.{ways, row_below}
use Rattle.alike.specs.ById.{Start, seen_of}
use Rattle.alike.specs.Alike.{SameLasting, SameEvent, loads, stores, exits, marks_at, ends, Alike, none, more}
use Rattle.alike.proofs.Fits.{InRow, Quiet, AllFit}
use Rattle.alike.proofs.Havoc.{State, Set, put_by, result_by, view, Sight, loaded, stored, taken, marked, ended, sights_of, Temps, temps_after, bytes_after, holding, reached, also, calm, held_after, run_by}
use Rattle.alike.proofs.Parts.{mixed_same}
use Rattle.alike.proofs.Tables.{state_of, Known, KnownStmt, AllKnown, value_rows, put_rows}

-- a write to an output keeps the shape
pub shape_written : (ids : List VarId) (rows : List (List ℕ)) (o : Output) (x : ℕ) → length ids ≤ 112 → InRow (as_operand o) → Known ids (as_operand o) → Shape rows → Shape (written ids rows o x)
shape_written ids rows Out.None x m f h s = s
shape_written ids rows (Out.Some v) x m f h s =
    write_shape rows (row_of ids v.id) v.offset v.size x s (let b = row_below ids v.id h in omega arith) f

-- markers that leave the temporaries alone go on doing so
pub calm_on : (act : Act) → temps_after act calm ≡ calm
calm_on Act.Nothing = refl
calm_on Act.Marks = refl
calm_on (Act.Jumps l) = refl
calm_on (Act.Exits i) = refl
calm_on (Act.Loads i) = refl
calm_on (Act.Stores i) = refl
calm_on Act.Computes = refl

module _ (marks : Marks) (ids : List VarId) (start : Start) where
  -- an event by id
  abbrev pub sight_of : Event → Sight
  sight_of (Loaded n a b) = loaded n a b
  sight_of (Stored n a b) = stored n a b
  sight_of (Taken n a b rows) = taken n a b (view marks (state_of ids start rows))
  sight_of (Marked rows) = marked (view marks (state_of ids start rows))
  sight_of (Ended rows) = ended (view marks (state_of ids start rows))

  unfoldable pub seen : List Event → List Sight
  seen [] = []
  seen (e ∷ es) = sight_of e ∷ seen es

  pub seen_append : (es fs : List Event) → seen (es ++ fs) ≡ seen es ++ seen fs
  unfolding seen
  seen_append [] fs = refl
  seen_append (e ∷ es) fs = ap (λ (l : List Sight). sight_of e ∷ l) (seen_append es fs)

  pub seen_events : (rows : List (List ℕ)) (act : Act) (a b : ℕ) → seen (events_of rows act a b) ≡ sights_of (view marks (state_of ids start rows)) act a b
  unfolding seen
  seen_events rows Act.Nothing a b = refl
  seen_events rows Act.Marks a b = refl
  seen_events rows (Act.Jumps l) a b = refl
  seen_events rows (Act.Exits n) a b = ways (eqb a 0) (λ e. rw e) (λ e. rw e)
  seen_events rows (Act.Loads n) a b = refl
  seen_events rows (Act.Stores n) a b = refl
  seen_events rows Act.Computes a b = refl

  module _ (room : length ids ≤ 112) (answers : List ℕ) where
    -- the rows after a statement, by id
    module _ (rows : List (List ℕ)) (shape : Shape rows) (n : ℕ) (s : Stmt) (k : KnownStmt ids s) where
      abbrev result : Act → ℕ
      result act = result_by answers n s act (value_in ids rows s.first) (value_in ids rows s.second)

      still : (x : ℕ) → s.output ≡ Out.None → put_by (state_of ids start rows) s.output x ≡ state_of ids start rows
      unfolding put_by
      still x e = rw e

      pub bytes_rows : (act : Act) (w : Set) → InRow (as_operand s.output) → Quiet act s.output
          → state_of ids start (rows_after ids answers n rows s act) ≡ bytes_after marks act w (state_of ids start rows) (state_of ids start rows) s.output (result act)
      unfolding loaded_rows plain_step result_in
      bytes_rows Act.Nothing w f q = sym (still 0 q)
      bytes_rows Act.Marks w f q = sym (mixed_same marks w (state_of ids start rows))
      bytes_rows (Act.Jumps l) w f q = sym (still 0 q)
      bytes_rows (Act.Exits i) w f q = sym (still 0 q)
      bytes_rows (Act.Loads i) w f q = put_rows ids start room rows shape s.output (result (Act.Loads i)) f k.output
      bytes_rows (Act.Stores i) w f q = sym (still 0 q)
      bytes_rows Act.Computes w f q = put_rows ids start room rows shape s.output (result Act.Computes) f k.output

      pub shape_after : (act : Act) → InRow (as_operand s.output) → Shape (rows_after ids answers n rows s act)
      unfolding loaded_rows plain_step
      shape_after Act.Nothing f = shape
      shape_after Act.Marks f = shape
      shape_after (Act.Jumps l) f = shape
      shape_after (Act.Exits i) f = shape
      shape_after (Act.Loads i) f = shape_written ids rows s.output _ room f k.output shape
      shape_after (Act.Stores i) f = shape
      shape_after Act.Computes f = shape_written ids rows s.output _ room f k.output shape

    -- the run over rows, seen
    pub seen_run : (ss : List Stmt) (flow : Flow) (m : Machine) (w : Set) → AllFit ss → AllKnown ids ss → Shape m.rows
        → seen (run_from ids answers ss flow m) ≡ run_by marks answers calm ss flow (holding (state_of ids start m.rows) w m.loads)
    unfolding run_from run_by seen step_of
    seen_run [] flow m w f k shape = refl
    seen_run (s ∷ ss) (Jump l) m w f k shape = seen_run ss (arrived l s.op) m w f.1 k.1 shape
    seen_run (s ∷ ss) Next m w f k shape =
        let S = state_of ids start m.rows in
        let act = act_of s.op in
        let a = value_in ids m.rows s.first in
        let b = value_in ids m.rows s.second in
        let next : Machine = record { rows = rows_after ids answers m.loads m.rows s act; loads = loads_after m.loads act } in
        let T = state_of ids start (rows_after ids answers m.loads m.rows s act) in
        let ih = seen_run ss (flow_of act a) next (also S T w) f.1 k.1 (shape_after m.rows shape m.loads s k.0 act f.0.output) in
        seen_append (events_of m.rows act a b) (run_from ids answers ss (flow_of act a) next)
        ∙ ap₂ (λ (x y : List Sight). x ++ y) (seen_events m.rows act a b) ih
        ∙ ap₂ (λ (t : State) (u : Temps). sights_of (view marks S) act a b ++ run_by marks answers u ss (flow_of act a) (reached t act (holding S w m.loads)))
        (bytes_rows m.rows shape m.loads s k.0 act w f.0.output f.0.quiet) (sym (calm_on act))
        ∙ ap₂ (λ (x y : ℕ). sights_of (view marks S) act x y ++ run_by marks answers (temps_after act calm) ss (flow_of act x) (held_after marks answers calm s act x y (holding S w m.loads)))
        (value_rows ids start room m.rows shape s.first f.0.first k.0.first) (value_rows ids start room m.rows shape s.second f.0.second k.0.second)

-- the parts of an event by id
abbrev kind : Sight → ℕ
kind (loaded n a b) = 0
kind (stored n a b) = 1
kind (taken n a b s) = 2
kind (marked s) = 3
kind (ended s) = 4

abbrev value : ℕ → Sight → ℕ
value i (loaded n a b) = get_or (n ∷ a ∷ b ∷ []) i 0
value i (stored n a b) = get_or (n ∷ a ∷ b ∷ []) i 0
value i (taken n a b s) = get_or (n ∷ a ∷ b ∷ []) i 0
value i (marked s) = 0
value i (ended s) = 0

abbrev shown : Sight → State
shown (loaded n a b) = λ id k. 0
shown (stored n a b) = λ id k. 0
shown (taken n a b s) = s
shown (marked s) = s
shown (ended s) = s

-- two tables whose rows look the same have the same lasting bytes
module _ (marks : Marks) (start : Start) (ids ids' : List VarId) where
  same_lasting : (rows rows' : List (List ℕ)) → view marks (state_of ids start rows) ≡ view marks (state_of ids' start rows') → SameLasting marks start ids ids' rows rows'
  unfolding view state_of
  same_lasting rows rows' e id l k h =
      let at : (ids : List VarId) (rows : List (List ℕ)) → seen_of ids rows start id k ≡ view marks (state_of ids start rows) id k =
      λ ids rows. rw (l, lt-ltb k 16 h) in
      at ids rows ∙ ap (λ (s : State). s id k) e ∙ sym (at ids' rows')

  same_event : (e e' : Event) → sight_of marks ids start e ≡ sight_of marks ids' start e' → SameEvent marks start ids ids' e e'
  same_event (Loaded n a b) (Loaded n' a' b') q = rw (ap (value 0) q, ap (value 1) q, ap (value 2) q) loads
  same_event (Loaded n a b) (Stored n' a' b') q = absurd (let e : ◌≡◌ {A = ℕ} 0 1 = ap kind q in omega arith)
  same_event (Loaded n a b) (Taken n' a' b' rows') q = absurd (let e : ◌≡◌ {A = ℕ} 0 2 = ap kind q in omega arith)
  same_event (Loaded n a b) (Marked rows') q = absurd (let e : ◌≡◌ {A = ℕ} 0 3 = ap kind q in omega arith)
  same_event (Loaded n a b) (Ended rows') q = absurd (let e : ◌≡◌ {A = ℕ} 0 4 = ap kind q in omega arith)
  same_event (Stored n a b) (Loaded n' a' b') q = absurd (let e : ◌≡◌ {A = ℕ} 1 0 = ap kind q in omega arith)
  same_event (Stored n a b) (Stored n' a' b') q = rw (ap (value 0) q, ap (value 1) q, ap (value 2) q) stores
  same_event (Stored n a b) (Taken n' a' b' rows') q = absurd (let e : ◌≡◌ {A = ℕ} 1 2 = ap kind q in omega arith)
  same_event (Stored n a b) (Marked rows') q = absurd (let e : ◌≡◌ {A = ℕ} 1 3 = ap kind q in omega arith)
  same_event (Stored n a b) (Ended rows') q = absurd (let e : ◌≡◌ {A = ℕ} 1 4 = ap kind q in omega arith)
  same_event (Taken n a b rows) (Loaded n' a' b') q = absurd (let e : ◌≡◌ {A = ℕ} 2 0 = ap kind q in omega arith)
  same_event (Taken n a b rows) (Stored n' a' b') q = absurd (let e : ◌≡◌ {A = ℕ} 2 1 = ap kind q in omega arith)
  same_event (Taken n a b rows) (Taken n' a' b' rows') q = rw (ap (value 0) q, ap (value 1) q, ap (value 2) q) (exits (same_lasting rows rows' (ap shown q)))
  same_event (Taken n a b rows) (Marked rows') q = absurd (let e : ◌≡◌ {A = ℕ} 2 3 = ap kind q in omega arith)
  same_event (Taken n a b rows) (Ended rows') q = absurd (let e : ◌≡◌ {A = ℕ} 2 4 = ap kind q in omega arith)
  same_event (Marked rows) (Loaded n' a' b') q = absurd (let e : ◌≡◌ {A = ℕ} 3 0 = ap kind q in omega arith)
  same_event (Marked rows) (Stored n' a' b') q = absurd (let e : ◌≡◌ {A = ℕ} 3 1 = ap kind q in omega arith)
  same_event (Marked rows) (Taken n' a' b' rows') q = absurd (let e : ◌≡◌ {A = ℕ} 3 2 = ap kind q in omega arith)
  same_event (Marked rows) (Marked rows') q = marks_at (same_lasting rows rows' (ap shown q))
  same_event (Marked rows) (Ended rows') q = absurd (let e : ◌≡◌ {A = ℕ} 3 4 = ap kind q in omega arith)
  same_event (Ended rows) (Loaded n' a' b') q = absurd (let e : ◌≡◌ {A = ℕ} 4 0 = ap kind q in omega arith)
  same_event (Ended rows) (Stored n' a' b') q = absurd (let e : ◌≡◌ {A = ℕ} 4 1 = ap kind q in omega arith)
  same_event (Ended rows) (Taken n' a' b' rows') q = absurd (let e : ◌≡◌ {A = ℕ} 4 2 = ap kind q in omega arith)
  same_event (Ended rows) (Marked rows') q = absurd (let e : ◌≡◌ {A = ℕ} 4 3 = ap kind q in omega arith)
  same_event (Ended rows) (Ended rows') q = ends (same_lasting rows rows' (ap shown q))

  -- runs of which the same is seen are alike
  pub alike : (es es' : List Event) → seen marks ids start es ≡ seen marks ids' start es' → Alike marks start ids ids' es es'
  unfolding seen head_d
  alike [] [] q = none
  alike [] (e ∷ es) q = absurd (nil≢cons q)
  alike (e ∷ es) [] q = absurd (nil≢cons (sym q))
  alike (e ∷ es) (e' ∷ es') q = more (same_event e e' (ap (λ (l : List Sight). head_d l (loaded 0 0 0)) q)) (alike es es' (ap tail q))
