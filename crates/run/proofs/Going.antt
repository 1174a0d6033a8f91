-- A run under way: the events so far are in the trace, and with those of the rest they are the whole run's.
use Rattle.std.proofs.Common.{ℕ, ◌+◌, ◌*◌, ◌<◌, ◌≤◌, arith, add-one, ◌≡◌, refl, sym, ap, ◌∙◌, subst, List, [], ◌∷◌, ◌++◌, append_assoc, length, drop, get_or, drop_of_length-le, drop-cons, None, Some}
use Rattle.pcode.specs.Block.{blank_stmt}
use Rattle.pcode.specs.declared.var.VarId.{VarId}
use Rattle.pcode.specs.declared.var.PcodeLabel.{PcodeLabel as Label}
use Rattle.pcode.specs.declared.block.Stmt.{Stmt}
use Rattle.pcode.specs.declared.block.Marks.{Marks}
use Rattle.machine.specs.Values.{value_in, HeldOutput}
use Rattle.print.specs.Texts.{Wrote, written}
use Rattle.print.proofs.Writes.{then, retold, none}
use Rattle.step.specs.Events.{Event, Ended, rows_in, end_rows}
use Rattle.step.specs.Steps.{Machine, Step, Flow, act_of, events_of, flow_of, rows_after, loads_after, step_of}
use Rattle.step.specs.declared.Act.{Act}
use Rattle.trace.specs.Words.{trace_words, state_words}
use Rattle.trace.proofs.Words.{no_words, words_append, end_words}
use Rattle.run.specs.Run.{arrived, run_from, start_of, Shape}
use Rattle.run.proofs.Bytes.{after_shape}

-- what a run is over
pub record Given : Type 0 where
  pub marks : Marks
  pub ids : List VarId
  pub answers : List ℕ
  pub block : List Stmt
  pub start : List (List ℕ)
  pub trace : List ℕ

abbrev pub given_of : Marks → List VarId → List ℕ → List Stmt → List (List ℕ) → List ℕ → Given
given_of marks ids answers block start trace = record { marks = marks; ids = ids; answers = answers; block = block; start = start; trace = trace }

abbrev pub machine : List (List ℕ) → ℕ → Machine
machine rows loads = record { rows = rows; loads = loads }

abbrev pub whole : Given → List Event
whole g = run_from g.ids g.answers g.block None (start_of g.start)

pub record Going (g : Given) (i : ℕ) (flow : Flow) (rows : List (List ℕ)) (loads : ℕ) (new : List ℕ) (at : ℕ) : Type 0 where
  pub past : List Event
  pub wrote : Wrote (230 * i) g.trace 0 (trace_words g.marks g.ids past) new at
  pub rest : past ++ run_from g.ids g.answers (drop i g.block) flow (machine rows loads) ≡ whole g
  pub few : loads ≤ i
  pub shape : Shape rows

pub going_none : (g : Given) → Shape g.start → Going g 0 None g.start 0 g.trace 0
going_none g s =
    record { past = []; wrote = retold (no_words g.marks g.ids) (omega arith) (none g.trace 0); rest = refl; few = omega arith; shape = s }

loads_more : (n i : ℕ) (act : Act) → n ≤ i → loads_after n act ≤ i + 1
loads_more n i Act.Nothing h = omega arith
loads_more n i Act.Marks h = omega arith
loads_more n i (Act.Jumps l) h = omega arith
loads_more n i (Act.Exits k) h = omega arith
loads_more n i (Act.Loads k) h = omega arith
loads_more n i (Act.Stores k) h = omega arith
loads_more n i Act.Computes h = omega arith

module _ (ids : List VarId) (answers : List ℕ) (block : List Stmt) (i : ℕ) (h : i < length block) (m : Machine) where
  one_step : run_from ids answers (drop i block) None m ≡ (step_of ids answers m (get_or block i blank_stmt)).events ++ run_from ids answers (drop (i + 1) block) (step_of ids answers m (get_or block i blank_stmt)).flow (step_of ids answers m (get_or block i blank_stmt)).machine
  unfolding run_from
  one_step = rw (add-one i, drop-cons block i blank_stmt h)

  one_passed : (l : Label) → run_from ids answers (drop i block) (Some l) m ≡ run_from ids answers (drop (i + 1) block) (arrived l (get_or block i blank_stmt).op) m
  unfolding run_from
  one_passed l = rw (add-one i, drop-cons block i blank_stmt h)

-- a step by its parts
told : (ids : List VarId) (answers : List ℕ) (rows after : List (List ℕ)) (loads taken : ℕ) (onward : Flow) (s : Stmt) (act : Act) (a b : ℕ)
    → act ≡ act_of s.op → a ≡ value_in ids rows s.first → b ≡ value_in ids rows s.second → after ≡ rows_after ids answers loads rows s act → taken ≡ loads_after loads act → onward ≡ flow_of act a
    → step_of ids answers (machine rows loads) s ≡ record { events = events_of rows act a b; machine = machine after taken; flow = onward }
unfolding step_of
told ids answers rows after loads taken onward s act a b ec ea eb er el en = rw (er, el, en, ea, eb, ec)

module _ (g : Given) (i : ℕ) (h : i < length g.block) where
  -- a jump passes over a statement, or ends at it
  pub going_past : {flow onward : Flow} {rows : List (List ℕ)} {loads at : ℕ} {new : List ℕ} (s : Stmt) (l : Label) → s ≡ get_or g.block i blank_stmt → flow ≡ Some l → onward ≡ arrived l s.op
      → Going g i flow rows loads new at → Going g (i + 1) onward rows loads new at
  going_past {flow} {onward} {rows} {loads} {at} {new} s l es ef en o =
      record {
        past = o.past;
        wrote = retold refl (omega arith) o.wrote;
        rest =
            ap (λ (f : Flow). o.past ++ run_from g.ids g.answers (drop (i + 1) g.block) f (machine rows loads)) (en ∙ ap (λ (x : Stmt). arrived l x.op) es)
            ∙ ap (λ (t : List Event). o.past ++ t) (sym (one_passed g.ids g.answers g.block i h (machine rows loads) l))
            ∙ ap (λ (f : Flow). o.past ++ run_from g.ids g.answers (drop i g.block) f (machine rows loads)) (sym ef)
            ∙ o.rest;
        few = omega (arith, o.few);
        shape = o.shape;
      }

  -- a statement is run
  pub going_on : {flow onward : Flow} {rows after : List (List ℕ)} {loads taken at p : ℕ} {new newer : List ℕ} (s : Stmt) (act : Act) (a b : ℕ)
      → 230 * i + 230 ≤ length g.trace → HeldOutput g.ids s.output → s ≡ get_or g.block i blank_stmt → flow ≡ None → act ≡ act_of s.op
      → a ≡ value_in g.ids rows s.first → b ≡ value_in g.ids rows s.second
      → after ≡ rows_after g.ids g.answers loads rows s act → taken ≡ loads_after loads act → onward ≡ flow_of act a
      → Wrote 230 new at (trace_words g.marks g.ids (events_of rows act a b)) newer p
      → Going g i flow rows loads new at → Going g (i + 1) onward after taken newer p
  going_on {flow} {onward} {rows} {after} {loads} {taken} {at} {p} {new} {newer} s act a b room held es ef ec ea eb er el en w o =
      let m = machine rows loads in
      let made : step_of g.ids g.answers m (get_or g.block i blank_stmt) ≡ record { events = events_of rows act a b; machine = machine after taken; flow = onward } =
      ap (step_of g.ids g.answers m) (sym es) ∙ told g.ids g.answers rows after loads taken onward s act a b ec ea eb er el en in
      record {
        past = o.past ++ events_of rows act a b;
        wrote =
            retold (sym (words_append g.marks g.ids o.past (events_of rows act a b))) (omega arith)
            (then {k = 230 * i} {l = 230} (omega arith) o.wrote w);
        rest =
            append_assoc o.past (events_of rows act a b) (run_from g.ids g.answers (drop (i + 1) g.block) onward (machine after taken))
            ∙ ap (λ (x : Step). o.past ++ (x.events ++ run_from g.ids g.answers (drop (i + 1) g.block) x.flow x.machine)) (sym made)
            ∙ ap (λ (t : List Event). o.past ++ t) (sym (one_step g.ids g.answers g.block i h m))
            ∙ ap (λ (f : Flow). o.past ++ run_from g.ids g.answers (drop i g.block) f m) (sym ef)
            ∙ o.rest;
        few = subst (λ (n : ℕ). n ≤ i + 1) (sym el) (loads_more loads i act o.few);
        shape = subst Shape (sym er) (after_shape g.ids g.answers loads rows s act o.shape held);
      }

end_last : (es : List Event) (e : Event) → end_rows (es ++ (e ∷ [])) ≡ rows_in e
unfolding end_rows
end_last [] e = refl
end_last (x ∷ []) e = refl
end_last (x ∷ y ∷ es) e = end_last (y ∷ es) e

at_end : (g : Given) (i : ℕ) {flow : Flow} {rows : List (List ℕ)} {loads at : ℕ} {new : List ℕ} → length g.block ≤ i → (o : Going g i flow rows loads new at) → whole g ≡ o.past ++ (Ended rows ∷ [])
unfolding run_from
at_end g i {flow} {rows} {loads} h o =
    sym o.rest ∙ ap (λ (l : List Stmt). o.past ++ run_from g.ids g.answers l flow (machine rows loads)) (drop_of_length-le g.block {i = i} h)

-- the end of the block ends the run
pub going_rows : (g : Given) (i : ℕ) {flow : Flow} {rows : List (List ℕ)} {loads at : ℕ} {new : List ℕ} → length g.block ≤ i → Going g i flow rows loads new at → rows ≡ end_rows (whole g)
going_rows g i {rows = rows} h o = sym (ap end_rows (at_end g i h o) ∙ end_last o.past (Ended rows))

pub going_words : (g : Given) (i : ℕ) {flow : Flow} {rows : List (List ℕ)} {loads at p : ℕ} {new newer : List ℕ} → length g.block ≤ i → 230 * i + 226 ≤ length g.trace → Going g i flow rows loads new at
    → Wrote 226 new at (state_words 5 g.marks g.ids rows) newer p → newer ≡ written g.trace 0 (trace_words g.marks g.ids (whole g))
going_words g i {rows = rows} h room o w =
    let v = then {k = 230 * i} {l = 226} (omega arith) o.wrote w in
    v.bytes
    ∙ ap (written g.trace 0)
    (ap (λ (t : List ℕ). trace_words g.marks g.ids o.past ++ t) (end_words g.marks g.ids rows)
    ∙ sym (words_append g.marks g.ids o.past (Ended rows ∷ []))
    ∙ ap (trace_words g.marks g.ids) (sym (at_end g i h o)))
