-- What holds of the pass's knowledge throughout, over any statement: lengths, room, and entries on rows in use.
use Rattle.std.proofs.Common.{ℕ, ◌+◌, ◌≤◌, arith, ◌≡◌, refl, ◌∙◌, true, List, length, Result, Ok, Err}
use Rattle.pcode.specs.Var.{as_operand}
use Rattle.pcode.specs.Block.{has_id}
use Rattle.pcode.specs.declared.var.VarId.{VarId}
use Rattle.pcode.specs.declared.var.VarNode.{VarNode}
use Rattle.pcode.specs.Var.{Output}
use Rattle.std.specs.declared.option.Option.TheVariants as Out
use Rattle.pcode.specs.declared.op.Op.{Op}
use Rattle.pcode.specs.declared.block.Stmt.{Stmt}
use Rattle.vars.specs.Vars.{row_of, held_ids}
use Rattle.vars.specs.declared.Vars.{Vars}
use Rattle.eval.specs.Held.{coded}
use Rattle.eval.specs.Eval.{outcome_of}
use Rattle.eval.specs.declared.EvalError.{EvalError}
use Rattle.const_eval.specs.declared.place.Place.{Place}
use Rattle.const_eval.specs.Known.{part_of}
use Rattle.const_eval.specs.State as Known
use Rattle.const_eval.specs.State.{entries_of, first_use, forgotten, cleared}
use Rattle.const_eval.proofs.Keeps.{good_within, able_next, forgotten_kept, cleared_kept}
use Rattle.uses.specs.Operands.{place_of, operand_bits}
use Rattle.settle.specs.Settle.{named, written, settled_by, settled_of}
use Rattle.settle.proofs.Settles.{value_length, written_room, settled_kept}
use Rattle.simplify.specs.Simplify.{used_both, replaced_of, write_of, plain_of, hook_of, turned, simplify_of}
use Rattle.widen.specs.declared.turn.Turn.{Turn}
use Rattle.widen.specs.declared.turn.Turn.TheVariants.{Plain, Marker, Label, Jump, Exit, Hook}
use Rattle.alike.proofs.Fits.{InRow}
use Rattle.alike.proofs.Tables.{Known as KnownIn}
use Rattle.first_alike.proofs.Valid.{InUse}
use Rattle.first_alike.proofs.Uses.{Live, live_none, Stage, stage_less, own_fit, first_stage, first_own, noted_live}
use Rattle.first_alike.proofs.Prepared.{Sits, both_stage}

module _ (ids : List VarId) where
  -- a marker and a clearing leave no entry
  pub forgotten_stage : (temp : List ℕ) (k : ℕ) (K : Known.State) → Stage ids k K → Stage ids k (forgotten temp K)
  forgotten_stage temp k K g =
      let h = forgotten_kept temp K g.able.good in
      record {
        able = record { good = h.good; room = omega (arith, g.able.room); ids = g.able.ids; rows = omega (arith, g.able.rows, h.used_length) };
        full = h.used_length ∙ g.full;
        live = live_none ids (forgotten temp K).used;
      }

  pub cleared_stage : (k : ℕ) (K : Known.State) → Stage ids k K → Stage ids k (cleared K)
  cleared_stage k K g =
      let h = cleared_kept K g.able.good in
      record {
        able = record { good = h.good; room = omega (arith, g.able.room); ids = g.able.ids; rows = omega (arith, g.able.rows, h.used_length) };
        full = h.used_length ∙ g.full;
        live = live_none ids (cleared K).used;
      }

module _ (vars : Vars) (few : length (held_ids vars) ≤ 48) where
  abbrev ids : List VarId
  ids = held_ids vars

  -- a settled output
  module _ (o : VarNode) (here : has_id ids o.id ≡ true) (fit : o.offset + o.size ≤ 16) where
    abbrev p : Place
    p = place_of vars o

    settled_live : (op : Op) (xa xb : List ℕ) (K : Known.State) → Stage ids 1 K → InUse K.used (row_of ids o.id) → (r : Result (Unit {0}) EvalError)
        → Live ids (settled_by r (outcome_of coded op xa xb (part_of p K.store)).cells p xa xb K).state.used
        (entries_of (settled_by r (outcome_of coded op xa xb (part_of p K.store)).cells p xa xb K).state)
    settled_live op xa xb K g u (Ok z) =
        let f = own_fit ids few p o.id here refl fit K g.full in
        let new = named K.tally.next (outcome_of coded op xa xb (part_of p K.store)).cells in
        noted_live ids few p o.id here refl fit (written p new K)
        (written_room p new K g.able f (value_length op p xa xb K.store K.tally.next (good_within p K g.able.good f))) u g.live
    settled_live op xa xb K g u (Err z) = g.live

    pub settled_stage : (op : Op) (xa xb : List ℕ) (k : ℕ) (K : Known.State) → Stage ids (k + 1) K → InUse K.used (row_of ids o.id) → Stage ids k (settled_of op p xa xb K).state
    settled_stage op xa xb k K g u =
        let one = stage_less ids 1 (k + 1) K (omega arith) g in
        let h = settled_kept op p xa xb K one.able (own_fit ids few p o.id here refl fit K g.full) in
        record {
          able = able_next k K (settled_of op p xa xb K).state g.able h;
          full = h.used_length ∙ g.full;
          live = settled_live op xa xb K one u (outcome_of coded op xa xb (part_of p K.store)).answer;
        }

    write_stage : (xa xb : List ℕ → List ℕ) (st : Stmt) (k : ℕ) (K : Known.State) → Stage ids (k + 2) K → Stage ids k (write_of vars xa xb o st K).state
    write_stage xa xb st k K g =
        settled_stage st.op (xa (first_use p K).store) (xb (first_use p K).store) k (first_use p K)
        (first_stage ids few p o.id here refl fit (k + 1) K (stage_less ids (k + 1 + 1) (k + 2) K (omega arith) g)) (first_own ids few p o.id here refl fit K g.full)

    hook_stage : (k : ℕ) (K : Known.State) → Stage ids (k + 2) K → Stage ids k (first_use p (cleared K))
    hook_stage k K g = first_stage ids few p o.id here refl fit k (cleared K) (stage_less ids (k + 1) (k + 2) (cleared K) (omega arith) (cleared_stage ids (k + 2) K g))

  plain_stage : (xa xb : List ℕ → List ℕ) (o : Output) (st : Stmt) (k : ℕ) (K : Known.State) → KnownIn ids (as_operand o) → InRow (as_operand o) → Stage ids (k + 2) K
      → Stage ids k (plain_of vars xa xb o st K).state
  plain_stage xa xb Out.None st k K h f g = stage_less ids k (k + 2) K (omega arith) g
  plain_stage xa xb (Out.Some o) st k K h f g = write_stage o h f xa xb st k K g

  hooked_stage : (o : Output) (st : Stmt) (k : ℕ) (K : Known.State) → KnownIn ids (as_operand o) → InRow (as_operand o) → Stage ids (k + 2) K → Stage ids k (hook_of vars o st K).state
  hooked_stage Out.None st k K h f g = stage_less ids k (k + 2) (cleared K) (omega arith) (cleared_stage ids (k + 2) K g)
  hooked_stage (Out.Some o) st k K h f g = hook_stage o h f k K g

  turned_stage : (xa xb : List ℕ → List ℕ) (t : Turn) (st : Stmt) (k : ℕ) (K : Known.State) → KnownIn ids (as_operand st.output) → InRow (as_operand st.output) → Stage ids (k + 2) K
      → Stage ids k (turned vars xa xb t st K).state
  turned_stage xa xb Plain st k K h f g = plain_stage xa xb st.output st k K h f g
  turned_stage xa xb Marker st k K h f g = plain_stage xa xb st.output st k K h f g
  turned_stage xa xb (Label l) st k K h f g = plain_stage xa xb st.output st k K h f g
  turned_stage xa xb (Jump l) st k K h f g = stage_less ids k (k + 2) K (omega arith) g
  turned_stage xa xb Exit st k K h f g = stage_less ids k (k + 2) K (omega arith) g
  turned_stage xa xb Hook st k K h f g = hooked_stage st.output st k K h f g

  -- a statement takes four at most
  pub simplify_stage : (t : Turn) (st : Stmt) (k : ℕ) (K : Known.State) → Sits ids st → Stage ids (k + 4) K → Stage ids k (simplify_of vars t st K).state
  simplify_stage t st k K s g =
      turned_stage (operand_bits vars st.first) (operand_bits vars st.second) t (replaced_of vars st K) k (used_both vars st K) s.known.output s.output_in
      (both_stage vars few st s k K g)
