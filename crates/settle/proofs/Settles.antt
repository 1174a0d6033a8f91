-- A settled statement keeps what holds throughout: lengths, good entries, counts that grow by one at most. Assumes nothing.
use Rattle.std.proofs.Common.{ℕ, ◌+◌, ◌*◌, ◌≡◌, refl, ◌∙◌, List, arith, length, Option, None, Some, Result, Ok, Err}
use Rattle.pcode.specs.declared.op.Op.{Op}
use Rattle.eval.specs.Held.{coded}
use Rattle.eval.specs.Eval as Eval
use Rattle.eval.specs.declared.EvalError.{EvalError}
use Rattle.eval.proofs.Laws.{length_names}
use Rattle.eval.proofs.Lengths.{length_outcome}
use Rattle.const_eval.specs.declared.place.Place.{Place}
use Rattle.const_eval.specs.Known.{part_of, Fit, Within}
use Rattle.const_eval.specs.State.{State, map_gives, noted_by, noted, Room, Able}
use Rattle.const_eval.proofs.Parts.{part_length}
use Rattle.const_eval.proofs.Keeps as Keeps
use Rattle.const_eval.proofs.Keeps.{Kept, good_within, same_kept, noted_kept}
use Rattle.settle.specs.Settle.{named, written, settled_by, settled_of}

-- naming unknown bits leaves the length
pub named_length : (id : ℕ) (cells : List ℕ) → length (named id cells) ≡ length cells
unfolding named
named_length id cells = length_names (record { 0 = id }) 0 cells

-- an output's value is as long as the output
pub value_length : (op : Op) (p : Place) (xa xb store : List ℕ) (id : ℕ) → Within (length store) p → length (named id (Eval.outcome_of coded op xa xb (part_of p store)).cells) ≡ 8 * p.size
value_length op p xa xb store id w = named_length id (Eval.outcome_of coded op xa xb (part_of p store)).cells ∙ length_outcome coded op xa xb (part_of p store) ∙ part_length p store w

-- an output that is written may be entered
pub written_room : (p : Place) (v : List ℕ) (s : State) → Able 1 s → Fit (length s.used) p → length v ≡ 8 * p.size → Room p (written p v s)
written_room p v s a f l =
    let k = Keeps.written_kept p v s a.good (good_within p s a.good f) l in
    record { good = record { rows = k.good.rows; room = k.good.room; inside = k.good.inside }; part_in = f; more = omega (arith, a.room); ids = omega (arith, a.ids) }

-- entering an output makes no expression
noted_next : (p : Place) (s : State) → (noted p s).tally.next ≡ s.tally.next
noted_next p s = go (map_gives (part_of p s.store) s)
  where
    go : (f : Option Place) → (noted_by f p s).tally.next ≡ s.tally.next
    go None = refl
    go (Some q) = refl

-- an output that is written and entered
valued_kept : (p : Place) (v : List ℕ) (s : State) → Able 1 s → Fit (length s.used) p → length v ≡ 8 * p.size → Kept s (noted p (written p v s))
valued_kept p v s a f l =
    let w = Keeps.written_kept p v s a.good (good_within p s a.good f) l in
    let k = noted_kept p (written p v s) (written_room p v s a f l) in
    record {
      good = k.good;
      store_length = k.store_length ∙ w.store_length;
      used_length = k.used_length;
      map_length = k.map_length;
      count = k.count;
      next = omega (arith, noted_next p (written p v s));
    }

-- a settled statement keeps the state good and the lengths; one entry and one expression are new at most
pub settled_kept : (op : Op) (p : Place) (xa xb : List ℕ) (s : State) → Able 1 s → Fit (length s.used) p → Kept s (settled_of op p xa xb s).state
settled_kept op p xa xb s a f = go (Eval.outcome_of coded op xa xb (part_of p s.store)).answer
  where
    cells : List ℕ
    cells = (Eval.outcome_of coded op xa xb (part_of p s.store)).cells

    l : length (named s.tally.next cells) ≡ 8 * p.size
    l = value_length op p xa xb s.store s.tally.next (good_within p s a.good f)

    go : (r : Result (Unit {0}) EvalError) → Kept s (settled_by r cells p xa xb s).state
    go (Ok u) = valued_kept p (named s.tally.next cells) s a f l
    go (Err e) = same_kept s a.good

-- room for k more steps stays after one step
pub kept_able : (k : ℕ) (s t : State) → Able (k + 1) s → Kept s t → Able k t
kept_able k s t a h = record { good = h.good; room = omega (arith, a.room, h.map_length, h.count); ids = omega (arith, a.ids, h.next); rows = omega (arith, a.rows, h.used_length) }
