-- What each step keeps: the state stays good, the lengths stay, and the counts grow by one at most. Assumes nothing.
use Rattle.std.proofs.Common.{ℕ, ◌+◌, ◌*◌, ◌≤◌, ◌<◌, ◌≡◌, refl, sym, ◌∙◌, ap, subst, Bool, true, false, List, arith, eqb, length, get_or, length-set, get_or-set_same, Option, Some, None}
use lib.ListN.{length-replicate}
use borrow.Author.Tests.{eqb-false}
use Rattle.pcode.specs.Var.{pick}
use Rattle.const_eval.specs.Known.{start_of, part_of, splice, fresh_row, Fit, Within}
use Rattle.const_eval.specs.Map.{Entry, words_of, Inside}
use Rattle.const_eval.specs.State.{State, state_of, entries_of, map_gives, entered, freshened, first_use, noted_by, noted, forgotten, cleared, Good, Room, Able}
use Rattle.const_eval.specs.declared.place.Place.{Place}
use Rattle.const_eval.proofs.Codes.{row_length, keep_length}
use Rattle.const_eval.proofs.Parts.{part_length, splice_length, fit_within}
use Rattle.const_eval.proofs.Entered.{entered_first}
use Rattle.const_eval.proofs.Looks.{inside_short}

-- a step's state is good, of the lengths before, and its counts grow by one at most
pub record Kept (before after : State) : Type 0 where
  pub good : Good after
  pub store_length : length after.store ≡ length before.store
  pub used_length : length after.used ≡ length before.used
  pub map_length : length after.map ≡ length before.map
  pub count : after.tally.count ≤ before.tally.count + 1
  pub next : after.tally.next ≤ before.tally.next + 1

-- a part of a row lies in the store of a good state
pub good_within : (p : Place) (s : State) → Good s → Fit (length s.used) p → Within (length s.store) p
good_within p s g f = fit_within (length s.used) (length s.store) p g.rows f

-- a part that lies in a row before a step does so after it
pub kept_fit : (p : Place) (s t : State) → Kept s t → Fit (length s.used) p → Fit (length t.used) p
kept_fit p s t k f = subst (λ (n : ℕ). Fit n p) (sym k.used_length) f

-- nothing happened
pub same_kept : (s : State) → Good s → Kept s s
same_kept s g = record { good = g; store_length = refl; used_length = refl; map_length = refl; count = omega arith; next = omega arith }

-- a part's value is entered
pub entered_kept : (p : Place) (s : State) → Good s → Within (length s.store) p → 131 * s.tally.count + 131 ≤ length s.map → Kept s (entered p s)
entered_kept p s g f m =
    let key = part_of p s.store in
    let n = s.tally.count in
    let l : length key ≡ 8 * p.size = part_length p s.store f in
    let z : length (splice (131 * n) (words_of p key) s.map) ≡ length s.map = splice_length (131 * n) (words_of p key) s.map (omega (arith, l, f.inside)) in
    record {
      good =
          record {
            rows = g.rows;
            room = omega (arith, z, m);
            inside = subst (λ (es : List Entry). Inside (length s.store) es) (sym (entered_first s.map n p key m (sym l) (inside_short (length s.store) (entries_of s) g.inside))) (f, g.inside);
          };
      store_length = refl;
      used_length = refl;
      map_length = z;
      count = omega arith;
      next = omega arith;
    }

fresh_size : (row : ℕ) (s : State) → Good s → row < length s.used → length (freshened row s).store ≡ length s.store
fresh_size row s g h = splice_length (128 * row) (fresh_row s.tally.next) s.store (omega (arith, row_length s.tally.next, g.rows))

-- a row's new expressions
fresh_good : (row : ℕ) (s : State) → Good s → row < length s.used → Good (freshened row s)
fresh_good row s g h =
    let z = fresh_size row s g h in
    record {
      rows = z ∙ g.rows ∙ ap (λ (t : ℕ). 128 * t) (sym (length-set s.used row 1));
      room = g.room;
      inside = subst (λ (t : ℕ). Inside t (entries_of s)) (sym z) g.inside;
    }

-- a first use
pub first_kept : (p : Place) (s : State) → Room p s → Kept s (first_use p s)
first_kept p s r = go (eqb (get_or s.used p.row 0) 0)
  where
    z : length (freshened p.row s).store ≡ length s.store
    z = fresh_size p.row s r.good r.part_in.row_in

    f : Within (length (freshened p.row s).store) p
    f = subst (λ (t : ℕ). Within t p) (sym z) (good_within p s r.good r.part_in)

    go : (t : Bool) → Kept s (pick t (entered p (freshened p.row s)) s)
    go true =
        let k = entered_kept p (freshened p.row s) (fresh_good p.row s r.good r.part_in.row_in) f r.more in
        record {
          good = k.good;
          store_length = z;
          used_length = length-set s.used p.row 1;
          map_length = k.map_length;
          count = omega arith;
          next = omega arith;
        }
    go false = same_kept s r.good

-- after a first use the row is in use
pub first_used : (p : Place) (s : State) → p.row < length s.used → get_or (first_use p s).used p.row 0 ≡ 0 → ⊥
first_used p s h = go (eqb (get_or s.used p.row 0) 0) refl
  where
    go : (t : Bool) → eqb (get_or s.used p.row 0) 0 ≡ t → get_or (pick t (entered p (freshened p.row s)) s).used p.row 0 ≡ 0 → ⊥
    go true e q = let y : ◌≡◌ {A = ℕ} 1 0 = sym (get_or-set_same s.used p.row 1 0 h) ∙ q in omega arith
    go false e q = eqb-false (get_or s.used p.row 0) 0 e q

-- a written output
pub noted_kept : (p : Place) (s : State) → Room p s → Kept s (noted p s)
noted_kept p s r = go (map_gives (part_of p s.store) s)
  where
    go : (f : Option Place) → Kept s (noted_by f p s)
    go None = entered_kept p s r.good (good_within p s r.good r.part_in) r.more
    go (Some q) = same_kept s r.good

-- a marker
pub forgotten_kept : (temp : List ℕ) (s : State) → Good s → Kept s (forgotten temp s)
forgotten_kept temp s g =
    record {
      good = record { rows = g.rows ∙ ap (λ (t : ℕ). 128 * t) (sym (keep_length s.used temp)); room = omega arith; inside = tt };
      store_length = refl;
      used_length = keep_length s.used temp;
      map_length = refl;
      count = omega arith;
      next = omega arith;
    }

-- a marker leaves no entry, and the next expression's id
pub forgotten_tally : (temp : List ℕ) (s : State) → (forgotten temp s).tally ≡ record { count = 0; next = s.tally.next }
forgotten_tally temp s = refl

-- all knowledge goes
pub cleared_kept : (s : State) → Good s → Kept s (cleared s)
cleared_kept s g =
    let l : length (cleared s).used ≡ length s.used = length-replicate (length s.used) 0 in
    record {
      good = record { rows = g.rows ∙ ap (λ (t : ℕ). 128 * t) (sym l); room = omega arith; inside = tt };
      store_length = refl;
      used_length = l;
      map_length = refl;
      count = omega arith;
      next = omega arith;
    }

-- clearing leaves no entry, and the next expression's id
pub cleared_tally : (s : State) → (cleared s).tally ≡ record { count = 0; next = s.tally.next }
cleared_tally s = refl

-- the state after a part took new codes
abbrev pub written : Place → List ℕ → State → State
written p new s = state_of (splice (start_of p) new s.store) s.used s.map s.tally

-- a part takes new codes
pub written_kept : (p : Place) (new : List ℕ) (s : State) → Good s → Within (length s.store) p → length new ≡ 8 * p.size → Kept s (written p new s)
written_kept p new s g w l =
    let z : length (splice (start_of p) new s.store) ≡ length s.store = splice_length (start_of p) new s.store (omega (arith, w.row_in, w.inside, l)) in
    record {
      good = record { rows = z ∙ g.rows; room = g.room; inside = subst (λ (t : ℕ). Inside t (entries_of s)) (sym z) g.inside };
      store_length = z;
      used_length = refl;
      map_length = refl;
      count = omega arith;
      next = omega arith;
    }

-- room for one more
pub able_room : (p : Place) (s : State) → Able 1 s → Fit (length s.used) p → Room p s
able_room p s a f = record { good = a.good; part_in = f; more = omega (arith, a.room); ids = omega (arith, a.ids) }

-- a step takes one of what there is room for
pub able_next : (k : ℕ) (s t : State) → Able (k + 1) s → Kept s t → Able k t
able_next k s t a h =
    record {
      good = h.good;
      room = omega (arith, a.room, h.count, h.map_length);
      ids = omega (arith, a.ids, h.next);
      rows = omega (arith, a.rows, h.used_length);
    }

-- with room for more there is room for fewer
pub able_less : (k : ℕ) (s : State) → Able (k + 1) s → Able k s
able_less k s a = able_next k s s a (same_kept s a.good)
