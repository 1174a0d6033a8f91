-- Uses: a row's first use keeps knowledge valid and the value map's entries on rows in use.
use Rattle.std.proofs.Common.{Option, None as Nothing, Some, ℕ, ◌+◌, ◌*◌, ◌≤◌, arith, ◌≡◌, sym, ◌∙◌, subst, Bool, true, false, List, [], ◌∷◌, eqb, length, get_or, get_or-set_same}
use Rattle.pcode.specs.Var.{pick}
use Rattle.pcode.specs.Block.{has_id}
use Rattle.pcode.specs.declared.var.VarId.{VarId}
use Rattle.vars.specs.Vars.{row_of}
use Rattle.vars.proofs.Rows.{row_below}
use Rattle.const_eval.specs.declared.place.Place.{Place}
use Rattle.const_eval.specs.Known.{part_of, fresh_row, same_codes, Fit, Within}
use Rattle.const_eval.specs.Map.{Entry, Short, find_e, lookup_of, if_still}
use Rattle.const_eval.specs.State as Known
use Rattle.const_eval.specs.State.{entries_of, map_gives, entered, freshened, first_use, noted_by, noted, Room, Able}
use Rattle.const_eval.proofs.Codes.{row_length}
use Rattle.const_eval.proofs.Parts.{part_length, splice_length}
use Rattle.const_eval.proofs.Entered.{entered_first}
use Rattle.const_eval.proofs.Looks.{inside_short}
use Rattle.const_eval.proofs.Keeps.{good_within, first_kept, first_used, able_room, able_next}
use Rattle.alike.proofs.Havoc.{State}
use Rattle.alike.proofs.Parts.{Bytewise}
use Rattle.first_alike.proofs.Valid.{InUse, Valid, set_used, entered_valid, fresh_valid}

module _ (ids : List VarId) where
  -- a row in use is a variable's
  pub record LiveRow (used : List ℕ) (row : ℕ) : Type 0 where
    pub id : VarId
    pub here : has_id ids id ≡ true
    pub at : row ≡ row_of ids id
    pub inuse : InUse used row

  -- every entry's row is in use
  unfoldable pub Live : List ℕ → List Entry → Type 0
  Live used [] = Unit {0}
  Live used (e ∷ es) = LiveRow used e.place.row × Live used es

  pub live_none : (used : List ℕ) → Live used []
  unfolding Live
  live_none used = tt

  live_more : (used after : List ℕ) (es : List Entry) → ((r : ℕ) → InUse used r → InUse after r) → Live used es → Live after es
  unfolding Live
  live_more used after [] f h = tt
  live_more used after (e ∷ es) f h = (record { id = h.0.id; here = h.0.here; at = h.0.at; inuse = f e.place.row h.0.inuse }, live_more used after es f h.1)

  live_cons : (used : List ℕ) (e : Entry) (es : List Entry) → LiveRow used e.place.row → Live used es → Live used (e ∷ es)
  unfolding Live
  live_cons used e es h g = (h, g)

  no_part : {R : Type 0} (p : Place) → ◌≡◌ {A = Option Place} Nothing (Some p) → R
  no_part p q = absurd (let z : ◌≡◌ {A = ℕ} 0 1 = cc in omega arith)

  found_step : (used : List ℕ) (e : Entry) (p : Place) (t : Bool) (r : Option Place) → LiveRow used e.place.row → (r ≡ Some p → LiveRow used p.row)
      → pick t (Some e.place) r ≡ Some p → LiveRow used p.row
  found_step used e p true r f k q =
      let z : e.place ≡ p = cc in
      subst (λ (x : Place). LiveRow used x.row) z f
  found_step used e p false r f k q = k q

  live_found : (used : List ℕ) (es : List Entry) (key : List ℕ) (p : Place) → Live used es → find_e key es ≡ Some p → LiveRow used p.row
  unfolding Live
  live_found used [] key p h q = no_part p q
  live_found used (e ∷ es) key p h q = found_step used e p (same_codes e.key key) (find_e key es) h.0 (live_found used es key p h.1) q

  still_found : (store key : List ℕ) (f : Option Place) (p : Place) → if_still store key f ≡ Some p → f ≡ Some p
  still_found store key Nothing p q = no_part p q
  still_found store key (Some r) p q = go (same_codes (part_of r store) key) q
    where
      go : (t : Bool) → pick t (Some r) Nothing ≡ Some p → ◌≡◌ {A = Option Place} (Some r) (Some p)
      go true q = q
      go false q = no_part p q

  -- a part that the map gives is in a row in use
  pub live_given : (used store : List ℕ) (es : List Entry) (key : List ℕ) (p : Place) → Live used es → lookup_of store es key ≡ Some p → LiveRow used p.row
  live_given used store es key p h q = live_found used es key p h (still_found store key (find_e key es) p q)

  -- what holds of the pass's knowledge at each statement, with room for k more
  pub record Stage (k : ℕ) (K : Known.State) : Type 0 where
    pub able : Able k K
    pub full : length K.used ≡ 48
    pub live : Live K.used (entries_of K)

  pub stage_less : (j k : ℕ) (K : Known.State) → j ≤ k → Stage k K → Stage j K
  stage_less j k K l g =
      record {
        able = record { good = g.able.good; room = omega (arith, g.able.room, l); ids = omega (arith, g.able.ids, l); rows = g.able.rows };
        full = g.full;
        live = g.live;
      }

  -- entering a part of a row in use
  pub entered_live : (p : Place) (K : Known.State) → Short (entries_of K) → Within (length K.store) p → 131 * K.tally.count + 131 ≤ length K.map
      → LiveRow K.used p.row → Live K.used (entries_of K) → Live (entered p K).used (entries_of (entered p K))
  entered_live p K g w m r l =
      let key = part_of p K.store in
      let e : entries_of (entered p K) ≡ record { place = p; key = key } ∷ entries_of K =
      entered_first K.map K.tally.count p key m (sym (part_length p K.store w)) g in
      subst (λ (es : List Entry). Live K.used es) (sym e) (live_cons K.used (record { place = p; key = key }) (entries_of K) r l)

  -- a row's new expressions, and its first entry
  fresh_live : (p : Place) (K : Known.State) → Room p K → LiveRow (freshened p.row K).used p.row → Live K.used (entries_of K)
      → Live (entered p (freshened p.row K)).used (entries_of (entered p (freshened p.row K)))
  fresh_live p K r lr l =
      let z : length (freshened p.row K).store ≡ length K.store =
      splice_length (128 * p.row) (fresh_row K.tally.next) K.store (omega (arith, row_length K.tally.next, r.good.rows, r.part_in.row_in)) in
      entered_live p (freshened p.row K) (inside_short (length K.store) (entries_of K) r.good.inside)
      (subst (λ (n : ℕ). Within n p) (sym z) (good_within p K r.good r.part_in)) r.more lr
      (live_more K.used (freshened p.row K).used (entries_of K) (λ q h. set_used K.used p.row q r.part_in.row_in h) l)

  -- a part of a variable
  module _ (few : length ids ≤ 48) (p : Place) (own : VarId) (here : has_id ids own ≡ true) (at : p.row ≡ row_of ids own) (inside : p.offset + p.size ≤ 16) where
    pub own_fit : (K : Known.State) → length K.used ≡ 48 → Fit (length K.used) p
    own_fit K full = record { row_in = (let b = row_below ids own here in omega (arith, b, few, full, at)); inside = inside }

    pub own_room : (K : Known.State) → Stage 1 K → Room p K
    own_room K g = able_room p K g.able (own_fit K g.full)

    -- rows in use stay so
    pub first_more : (K : Known.State) → length K.used ≡ 48 → (r : ℕ) → InUse K.used r → InUse (first_use p K).used r
    first_more K full r h = go (eqb (get_or K.used p.row 0) 0)
      where
        go : (t : Bool) → InUse (pick t (entered p (freshened p.row K)) K).used r
        go true = set_used K.used p.row r (own_fit K full).row_in h
        go false = h

    pub first_own : (K : Known.State) → length K.used ≡ 48 → InUse (first_use p K).used (row_of ids own)
    first_own K full = subst (λ (r : ℕ). InUse (first_use p K).used r) at (first_used p K (own_fit K full).row_in)

    own_live : (used : List ℕ) → InUse used p.row → LiveRow used p.row
    own_live used h = record { id = own; here = here; at = at; inuse = h }

    first_live : (K : Known.State) → Room p K → Live K.used (entries_of K) → Live (first_use p K).used (entries_of (first_use p K))
    first_live K r l = go (eqb (get_or K.used p.row 0) 0)
      where
        go : (t : Bool) → Live (pick t (entered p (freshened p.row K)) K).used (entries_of (pick t (entered p (freshened p.row K)) K))
        go false = l
        go true =
            fresh_live p K r
            (own_live (freshened p.row K).used (λ z. let y : ◌≡◌ {A = ℕ} 1 0 = sym (get_or-set_same K.used p.row 1 0 r.part_in.row_in) ∙ z in omega arith)) l

    pub first_stage : (k : ℕ) (K : Known.State) → Stage (k + 1) K → Stage k (first_use p K)
    first_stage k K g =
        let r = own_room K (stage_less 1 (k + 1) K (omega arith) g) in
        let h = first_kept p K r in
        record { able = able_next k K (first_use p K) g.able h; full = h.used_length ∙ g.full; live = first_live K r g.live }

    pub first_valid : (K : Known.State) (s : State) → Bytewise s → Stage 1 K → Valid ids K s → Valid ids (first_use p K) s
    first_valid K s b g v = go (eqb (get_or K.used p.row 0) 0)
      where
        go : (t : Bool) → Valid ids (pick t (entered p (freshened p.row K)) K) s
        go false = v
        go true =
            let w = good_within p K g.able.good (own_fit K g.full) in
            entered_valid ids p (freshened p.row K) s
            (subst (λ (r : ℕ). Valid ids (freshened r K) s) (sym at)
            (fresh_valid ids K s b (omega (arith, g.able.ids)) v own here (omega (arith, at, w.row_in))))

    -- an output that took new codes is entered
    pub noted_live : (K : Known.State) → Room p K → InUse K.used p.row → Live K.used (entries_of K) → Live (noted p K).used (entries_of (noted p K))
    noted_live K r u l = go (map_gives (part_of p K.store) K)
      where
        go : (f : Option Place) → Live (noted_by f p K).used (entries_of (noted_by f p K))
        go Nothing =
            entered_live p K (inside_short (length K.store) (entries_of K) r.good.inside) (good_within p K r.good r.part_in) r.more (own_live K.used u) l
        go (Some q) = l
