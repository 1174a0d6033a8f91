-- A table after a change in one row, and after the end of a stretch.
use Rattle.std.proofs.Common.{ℕ, zero, suc, ◌≤◌, ◌<◌, arith, ◌≡◌, refl, sym, ap, ◌∙◌, Bool, true, false, not, ◌&&◌, ◌||◌, List, eqb, length, get_or, replicate, eqb-true}
use lib.ListN.{get_or-eq_default}
use Rattle.pcode.specs.declared.var.VarNode.{VarNode}
use Rattle.vars.proofs.Rows.{ways}
use Rattle.live_bytes.specs.Bytes.{has, inside, live_in}
use Rattle.live_bytes.specs.declared.LiveBytes.{LiveBytes}
use Rattle.live_tables.specs.Tables.{view, TableIs, FlagsAre, empty, no_sets, joined_set}
use Rattle.live_bytes.proofs.Bits.{has_or, has_zero}
use Rattle.live_bytes.proofs.Runs.{any_none}

-- past the table nothing is live
pub live_past : (p : List Bool) (l r : List LiveBytes) (row : ℕ) (v : VarNode) → length p ≡ 112 → length r ≡ 112 → 112 ≤ row
    → false ≡ live_in (get_or p row false) (get_or l row empty).set (get_or r row empty).set v
live_past p l r row v h k m =
    rw (get_or-eq_default p false {n = row} (omega arith), get_or-eq_default r empty {n = row} (omega arith))
    (sym (any_none 16 _ (λ i n. rw (has_zero i) (ways (inside v i) (λ e. rw e) (λ e. rw e)))))

-- the end of a stretch
joined_bytes : (marker : Bool) (r a : LiveBytes) (k : ℕ) → has (joined_set marker r a).set k ≡ (not marker && (has r.set k || has a.set k))
joined_bytes true r a k = has_zero k
joined_bytes false r a k = has_or r.set a.set k

pub ended_joined : (marker : Bool) (r a new : List LiveBytes) → length new ≡ 112 → ((i : ℕ) → i < 112 → get_or new i empty ≡ joined_set marker (get_or r i empty) (get_or a i empty))
    → TableIs new (λ i k. not marker && (view r i k || view a i k))
ended_joined marker r a new h u = record {
  long = h;
  bytes = λ i k l. ap (λ (n : LiveBytes). has n.set k) (u i l) ∙ joined_bytes marker (get_or r i empty) (get_or a i empty) k;
}

empty_at : (n i : ℕ) → get_or (replicate n empty) i empty ≡ empty
empty_at zero i = refl
empty_at (suc n) zero = refl
empty_at (suc n) (suc i) = empty_at n i

pub nothing : (i k : ℕ) → view no_sets i k ≡ false
unfolding no_sets
nothing i k = ap (λ (n : LiveBytes). has n.set k) (empty_at 112 i) ∙ has_zero k

pub cleared : (t : List LiveBytes) → t ≡ no_sets → length t ≡ 112 → TableIs t (λ i k. false)
cleared t e h = record { long = h; bytes = λ i k l. ap (λ (u : List LiveBytes). view u i k) e ∙ nothing i k }

-- Boolean laws
pub or_true : (x : Bool) → (x || true) ≡ true
or_true true = refl
or_true false = refl

pub or_false : (x : Bool) → (x || false) ≡ x
or_false true = refl
or_false false = refl

pub and_false : (x : Bool) → (x && false) ≡ false
and_false true = refl
and_false false = refl

pub and_true : (x : Bool) → (x && true) ≡ x
and_true true = refl
and_true false = refl

and_swap : (x y : Bool) → (x && y) ≡ (y && x)
and_swap true true = refl
and_swap true false = refl
and_swap false true = refl
and_swap false false = refl

reads_join : (w x y l : Bool) → ((w && y) || ((w && x) || l)) ≡ ((w && (x || y)) || l)
reads_join true true true l = refl
reads_join true true false l = refl
reads_join true false true l = refl
reads_join true false false l = refl
reads_join false x y l = refl

-- a flag of an operand that was not written yet
fresh_flag : (written : List Bool) (a i : ℕ) (u x : Bool) → x ≡ (u && not (get_or written a false)) → (x && eqb i a) ≡ (not (get_or written i false) && (u && eqb i a))
fresh_flag written a i u x e =
    ways (eqb i a)
    (λ t. rw (t, and_true x, and_true u) (e ∙ ap (λ (j : ℕ). u && not (get_or written j false)) (sym (eqb-true i a t)) ∙ and_swap u (not (get_or written i false))))
    (λ t. rw (t, and_false x, and_false u) (sym (and_false (not (get_or written i false)))))

pub reads_noted : (written live l₁ l₂ : List Bool) (a b : ℕ) (u v x y : Bool) → x ≡ (u && not (get_or written a false)) → y ≡ (v && not (get_or written b false))
    → FlagsAre l₁ (λ i. (x && eqb i a) || get_or live i false) → FlagsAre l₂ (λ i. (y && eqb i b) || get_or l₁ i false)
    → FlagsAre l₂ (λ i. (not (get_or written i false) && ((u && eqb i a) || (v && eqb i b))) || get_or live i false)
reads_noted written live l₁ l₂ a b u v x y e f g h = record {
  long = h.long;
  flags = λ i m. h.flags i m ∙ rw (g.flags i m, fresh_flag written a i u x e, fresh_flag written b i v y f)
      (reads_join (not (get_or written i false)) (u && eqb i a) (v && eqb i b) (get_or live i false));
}
