-- Operands: their codes hold their value, and what the pass puts in their place has the same value and size.
use Rattle.std.proofs.Common.{Option, None as Nothing, Some, ℕ, zero, suc, ◌+◌, ◌*◌, ◌/◌, ◌%◌, ◌^◌, ◌≤◌, ◌<◌, arith, mod-lt, mod-eq_of_lt, ◌≡◌, refl, sym, ap, ap₂, ◌∙◌, subst, Bool, true, false, List, [], ◌∷◌, ◌++◌, leb-false, lit<, eqb, leb, pow_pos, length, take, drop, get_or, take-add, drop-drop, get_or-take}
use lib.Pow.{pow-lt}
use lib.IntN.{pos}
use lib.ListN.{length-map}
use Rattle.pcode.specs.Var.{size_of}
use Rattle.pcode.specs.Block.{has_id}
use Rattle.pcode.specs.declared.var.VarId.{VarId}
use Rattle.pcode.specs.declared.var.Operand.{Operand}
use Rattle.pcode.specs.declared.var.Operand.TheVariants.{None, Const, Var}
use Rattle.vars.specs.Vars.{row_of, held_ids}
use Rattle.vars.specs.declared.Vars.{Vars}
use Rattle.vars.proofs.Rows.{row_below, row_at}
use Rattle.bit_vec.specs.Lists.{bits, codes}
use Rattle.bit_vec.specs.Moves.{digits}
use Rattle.bit_vec.specs.Known.{cons_k, const_from, const_of}
use Rattle.bit_vec.proofs.Moved.{length_number}
use Rattle.bit.specs.Bits.{bit_of, code_of, pick as choose}
use Rattle.bit.specs.declared.Bit.TheVariants.{Zero, One}
use Rattle.bit.proofs.Codes.{round}
use Rattle.const_eval.specs.declared.place.Place.{Place}
use Rattle.const_eval.specs.Known.{part_of}
use Rattle.const_eval.specs.State as Known
use Rattle.const_eval.specs.State.{entries_of, map_gives, Good}
use Rattle.const_eval.proofs.Codes.{same_sound}
use Rattle.const_eval.proofs.Looks.{lookup_holds, lookup_within}
use Rattle.uses.specs.Operands.{place_of, node_at, operand_bits, used_by, becomes_by, becomes}
use Rattle.sound.specs.Sound.{Valuation, num, low}
use Rattle.sound.proofs.Numbers.{length_low, num_low, low_mod}
use Rattle.sound.proofs.Shifts.{ConstIs, const_num}
use Rattle.alike.specs.Premises.{Short}
use Rattle.alike.proofs.Fits.{InRow}
use Rattle.alike.proofs.Havoc.{State, num_by, value_by}
use Rattle.alike.proofs.Parts.{Bytewise}
use Rattle.alike.proofs.Tables.{Known as KnownIn}
use Rattle.first_alike.proofs.Sure.{Holds, holds_agrees, holds_nil, holds_append, holds_same, digits_hold}
use Rattle.first_alike.proofs.Words.{low_bytes, low_same, num_small}
use Rattle.first_alike.proofs.Valid.{InUse, Rows, rows_at, Valid}
use Rattle.first_alike.proofs.Uses.{Live, live_given, Stage, stage_less, first_stage, first_valid, first_more, first_own}

-- the codes of n bytes of a row in use hold their number
pub part_holds : (ids : List VarId) (τ : Valuation) (used store : List ℕ) (s : State) → Bytewise s → Rows ids τ used store s
    → (id : VarId) → has_id ids id ≡ true → InUse used (row_of ids id) → (o n : ℕ) → o + n ≤ 16
    → Holds τ (take (8 * n) (drop (128 * row_of ids id + 8 * o) store)) (low (8 * n) (num_by s id o n))
part_holds ids τ used store s b r id h u o zero f = holds_nil τ
part_holds ids τ used store s b r id h u o (suc n) f =
    let a : ℕ = 128 * row_of ids id + 8 * o in
    let q : 8 * suc n ≡ 8 + 8 * n = omega arith in
    let z : a + 8 ≡ 128 * row_of ids id + 8 * suc o = omega arith in
    let e : take (8 * suc n) (drop a store) ≡ take 8 (drop a store) ++ take (8 * n) (drop (128 * row_of ids id + 8 * suc o) store) =
    ap (λ (m : ℕ). take m (drop a store)) q ∙ take-add 8 (8 * n) (drop a store)
    ∙ ap (λ (l : List ℕ). take 8 (drop a store) ++ take (8 * n) l) (drop-drop 8 a store ∙ ap (λ (m : ℕ). drop m store) z) in
    subst (λ (xs : List ℕ). Holds τ xs (low (8 * suc n) (num_by s id o (suc n)))) (sym e)
    (subst (λ (vs : List Bool). Holds τ (take 8 (drop a store) ++ take (8 * n) (drop (128 * row_of ids id + 8 * suc o) store)) vs) (sym (low_bytes s id o n b))
    (holds_append τ (take 8 (drop a store)) (take (8 * n) (drop (128 * row_of ids id + 8 * suc o) store)) (low 8 (s id o)) (low (8 * n) (num_by s id (suc o) n))
    (rows_at ids τ used store s r id h u o (omega arith))
    (part_holds ids τ used store s b r id h u (suc o) n (omega arith))))

-- an operand's value is below the power of its size
pub value_small : (s : State) (a : Operand) → Bytewise s → value_by s a < 2 ^ (8 * size_of a)
value_small s None b = lit< tt
value_small s (Const v n) b = mod-lt v (pow_pos (8 * n))
value_small s (Var v) b = num_small s v.id v.offset v.size b

-- a constant is below the power of its size
abbrev pub Canon : Operand → Type 0
Canon None = Unit {0}
Canon (Const k n) = k < 2 ^ (8 * n)
Canon (Var v) = Unit {0}

-- a constant's digits are known
digits_known : (n v : ℕ) → (k : ℕ) × (const_from (bits (codes (digits n v))) ≡ Some k)
digits_known zero v = (0, refl)
digits_known (suc n) v = go (eqb (v % 2) 1) (digits_known n (v / 2))
  where
    go : (t : Bool) → (k : ℕ) × (const_from (bits (codes (digits n (v / 2)))) ≡ Some k)
        → (k : ℕ) × (cons_k (bit_of (code_of (choose t One Zero))) (const_from (bits (codes (digits n (v / 2))))) ≡ Some k)
    go true p = (2 * p.0 + 1, ap₂ cons_k (round One tt) p.1)
    go false p = (2 * p.0 + 0, ap₂ cons_k (round Zero tt) p.1)

less_less : (a b d : ℕ) → a < b → b < d → a < d
less_less a b d h g = omega arith

-- a constant whose bits are not taken for a number has more than 8 bytes
open_canon : (v n : ℕ) → v < 2 ^ 64 → const_of (bits (codes (digits (8 * n) v))) ≡ Nothing → v < 2 ^ (8 * n)
open_canon v n h e = go (leb (length (bits (codes (digits (8 * n) v)))) 64) refl e
  where
    wide : length (bits (codes (digits (8 * n) v))) ≡ 8 * n
    wide = length-map (codes (digits (8 * n) v)) bit_of ∙ length_number (8 * n) v

    go : (t : Bool) → leb (length (bits (codes (digits (8 * n) v)))) 64 ≡ t → choose t (const_from (bits (codes (digits (8 * n) v)))) Nothing ≡ Nothing → v < 2 ^ (8 * n)
    go true q r = let p = digits_known (8 * n) v in absurd (fixed_open p.0 (sym p.1 ∙ r))
      where
        fixed_open : (k : ℕ) → ◌≡◌ {A = Option ℕ} (Some k) Nothing → ⊥
        fixed_open k z = let y : ◌≡◌ {A = ℕ} 0 1 = cc in omega arith
    go false q r = less_less v (2 ^ 64) (2 ^ (8 * n)) h (pow-lt {i = 64} {j = 8 * n} (let l = leb-false (length (bits (codes (digits (8 * n) v)))) 64 q in omega (arith, l, wide)))

-- the operand that a has become
pub record Stead (ids : List VarId) (s : State) (a r : Operand) : Type 0 where
  pub value : value_by s r ≡ value_by s a
  pub size : size_of r ≡ size_of a
  pub known : KnownIn ids r
  pub in_row : InRow r
  pub canon : Canon r

-- an operand's row is in use
abbrev pub UsedIn : List VarId → List ℕ → Operand → Type 0
UsedIn ids used None = Unit {0}
UsedIn ids used (Const v n) = Unit {0}
UsedIn ids used (Var v) = InUse used (row_of ids v.id)

pub take_below : {A : Type 0} (n : ℕ) (l : List A) (i : ℕ) → i < length (take n l) → i < n
take_below zero l i h = absurd (omega (arith, h))
take_below (suc n) [] i h = absurd (omega (arith, h))
take_below (suc n) (x ∷ l) zero h = omega arith
take_below (suc n) (x ∷ l) (suc i) h = let q : i < n = take_below n l i (omega (arith, h)) in omega arith

module _ (vars : Vars) (few : length (held_ids vars) ≤ 48) where
  abbrev ids : List VarId
  ids = held_ids vars

  -- the id that stands in a variable's row
  pub id_at : (id : VarId) → has_id ids id ≡ true → get_or vars.ids (row_of ids id) (record { 0 = pos 0 }) ≡ id
  id_at id h =
      sym (get_or-take vars.count vars.ids (row_of ids id) (record { 0 = pos 0 }) (take_below vars.count vars.ids (row_of ids id) (row_below ids id h)))
      ∙ row_at ids id (record { 0 = pos 0 }) h

  -- an operand's codes hold its value
  pub operand_holds : (τ : Valuation) (used store : List ℕ) (s : State) → Bytewise s → Rows ids τ used store s → (a : Operand) → KnownIn ids a → InRow a → UsedIn ids used a
      → Holds τ (operand_bits vars a store) (low (8 * size_of a) (value_by s a))
  operand_holds τ used store s b r None k f u = holds_nil τ
  operand_holds τ used store s b r (Const v n) k f u =
      subst (λ (vs : List Bool). Holds τ (codes (digits (8 * n) v)) vs) (sym (low_mod (8 * n) v)) (digits_hold τ (8 * n) v)
  operand_holds τ used store s b r (Var v) k f u = part_holds ids τ used store s b r v.id k u v.offset v.size f

  -- codes that hold two numbers of bytes: these are the same
  pub same_number : (τ : Valuation) (xs : List ℕ) (m n x y : ℕ) → Holds τ xs (low (8 * m) x) → Holds τ xs (low (8 * n) y) → (m ≡ n) × (x % 2 ^ (8 * n) ≡ y % 2 ^ (8 * n))
  same_number τ xs m n x y h g =
      let e : low (8 * m) x ≡ low (8 * n) y = holds_same τ xs (low (8 * m) x) (low (8 * n) y) h g in
      let l : 8 * m ≡ 8 * n = sym (length_low (8 * m) x) ∙ ap length e ∙ length_low (8 * n) y in
      let q : m ≡ n = omega (arith, l) in
      (q, low_same (8 * n) x y (subst (λ (k : ℕ). low (8 * k) x ≡ low (8 * n) y) q e))

  -- a known constant is the value
  pub const_value : (τ : Valuation) (xs : List ℕ) (n x k : ℕ) → Holds τ xs (low n x) → const_of (bits xs) ≡ Some k → k ≡ x % 2 ^ n
  const_value τ xs n x k h e =
      let c : ConstIs (const_of (bits xs)) (num (low n x)) = const_num τ (bits xs) (low n x) (holds_agrees τ xs (low n x) h) in
      let d : ConstIs (Some k) (num (low n x)) = subst (λ (z : Option ℕ). ConstIs z (num (low n x))) e c in
      d ∙ num_low n x

  module _ (K : Known.State) (s : State) (bytes : Bytewise s) (good : Good K) (live : Live ids K.used (entries_of K)) (τ : Valuation)
      (rows : Rows ids τ K.used K.store s) where
    -- the part that the map gives for an operand
    given_stead : (a : Operand) (p : Place) → Holds τ (operand_bits vars a K.store) (low (8 * size_of a) (value_by s a))
        → map_gives (operand_bits vars a K.store) K ≡ Some p → Stead ids s a (Var (node_at vars p))
    given_stead a p h e =
        let key = operand_bits vars a K.store in
        let l = live_given ids K.used K.store (entries_of K) key p live e in
        let w = lookup_within (length K.store) K.store (entries_of K) key p good.inside e in
        let q : part_of p K.store ≡ key = same_sound (part_of p K.store) key (lookup_holds K.store (entries_of K) key p e) in
        let i : get_or vars.ids p.row (record { 0 = pos 0 }) ≡ l.id = ap (λ (r : ℕ). get_or vars.ids r (record { 0 = pos 0 })) l.at ∙ id_at l.id l.here in
        let c : Holds τ (part_of p K.store) (low (8 * p.size) (num_by s l.id p.offset p.size)) =
        subst (λ (r : ℕ). Holds τ (take (8 * p.size) (drop (128 * r + 8 * p.offset) K.store)) (low (8 * p.size) (num_by s l.id p.offset p.size))) (sym l.at)
        (part_holds ids τ K.used K.store s bytes rows l.id l.here (subst (λ (r : ℕ). InUse K.used r) l.at l.inuse) p.offset p.size w.inside) in
        let d = same_number τ key p.size (size_of a) (num_by s l.id p.offset p.size) (value_by s a) (subst (λ (xs : List ℕ). Holds τ xs (low (8 * p.size) (num_by s l.id p.offset p.size))) q c) h in
        let m : num_by s l.id p.offset p.size < 2 ^ (8 * size_of a) = subst (λ (n : ℕ). num_by s l.id p.offset p.size < 2 ^ (8 * n)) d.0 (num_small s l.id p.offset p.size bytes) in
        record {
          value = ap (λ (x : VarId). num_by s x p.offset p.size) i ∙ sym (mod-eq_of_lt m) ∙ d.1 ∙ mod-eq_of_lt (value_small s a bytes);
          size = d.0;
          known = subst (λ (x : VarId). has_id ids x ≡ true) (sym i) l.here;
          in_row = w.inside;
          canon = tt;
        }

    same_stead : (a : Operand) → KnownIn ids a → InRow a → Canon a → Stead ids s a a
    same_stead a k f c = record { value = refl; size = refl; known = k; in_row = f; canon = c }

    const_stead : (a : Operand) (k : ℕ) → k ≡ value_by s a % 2 ^ (8 * size_of a) → Stead ids s a (Const k (size_of a))
    const_stead a k e =
        let v : value_by s a % 2 ^ (8 * size_of a) ≡ value_by s a = mod-eq_of_lt (value_small s a bytes) in
        record { value = ap (λ (x : ℕ). x % 2 ^ (8 * size_of a)) (e ∙ v) ∙ v; size = refl; known = tt; in_row = tt; canon = subst (λ (x : ℕ). x < 2 ^ (8 * size_of a)) (sym e) (mod-lt (value_by s a) (pow_pos (8 * size_of a))) }

    by_stead : (a : Operand) (c : Option ℕ) (f : Option Place) → KnownIn ids a → InRow a → (const_of (bits (operand_bits vars a K.store)) ≡ Nothing → Canon a) → Holds τ (operand_bits vars a K.store) (low (8 * size_of a) (value_by s a))
        → const_of (bits (operand_bits vars a K.store)) ≡ c → map_gives (operand_bits vars a K.store) K ≡ f → Stead ids s a (becomes_by vars c f a)
    by_stead a (Some k) f n i w h e g = const_stead a k (const_value τ (operand_bits vars a K.store) (8 * size_of a) (value_by s a) k h e)
    by_stead a Nothing Nothing n i w h e g = same_stead a n i (w e)
    by_stead a Nothing (Some p) n i w h e g = given_stead a p h g

    -- what an operand becomes
    pub becomes_stead : (a : Operand) → KnownIn ids a → InRow a → Short a → UsedIn ids K.used a → Stead ids s a (becomes vars K a)
    becomes_stead None k f c u = same_stead None k f tt
    becomes_stead (Const v n) k f c u =
        by_stead (Const v n) (const_of (bits (operand_bits vars (Const v n) K.store))) (map_gives (operand_bits vars (Const v n) K.store) K) k f (open_canon v n c)
        (operand_holds τ K.used K.store s bytes rows (Const v n) k f u) refl refl
    becomes_stead (Var v) k f c u =
        by_stead (Var v) (const_of (bits (operand_bits vars (Var v) K.store))) (map_gives (operand_bits vars (Var v) K.store) K) k f (λ e. tt)
        (operand_holds τ K.used K.store s bytes rows (Var v) k f u) refl refl

  -- an operand's use
  pub used_stage : (a : Operand) (k : ℕ) (K : Known.State) → KnownIn ids a → InRow a → Stage ids (k + 1) K → Stage ids k (used_by vars a K)
  used_stage None k K n f g = stage_less ids k (k + 1) K (omega arith) g
  used_stage (Const v m) k K n f g = stage_less ids k (k + 1) K (omega arith) g
  used_stage (Var v) k K n f g = first_stage ids few (place_of vars v) v.id n refl f k K g

  pub used_valid : (a : Operand) (K : Known.State) (s : State) → Bytewise s → KnownIn ids a → InRow a → Stage ids 1 K → Valid ids K s → Valid ids (used_by vars a K) s
  used_valid None K s b n f g v = v
  used_valid (Const x m) K s b n f g v = v
  used_valid (Var x) K s b n f g v = first_valid ids few (place_of vars x) x.id n refl f K s b g v

  pub used_more : (a : Operand) (K : Known.State) → KnownIn ids a → InRow a → length K.used ≡ 48 → (r : ℕ) → InUse K.used r → InUse (used_by vars a K).used r
  used_more None K n f l r h = h
  used_more (Const v m) K n f l r h = h
  used_more (Var v) K n f l r h = first_more ids few (place_of vars v) v.id n refl f K l r h

  pub used_own : (a : Operand) (K : Known.State) → KnownIn ids a → InRow a → length K.used ≡ 48 → UsedIn ids (used_by vars a K).used a
  used_own None K n f l = tt
  used_own (Const v m) K n f l = tt
  used_own (Var v) K n f l = first_own ids few (place_of vars v) v.id n refl f K l

  pub used_on : (a : Operand) (used after : List ℕ) → ((r : ℕ) → InUse used r → InUse after r) → UsedIn ids used a → UsedIn ids after a
  used_on None used after f u = tt
  used_on (Const v m) used after f u = tt
  used_on (Var v) used after f u = f (row_of ids v.id) u
