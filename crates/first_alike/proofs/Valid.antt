-- What the first pass knows is valid for a state: some valuation of the expressions made so far, however it goes on, makes the codes of every row in
-- use hold the bytes of that row's variable.
use Rattle.std.proofs.Common.{Option, None as Nothing, Some, ℕ, zero, suc, ◌+◌, ◌*◌, ◌-◌, ◌≤◌, ◌<◌, arith, ◌≡◌, refl, sym, ap, ◌∙◌, subst, Bool, true, false, List, [], ◌∷◌, eqb-true, eq-eqb, ne_eqb, ltb-true, ltb-false, eqb, ltb, length, take, drop, get_or, set, replicate, get_or-set_same, get_or-set_other}
use borrow.Author.Tests.{eqb-false}
use lib.ListN.{get_or-replicate, get_or-eq_default, length-replicate}
use Rattle.pcode.specs.Var.{pick}
use Rattle.pcode.specs.Block.{has_id}
use Rattle.pcode.specs.declared.var.VarId.{VarId}
use Rattle.vars.specs.Vars.{row_of}
use Rattle.vars.proofs.Rows.{ways, row_apart}
use Rattle.const_eval.specs.declared.place.Place.{Place}
use Rattle.const_eval.specs.Known.{part_of, splice, fresh_from, fresh_row}
use Rattle.const_eval.specs.State as Known
use Rattle.const_eval.specs.State.{map_gives, entered, freshened, noted_by, noted, flag_of, keep_flags, forgotten, cleared}
use Rattle.const_eval.proofs.Codes.{row_length}
use Rattle.sound.specs.Sound.{Valuation, low}
use Rattle.sound.proofs.Numbers.{length_low}
use Rattle.alike.proofs.Havoc.{State, num_by}
use Rattle.alike.proofs.Parts.{Bytewise}
use Rattle.first_alike.proofs.Sure.{Holds, holds_take, holds_drop, fresh_holds}
use Rattle.first_alike.proofs.Words.{byte_part}
use Rattle.first_alike.proofs.Splices.{splice_before, splice_after, splice_in}

-- a row is in use
abbrev pub InUse : List ℕ → ℕ → Type 0
InUse used row = get_or used row 0 ≡ 0 → ⊥

-- valuations that agree on the expressions below n
abbrev pub Below : ℕ → Valuation → Valuation → Type 0
Below n ρ τ = (i : ℕ) → i < n → (o : ℕ) → ρ i o ≡ τ i o

-- the codes of byte k of a row
abbrev pub byte_codes : ℕ → ℕ → List ℕ → List ℕ
byte_codes row k store = take 8 (drop (128 * row + 8 * k) store)

-- every row in use holds its variable's bytes
unfoldable pub Rows : List VarId → Valuation → List ℕ → List ℕ → State → Type 0
Rows ids ρ used store s =
    (id : VarId) → has_id ids id ≡ true → InUse used (row_of ids id) → (k : ℕ) → k < 16 → Holds ρ (byte_codes (row_of ids id) k store) (low 8 (s id k))

pub record Valid (ids : List VarId) (K : Known.State) (s : State) : Type 0 where
  pub values : Valuation
  pub rows : (τ : Valuation) → Below K.tally.next values τ → Rows ids τ K.used K.store s

pub rows_at : (ids : List VarId) (τ : Valuation) (used store : List ℕ) (s : State) → Rows ids τ used store s
    → (id : VarId) → has_id ids id ≡ true → InUse used (row_of ids id) → (k : ℕ) → k < 16 → Holds τ (byte_codes (row_of ids id) k store) (low 8 (s id k))
unfolding Rows
rows_at ids τ used store s h = h

-- a valuation with one more expression
abbrev pub more : Valuation → ℕ → List Bool → Valuation
more ρ n vs i o = pick (eqb i n) (get_or vs o false) (ρ i o)

pub more_below : (ρ τ : Valuation) (n : ℕ) (vs : List Bool) → Below (n + 1) (more ρ n vs) τ → Below n ρ τ
more_below ρ τ n vs h i l o = sym (ap (λ (t : Bool). pick t (get_or vs o false) (ρ i o)) (ne_eqb i n (omega arith))) ∙ h i (omega arith) o

pub more_at : (ρ τ : Valuation) (n : ℕ) (vs : List Bool) → Below (n + 1) (more ρ n vs) τ → (j : ℕ) → τ n j ≡ get_or vs j false
more_at ρ τ n vs h j = sym (h n (omega arith) j) ∙ ap (λ (t : Bool). pick t (get_or vs j false) (ρ n j)) (eq-eqb n n refl)

-- new codes inside one row leave the others
pub other_row : (row c r k : ℕ) (new store : List ℕ) → c + length new ≤ 128 → 128 * row + 128 ≤ length store → (r ≡ row → ⊥) → k < 16
    → byte_codes r k (splice (128 * row + c) new store) ≡ byte_codes r k store
other_row row c r k new store f w n l =
    ways (ltb r row)
    (λ t. let q = ltb-true r row t in splice_before (128 * row + c) new store (omega arith) (128 * r + 8 * k) 8 (omega arith))
    (λ t.
    let q = ltb-false r row t in
    let z : row < r = apart q in
    ap (take 8) (splice_after (128 * row + c) new store (omega arith) (128 * r + 8 * k) (omega arith)))
  where
    apart : row ≤ r → row < r
    apart q = ways (eqb r row) (λ e. absurd (n (eqb-true r row e))) (λ e. ways (ltb row r) (λ u. ltb-true row r u) (λ u. absurd (eqb-false r row e (let v = ltb-false row r u in omega arith))))

-- flags
pub set_used : (used : List ℕ) (row r : ℕ) → row < length used → InUse used r → InUse (set used row 1) r
set_used used row r l h =
    ways (eqb r row)
    (λ e z. let q : r ≡ row = eqb-true r row e in let y : ◌≡◌ {A = ℕ} 1 0 = sym (get_or-set_same used row 1 0 l) ∙ ap (λ (i : ℕ). get_or (set used row 1) i 0) (sym q) ∙ z in omega arith)
    (λ e z. h (sym (get_or-set_other used row r 1 0 (λ q. eqb-false r row e q)) ∙ z))

pub none_used : (n r : ℕ) → InUse (replicate n 0) r → ⊥
none_used n r h =
    h (ways (ltb r n) (λ t. get_or-replicate n r 0 0 (ltb-true r n t))
    (λ t. get_or-eq_default (replicate n 0) 0 {n = r} (let q = ltb-false r n t in let l = length-replicate {A = ℕ} n 0 in omega (arith, q, l))))

flag_kept : (u t : ℕ) → (flag_of u t ≡ 0 → ⊥) → (u ≡ 0 → ⊥) × (t ≡ 0)
flag_kept u t h = by (eqb t 0) refl h
  where
    by : (b : Bool) → eqb t 0 ≡ b → (pick b u 0 ≡ 0 → ⊥) → (u ≡ 0 → ⊥) × (t ≡ 0)
    by true e g = (g, eqb-true t 0 e)
    by false e g = absurd (g refl)

pub flags_kept : (us ts : List ℕ) (r : ℕ) → InUse (keep_flags us ts) r → InUse us r × (r < length ts → get_or ts r 0 ≡ 0)
flags_kept [] ts r h = absurd (h refl)
flags_kept (u ∷ us) [] r h = (h, λ l. absurd (omega arith))
flags_kept (u ∷ us) (t ∷ ts) zero h = let p = flag_kept u t h in (p.0, λ l. p.1)
flags_kept (u ∷ us) (t ∷ ts) (suc r) h = let p = flags_kept us ts r h in (p.0, λ l. p.1 (omega arith))

module _ (ids : List VarId) where
  -- all knowledge goes
  pub cleared_valid : (K : Known.State) (s : State) → Valid ids (cleared K) s
  unfolding Rows
  cleared_valid K s =
      record { values = λ i o. false; rows = λ τ b id h u k l. absurd (none_used (length K.used) (row_of ids id) u) }

  -- a marker: the variables whose rows stay keep their bytes
  pub forgotten_valid : (temp : List ℕ) (K : Known.State) (s t : State) → Valid ids K s
      → ((id : VarId) → has_id ids id ≡ true → InUse (keep_flags K.used temp) (row_of ids id) → (k : ℕ) → s id k ≡ t id k) → Valid ids (forgotten temp K) t
  unfolding Rows
  forgotten_valid temp K s t v e =
      record {
        values = v.values;
        rows = λ τ b id h u k l.
            subst (λ (x : ℕ). Holds τ (byte_codes (row_of ids id) k K.store) (low 8 x)) (e id h u k)
            (v.rows τ b id h (flags_kept K.used temp (row_of ids id) u).0 k l);
      }

  -- a value is entered
  pub entered_valid : (p : Place) (K : Known.State) (s : State) → Valid ids K s → Valid ids (entered p K) s
  entered_valid p K s v = record { values = v.values; rows = v.rows }

  pub noted_valid : (p : Place) (K : Known.State) (s : State) → Valid ids K s → Valid ids (noted p K) s
  noted_valid p K s v = go (map_gives (part_of p K.store) K)
    where
      go : (f : Option Place) → Valid ids (noted_by f p K) s
      go Nothing = entered_valid p K s v
      go (Some q) = v

  -- a row's new expressions are its variable's bits
  module _ (K : Known.State) (s : State) (bytes : Bytewise s) (small : K.tally.next < 4294967296) (v : Valid ids K s)
      (own : VarId) (here : has_id ids own ≡ true) (row_in : 128 * row_of ids own + 128 ≤ length K.store) where
    abbrev row : ℕ
    row = row_of ids own

    abbrev word : List Bool
    word = low (8 * 16) (num_by s own 0 16)

    fresh_byte : (τ : Valuation) → Below (K.tally.next + 1) (more v.values K.tally.next word) τ → (k : ℕ) → k < 16
        → Holds τ (byte_codes row k (freshened row K).store) (low 8 (s own k))
    unfolding fresh_row
    fresh_byte τ b k l =
        let n : ℕ = K.tally.next in
        let w : length word ≡ 128 = length_low (8 * 16) (num_by s own 0 16) in
        let f : Holds τ (fresh_from n 0 (length word)) word =
        fresh_holds τ n 0 word small (omega (arith, w)) (λ j q. ap (τ n) (let z : 0 + j ≡ j = omega arith in z) ∙ more_at v.values τ n word b j) in
        let g : Holds τ (fresh_from n 0 128) word = subst (λ (m : ℕ). Holds τ (fresh_from n 0 m) word) w f in
        let c : length (fresh_row n) ≡ 128 = row_length n in
        let z : 128 * row + 8 * k - 128 * row ≡ 8 * k = omega arith in
        let e : byte_codes row k (freshened row K).store ≡ take 8 (drop (8 * k) (fresh_row n)) =
        splice_in (128 * row) (fresh_row n) K.store (omega (arith, c, row_in)) (128 * row + 8 * k) 8 (omega arith) (omega (arith, c))
        ∙ ap (λ (m : ℕ). take 8 (drop m (fresh_row n))) z in
        let d : take 8 (drop (8 * k) word) ≡ low 8 (s own k) =
        byte_part s own 0 16 k bytes l ∙ ap (λ (m : ℕ). low 8 (s own m)) (let z : 0 + k ≡ k = omega arith in z) in
        subst (λ (xs : List ℕ). Holds τ xs (low 8 (s own k))) (sym e)
        (subst (λ (vs : List Bool). Holds τ (take 8 (drop (8 * k) (fresh_row n))) vs) d
        (holds_take τ 8 (drop (8 * k) (fresh_row n)) (drop (8 * k) word) (holds_drop τ (8 * k) (fresh_row n) word g)))

    pub fresh_valid : Valid ids (freshened row K) s
    unfolding Rows
    fresh_valid =
        record {
          values = more v.values K.tally.next word;
          rows = λ τ b id h u k l.
              ways (eqb (row_of ids id) row)
              (λ e. at_row τ b id k l (row_apart ids id own h here (eqb-true (row_of ids id) row e)))
              (λ e. off_row τ b id h u k l (eqb-false (row_of ids id) row e));
        }
      where
        at_row : (τ : Valuation) → Below (K.tally.next + 1) (more v.values K.tally.next word) τ → (id : VarId) (k : ℕ) → k < 16 → id ≡ own
            → Holds τ (byte_codes (row_of ids id) k (freshened row K).store) (low 8 (s id k))
        at_row τ b id k l e = subst (λ (x : VarId). Holds τ (byte_codes (row_of ids x) k (freshened row K).store) (low 8 (s x k))) (sym e) (fresh_byte τ b k l)

        off_row : (τ : Valuation) → Below (K.tally.next + 1) (more v.values K.tally.next word) τ → (id : VarId) → has_id ids id ≡ true
            → InUse (set K.used row 1) (row_of ids id) → (k : ℕ) → k < 16 → (row_of ids id ≡ row → ⊥)
            → Holds τ (byte_codes (row_of ids id) k (freshened row K).store) (low 8 (s id k))
        off_row τ b id h u k l n =
            let z : 128 * row + 0 ≡ 128 * row = omega arith in
            let c : length (fresh_row K.tally.next) ≡ 128 = row_length K.tally.next in
            let e : byte_codes (row_of ids id) k (freshened row K).store ≡ byte_codes (row_of ids id) k K.store =
            ap (λ (m : ℕ). byte_codes (row_of ids id) k (splice m (fresh_row K.tally.next) K.store)) (sym z)
            ∙ other_row row 0 (row_of ids id) k (fresh_row K.tally.next) K.store (omega (arith, c)) row_in n l in
            subst (λ (xs : List ℕ). Holds τ xs (low 8 (s id k))) (sym e)
            (v.rows τ (more_below v.values τ K.tally.next word b) id h
            (λ q. u (get_or-set_other K.used row (row_of ids id) 1 0 n ∙ q)) k l)

  -- a state with the same bytes
  pub valid_same : (K : Known.State) (s t : State) → Valid ids K s → ((id : VarId) (k : ℕ) → s id k ≡ t id k) → Valid ids K t
  unfolding Rows
  valid_same K s t v e =
      record { values = v.values; rows = λ τ b id h u k l. subst (λ (x : ℕ). Holds τ (byte_codes (row_of ids id) k K.store) (low 8 x)) (e id k) (v.rows τ b id h u k l) }
