-- Codes that hold truth values: every code is decided by the valuation, so that equal codes hold equal values.
use Rattle.std.proofs.Common.{ℕ, zero, suc, ◌+◌, ◌*◌, ◌/◌, ◌%◌, ◌≤◌, ◌<◌, arith, add-zero, mod-lt, ◌≡◌, refl, sym, ap, ap₂, ◌∙◌, subst, Bool, true, false, List, [], ◌∷◌, ◌++◌, eqb, lit<, length, take, drop, get_or}
use Rattle.bit.specs.Bits.{one_if, pick, bit_of, code_of}
use Rattle.bit.specs.declared.Expr.{Expr}
use Rattle.bit.specs.declared.Bit.{Bit}
use Rattle.bit.specs.declared.Bit.TheVariants.{Zero, One, Unknown, Expr as Sym}
use Rattle.bit.proofs.Codes.{Small, round, small_bit}
use Rattle.bit_vec.specs.Lists.{bits, codes}
use Rattle.bit_vec.specs.Moves.{digits}
use Rattle.bit_vec.specs.Known.{trail_k, trailing_zeros}
use Rattle.const_eval.specs.Known.{fresh_from}
use Rattle.eval.specs.Name.{name_b, name_from}
use Rattle.sound.specs.Sound.{Valuation, value_e, Agree, Agrees, num, low}

-- as `Agree`, but an unknown bit holds nothing
abbrev pub Sure : Valuation → Bit → Bool → Type 0
Sure ρ Zero v = v ≡ false
Sure ρ One v = v ≡ true
Sure ρ Unknown v = ⊥
Sure ρ (Sym e) v = v ≡ value_e ρ e

-- codes hold truth values, place by place
unfoldable pub Holds : Valuation → List ℕ → List Bool → Type 0
Holds ρ [] [] = Unit {0}
Holds ρ [] (v ∷ vs) = ⊥
Holds ρ (x ∷ xs) [] = ⊥
Holds ρ (x ∷ xs) (v ∷ vs) = Sure ρ (bit_of x) v × Holds ρ xs vs

module _ (ρ : Valuation) where
  sure_agree : (b : Bit) (v : Bool) → Sure ρ b v → Agree ρ b v
  sure_agree Zero v h = h
  sure_agree One v h = h
  sure_agree Unknown v h = tt
  sure_agree (Sym e) v h = h

  pub holds_agrees : (xs : List ℕ) (vs : List Bool) → Holds ρ xs vs → Agrees ρ (bits xs) vs
  unfolding Holds
  holds_agrees [] [] h = tt
  holds_agrees [] (v ∷ vs) h = absurd h
  holds_agrees (x ∷ xs) [] h = absurd h
  holds_agrees (x ∷ xs) (v ∷ vs) h = (sure_agree (bit_of x) v h.0, holds_agrees xs vs h.1)

  pub holds_length : (xs : List ℕ) (vs : List Bool) → Holds ρ xs vs → length xs ≡ length vs
  unfolding Holds
  holds_length [] [] h = refl
  holds_length [] (v ∷ vs) h = absurd h
  holds_length (x ∷ xs) [] h = absurd h
  holds_length (x ∷ xs) (v ∷ vs) h = ap suc (holds_length xs vs h.1)

  pub holds_nil : Holds ρ [] []
  unfolding Holds
  holds_nil = tt

  pub holds_append : (xs ys : List ℕ) (vs ws : List Bool) → Holds ρ xs vs → Holds ρ ys ws → Holds ρ (xs ++ ys) (vs ++ ws)
  unfolding Holds
  holds_append [] ys [] ws h g = g
  holds_append [] ys (v ∷ vs) ws h g = absurd h
  holds_append (x ∷ xs) ys [] ws h g = absurd h
  holds_append (x ∷ xs) ys (v ∷ vs) ws h g = (h.0, holds_append xs ys vs ws h.1 g)

  pub holds_take : (n : ℕ) (xs : List ℕ) (vs : List Bool) → Holds ρ xs vs → Holds ρ (take n xs) (take n vs)
  unfolding Holds
  holds_take zero xs vs h = tt
  holds_take (suc n) [] [] h = tt
  holds_take (suc n) [] (v ∷ vs) h = absurd h
  holds_take (suc n) (x ∷ xs) [] h = absurd h
  holds_take (suc n) (x ∷ xs) (v ∷ vs) h = (h.0, holds_take n xs vs h.1)

  pub holds_drop : (n : ℕ) (xs : List ℕ) (vs : List Bool) → Holds ρ xs vs → Holds ρ (drop n xs) (drop n vs)
  unfolding Holds
  holds_drop zero xs vs h = h
  holds_drop (suc n) [] [] h = tt
  holds_drop (suc n) [] (v ∷ vs) h = absurd h
  holds_drop (suc n) (x ∷ xs) [] h = absurd h
  holds_drop (suc n) (x ∷ xs) (v ∷ vs) h = holds_drop n xs vs h.1

  sure_same : (b : Bit) (v w : Bool) → Sure ρ b v → Sure ρ b w → v ≡ w
  sure_same Zero v w h g = h ∙ sym g
  sure_same One v w h g = h ∙ sym g
  sure_same Unknown v w h g = absurd h
  sure_same (Sym e) v w h g = h ∙ sym g

  -- codes hold one value
  pub holds_same : (xs : List ℕ) (vs ws : List Bool) → Holds ρ xs vs → Holds ρ xs ws → vs ≡ ws
  unfolding Holds
  holds_same [] [] [] h g = refl
  holds_same [] [] (w ∷ ws) h g = absurd g
  holds_same [] (v ∷ vs) ws h g = absurd h
  holds_same (x ∷ xs) [] ws h g = absurd h
  holds_same (x ∷ xs) (v ∷ vs) [] h g = absurd g
  holds_same (x ∷ xs) (v ∷ vs) (w ∷ ws) h g =
      ap₂ (λ (a : Bool) (l : List Bool). a ∷ l) (sure_same (bit_of x) v w h.0 g.0) (holds_same xs vs ws h.1 g.1)

  -- a bit written as its code
  sure_code : (b : Bit) (v : Bool) → Small b → Sure ρ b v → Sure ρ (bit_of (code_of b)) v
  sure_code b v s h = subst (λ (x : Bit). Sure ρ x v) (sym (round b s)) h

  digit_holds : (t : Bool) → Sure ρ (bit_of (code_of (pick t One Zero))) t
  digit_holds true = sure_code One true tt refl
  digit_holds false = sure_code Zero false tt refl

  -- a constant's digits hold it
  pub digits_hold : (n v : ℕ) → Holds ρ (codes (digits n v)) (low n v)
  unfolding Holds
  digits_hold zero v = tt
  digits_hold (suc n) v = (digit_holds (eqb (v % 2) 1), digits_hold n (v / 2))

  -- naming
  small_name : (id i : ℕ) (x : Bit) → id < 4294967296 → Small x → Small (name_b (record { 0 = id }) i x)
  small_name id i Zero hd h = tt
  small_name id i One hd h = tt
  small_name id i Unknown hd h = (hd, mod-lt i (lit< tt))
  small_name id i (Sym e) hd h = h

  sure_name : (id i : ℕ) (x : Bit) (v : Bool) → v ≡ ρ id (i % 256) → Agree ρ x v → Sure ρ (name_b (record { 0 = id }) i x) v
  sure_name id i Zero v e h = h
  sure_name id i One v e h = h
  sure_name id i Unknown v e h = e
  sure_name id i (Sym x) v e h = h

  -- once unknown bits are named by an expression that is the value's, codes that agree with a value hold it
  pub names_hold : (id i : ℕ) (xs : List ℕ) (vs : List Bool) → id < 4294967296 → i + length vs ≤ 256
      → ((j : ℕ) → j < length vs → ρ id (i + j) ≡ get_or vs j false) → Agrees ρ (bits xs) vs → Holds ρ (codes (name_from (record { 0 = id }) i (bits xs))) vs
  unfolding Holds
  names_hold id i [] [] hd l t h = tt
  names_hold id i [] (v ∷ vs) hd l t h = absurd h
  names_hold id i (x ∷ xs) [] hd l t h = absurd h
  names_hold id i (x ∷ xs) (v ∷ vs) hd l t h =
      let m : i % 256 ≡ i + 0 = omega arith in (
        sure_code (name_b (record { 0 = id }) i (bit_of x)) v (small_name id i (bit_of x) hd (small_bit x))
            (sure_name id i (bit_of x) v (sym (ap (ρ id) m ∙ t 0 (omega arith))) h.0),
        names_hold id (suc i) xs vs hd (omega arith)
            (λ j q. ap (ρ id) (let p : suc i + j ≡ i + suc j = omega arith in p) ∙ t (suc j) (omega arith)) h.1,
      )

  code : (id i : ℕ) → code_of (Sym (record { id = record { 0 = id }; offset = i; invert = false })) ≡ 4 + 512 * id + 2 * i
  unfolding code_of
  code id i = add-zero (4 + 512 * id + 2 * i)

  -- new expressions hold a value that is theirs
  pub fresh_holds : (id i : ℕ) (vs : List Bool) → id < 4294967296 → i + length vs ≤ 256
      → ((j : ℕ) → j < length vs → ρ id (i + j) ≡ get_or vs j false) → Holds ρ (fresh_from id i (length vs)) vs
  unfolding Holds
  fresh_holds id i [] hd l t = tt
  fresh_holds id i (v ∷ vs) hd l t =
      let e : Expr = record { id = record { 0 = id }; offset = i; invert = false } in
      let c : code_of (Sym e) ≡ 4 + 512 * id + 2 * i = code id i in
      let z : i + 0 ≡ i = omega arith in (
        subst (λ (n : ℕ). Sure ρ (bit_of n) v) c
            (sure_code (Sym e) v (hd, omega arith) (sym (t 0 (omega arith)) ∙ ap (ρ id) z)),
        fresh_holds id (suc i) vs hd (omega arith)
            (λ j q. ap (ρ id) (let p : suc i + j ≡ i + suc j = omega arith in p) ∙ t (suc j) (omega arith)),
      )

  -- the lowest bits called zero
  trail_step : (m : ℕ) (b : Bit) (n : ℕ) (v : Bool) → suc m ≤ trail_k b n → Sure ρ b v → (m ≤ n) × (v ≡ false)
  trail_step m Zero n v l h = (omega (arith, l), h)
  trail_step m One n v l h = absurd (omega (arith, l))
  trail_step m Unknown n v l h = absurd h
  trail_step m (Sym e) n v l h = absurd (omega (arith, l))

  pub trailing_zero : (m : ℕ) (xs : List ℕ) (vs : List Bool) → m ≤ trailing_zeros (bits xs) → Holds ρ (take m xs) vs → num vs ≡ 0
  unfolding Holds
  trailing_zero zero xs [] l h = refl
  trailing_zero zero xs (v ∷ vs) l h = absurd h
  trailing_zero (suc m) [] vs l h = absurd (omega (arith, l))
  trailing_zero (suc m) (x ∷ xs) [] l h = absurd h
  trailing_zero (suc m) (x ∷ xs) (v ∷ vs) l h =
      let p = trail_step m (bit_of x) (trailing_zeros (bits xs)) v l h.0 in
      let q : num vs ≡ 0 = trailing_zero m xs vs p.0 h.1 in
      let r : one_if v ≡ 0 = ap one_if p.1 in
      omega (arith, q, r)

  pub trailing_part : (a m : ℕ) (xs : List ℕ) (vs : List Bool) → a + m ≤ trailing_zeros (bits xs) → Holds ρ (take m (drop a xs)) vs → num vs ≡ 0
  trailing_part zero m xs vs l h = trailing_zero m xs vs (omega (arith, l)) h
  trailing_part (suc a) m [] vs l h = absurd (omega (arith, l))
  trailing_part (suc a) m (x ∷ xs) vs l h = trailing_part a m xs vs (less (bit_of x) l) h
    where
      less : (b : Bit) → suc a + m ≤ trail_k b (trailing_zeros (bits xs)) → a + m ≤ trailing_zeros (bits xs)
      less Zero q = omega (arith, q)
      less One q = absurd (omega (arith, q))
      less Unknown q = absurd (omega (arith, q))
      less (Sym e) q = absurd (omega (arith, q))
