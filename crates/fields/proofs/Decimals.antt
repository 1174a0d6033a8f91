-- How a row of digits goes on, one digit at a time, and that a value stays within its limit.
use Rattle.std.proofs.Common.{ℕ, zero, suc, ◌+◌, ◌*◌, ◌-◌, ◌/◌, ◌<◌, ◌≤◌, add-one, arith, ◌≡◌, refl, Bool, true, false, List, [], ◌∷◌, leb-true, eqb, leb, ltb, length, get_or, drop, drop_of_length-le, drop-cons, Option, Some, None}
use Rattle.pcode.specs.Var.{pick}
use Rattle.fields.specs.Decimals.{step_of, on_value, digits_of, decimal_of}

module _ (limit v : ℕ) (s : List ℕ) (i : ℕ) where
  pub digits_end : length s ≤ i → digits_of limit v (drop i s) ≡ Some v
  unfolding digits_of
  digits_end h = rw (drop_of_length-le s h)

  module _ (h : i < length s) where
    pub digits_bad : step_of limit v (get_or s i 0) ≡ None → digits_of limit v (drop i s) ≡ None
    unfolding digits_of
    digits_bad e = rw (drop-cons s i 0 h, e)

    pub digits_more : (w : ℕ) → step_of limit v (get_or s i 0) ≡ Some w → digits_of limit v (drop i s) ≡ digits_of limit w (drop (i + 1) s)
    unfolding digits_of
    digits_more w e = rw (drop-cons s i 0 h, e, add-one)

pub decimal_one : (limit : ℕ) (s : List ℕ) → length s ≡ 1 → decimal_of limit s ≡ digits_of limit 0 s
unfolding decimal_of
decimal_one limit [] e = let z : ◌≡◌ {A = ℕ} 0 1 = e in absurd (eqb_no z)
  where
    eqb_no : ◌≡◌ {A = ℕ} 0 1 → ⊥
    eqb_no z = omega arith
decimal_one limit (b ∷ []) e = refl
decimal_one limit (b ∷ c ∷ s) e = absurd (no e)
  where
    no : suc (suc (length s)) ≡ 1 → ⊥
    no z = omega arith

pub decimal_many : (limit : ℕ) (s : List ℕ) → 1 < length s → decimal_of limit s ≡ pick (eqb (get_or s 0 0) 48) None (digits_of limit 0 s)
unfolding decimal_of
decimal_many limit [] h = absurd (no h)
  where
    no : 1 < 0 → ⊥
    no z = omega arith
decimal_many limit (b ∷ []) h = absurd (no h)
  where
    no : 1 < 1 → ⊥
    no z = omega arith
decimal_many limit (b ∷ c ∷ s) h = refl

pub decimal_none : (limit : ℕ) (s : List ℕ) → length s ≡ 0 → decimal_of limit s ≡ None
unfolding decimal_of
decimal_none limit [] e = refl
decimal_none limit (b ∷ []) e = absurd (no e)
  where
    no : suc zero ≡ zero → ⊥
    no z = omega arith
decimal_none limit (b ∷ c ∷ s) e = absurd (no e)
  where
    no : suc (suc (length s)) ≡ 0 → ⊥
    no z = omega arith

-- a digit more goes past the limit, or does not
module _ (limit d v : ℕ) (h : d ≤ limit) where
  pub past_limit : (limit - d) / 10 < v → limit < 10 * v + d
  past_limit g = omega arith

  pub in_limit : v ≤ (limit - d) / 10 → 10 * v + d ≤ limit
  in_limit g = omega arith

clash : (v : ℕ) → None ≡ Some v → ⊥
clash v e = cc

-- a reading that is a value stays within the limit
step_bounded : (limit u b w : ℕ) → step_of limit u b ≡ Some w → w ≤ limit
unfolding step_of
step_bounded limit u b w = go (ltb b 48) (ltb 57 b) (leb (10 * u + (b - 48)) limit) refl
  where
    go : (s t z : Bool) → leb (10 * u + (b - 48)) limit ≡ z → pick s None (pick t None (pick z (Some (10 * u + (b - 48))) None)) ≡ Some w → w ≤ limit
    go true t z h e = absurd (clash w e)
    go false true z h e = absurd (clash w e)
    go false false false h e = absurd (clash w e)
    go false false true h e =
        let q : 10 * u + (b - 48) ≡ w = cc in
        let k : 10 * u + (b - 48) ≤ limit = leb-true _ _ h in
        omega arith

digits_bounded : (limit : ℕ) (s : List ℕ) (u v : ℕ) → u ≤ limit → digits_of limit u s ≡ Some v → v ≤ limit
unfolding digits_of
digits_bounded limit [] u v h e = let q : u ≡ v = cc in omega arith
digits_bounded limit (b ∷ s) u v h e₀ = go (step_of limit u b) refl (digits_bounded limit s) e₀
  where
    go : (p : Option ℕ) → step_of limit u b ≡ p → ((u v : ℕ) → u ≤ limit → digits_of limit u s ≡ Some v → v ≤ limit) →
        on_value p None (λ w. digits_of limit w s) ≡ Some v → v ≤ limit
    go None q f e = absurd (clash v e)
    go (Some w) q f e = f w v (step_bounded limit u b w q) e

pub bounded : (limit : ℕ) (s : List ℕ) (v : ℕ) → decimal_of limit s ≡ Some v → v ≤ limit
unfolding decimal_of
bounded limit [] v e = absurd (clash v e)
bounded limit (b ∷ []) v e = digits_bounded limit (b ∷ []) 0 v (omega arith) e
bounded limit (b ∷ c ∷ s) v e₀ = go (eqb b 48) e₀
  where
    go : (t : Bool) → pick t None (digits_of limit 0 (b ∷ c ∷ s)) ≡ Some v → v ≤ limit
    go true e = absurd (clash v e)
    go false e = digits_bounded limit (b ∷ c ∷ s) 0 v (omega arith) e
