-- Widened sizes. Assumes nothing.
use Rattle.std.proofs.Common.{ℕ, zero, suc, ◌+◌, ◌*◌, ◌-◌, ◌/◌, ◌≤◌, ◌≡◌, refl, ◌∙◌, ap, Bool, true, false, ◌||◌, List, [], ◌∷◌, arith, eqb, Option, Some, None, length, take, drop, eqb-true}
use Rattle.pcode.specs.Var.{pick}
use Rattle.bit_vec.specs.Lists.{bits}
use Rattle.bit_vec.specs.Known.{trailing_zeros}
use Rattle.eval.proofs.Products.{trailing_le}
use Rattle.const_eval.specs.declared.place.Place.{Place}
use Rattle.widen.specs.Widen.{zeros_above, is_power, widened_of}

-- a row has room for 16 zero bytes
pub zeros_le : (store : List ℕ) (p : Place) → zeros_above store p ≤ 16
unfolding zeros_above
zeros_le store p =
    let n = 8 * (p.offset + p.size) in
    let xs = take (128 - n) (drop (128 * p.row + n) store) in
    let a : length xs ≤ 128 - n = take_le (128 - n) (drop (128 * p.row + n) store) in
    let b : trailing_zeros (bits xs) ≤ length xs = trailing_le xs in
    let c : trailing_zeros (bits xs) ≤ 128 = omega (arith, a, b) in
    eighth (trailing_zeros (bits xs)) c
  where
    take_le : (n : ℕ) (xs : List ℕ) → length (take n xs) ≤ n
    take_le zero xs = omega arith
    take_le (suc n) [] = omega arith
    take_le (suc n) (x ∷ xs) = let ih : length (take n xs) ≤ n = take_le n xs in omega (arith, ih)

    eighth : (n : ℕ) → n ≤ 128 → n / 8 ≤ 16
    eighth n h = omega (arith, h)

-- the zeros above, by the slice that the code takes
pub zeros_slice : (store : List ℕ) (p : Place) (z : ℕ) → p.offset + p.size ≤ 16
    → z ≡ trailing_zeros (bits (take (128 * p.row + 128 - (128 * p.row + 8 * (p.offset + p.size))) (drop (128 * p.row + 8 * (p.offset + p.size)) store)))
    → z / 8 ≡ zeros_above store p
unfolding zeros_above
zeros_slice store p z h e =
    let n = 8 * (p.offset + p.size) in
    let q : 128 * p.row + 128 - (128 * p.row + n) ≡ 128 - n = omega (arith, h) in
    ap (λ (k : ℕ). k / 8) (e ∙ ap (λ (k : ℕ). trailing_zeros (bits (take k (drop (128 * p.row + n) store)))) q)

-- a power of two that a size can be
pub power_le : (n : ℕ) → is_power n ≡ true → n ≤ 16
power_le n h = go (eqb n 2) (eqb n 4) (eqb n 8) (eqb n 16) refl refl refl refl h
  where
    go : (a b c d : Bool) → eqb n 2 ≡ a → eqb n 4 ≡ b → eqb n 8 ≡ c → eqb n 16 ≡ d → (a || (b || (c || d))) ≡ true → n ≤ 16
    go true b c d ea eb ec ed h = let q : n ≡ 2 = eqb-true n 2 ea in omega (arith, q)
    go false true c d ea eb ec ed h = let q : n ≡ 4 = eqb-true n 4 eb in omega (arith, q)
    go false false true d ea eb ec ed h = let q : n ≡ 8 = eqb-true n 8 ec in omega (arith, q)
    go false false false true ea eb ec ed h = let q : n ≡ 16 = eqb-true n 16 ed in omega (arith, q)
    go false false false false ea eb ec ed h = absurd (let z : ◌≡◌ {A = ℕ} 0 1 = cc in omega arith)

-- a widened size is at most 16
pub widened_le : (store : List ℕ) (p : Place) (n : ℕ) → widened_of store p ≡ Some n → n ≤ 16
unfolding widened_of
widened_le store p n q = go (eqb p.offset 0) (eqb (zeros_above store p) 0) (is_power w) refl q
  where
    w : ℕ
    w = p.size + zeros_above store p

    go : (a b c : Bool) → is_power w ≡ c → ◌≡◌ {A = Option ℕ} (pick a (pick b None (pick c (Some w) None)) None) (Some n) → n ≤ 16
    go false b c e q = absurd (cc)
    go true true c e q = absurd (cc)
    go true false true e q = let k : w ≡ n = cc in omega (arith, power_le w e, k)
    go true false false e q = absurd (cc)
