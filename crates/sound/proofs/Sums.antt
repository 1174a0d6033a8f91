-- A sum and a difference of symbolic bits agree with those of the numbers, in every digit, in the last carry and in the highest digit.
use Rattle.std.proofs.Common.{ℕ, suc, ◌+◌, ◌*◌, ◌-◌, ◌%◌, ◌^◌, ◌<◌, ◌≡◌, refl, sym, ◌∙◌, ap, ap₂, Bool, true, false, not, ◌&&◌, ◌||◌, List, [], ◌∷◌, arith, lt-ltb, le-ltb, ltb, leb, length}
use native.Mathlib.Nat.{pow-succ'}
use Rattle.bit.specs.Bits.{one_if, not_b, and_b, xor_b}
use Rattle.bit.specs.declared.Bit.{Bit}
use Rattle.bit.specs.declared.Bit.TheVariants.{Zero}
use Rattle.bit_vec.specs.Lists.{digit_b, carry_b, ripple_bits, place_step, last_place}
use Rattle.bit_vec.specs.Moves.{last_of}
use Rattle.bit_vec.specs.declared.ripple.Ripple.{Ripple}
use Rattle.bit_vec.specs.declared.ripple.Ripple.TheVariants.{Add, Sub}
use Rattle.bit_vec.specs.declared.ripple.Place.{Place}
use Rattle.meaning.specs.Meaning.{sign}
use Rattle.sound.specs.Sound.{Valuation, ◌xor◌, Agree, Agrees, num, low}
use Rattle.sound.proofs.Ops.{sound_not, sound_and, sound_or, sound_xor}
use Rattle.sound.proofs.Numbers.{when, when_double, num_lt, low_num, sign_last, wrapped}
use Rattle.sound.proofs.Lists.{walk, walked, length_walk, sound_scan, sound_scanned}

-- one place: its digit, and the carry or the borrow out of it
abbrev pub digit_v : Bool → Bool → Bool → Bool
digit_v c v w = v xor w xor c

abbrev pub carry_v : Ripple → Bool → Bool → Bool → Bool
carry_v Add c v w = (v && w) || (v xor w && c)
carry_v Sub c v w = (not v && w) || (not (v xor w) && c)

abbrev pub ripple_v : Ripple → List Bool → List Bool → List Bool
ripple_v op = walk digit_v (carry_v op) false

abbrev pub out_v : Ripple → List Bool → List Bool → Bool
out_v op = walked (carry_v op) false

adder : (c v w : Bool) → one_if v + one_if w + one_if c ≡ one_if (digit_v c v w) + 2 * one_if (carry_v Add c v w)
adder true true true = refl
adder true true false = refl
adder true false true = refl
adder true false false = refl
adder false true true = refl
adder false true false = refl
adder false false true = refl
adder false false false = refl

subber : (c v w : Bool) → one_if v + 2 * one_if (carry_v Sub c v w) ≡ one_if w + one_if c + one_if (digit_v c v w)
subber true true true = refl
subber true true false = refl
subber true false true = refl
subber true false false = refl
subber false true true = refl
subber false true false = refl
subber false false true = refl
subber false false false = refl

-- all places: the digits with the last carry are the sum; the digits and b are a with the last borrow
add_all : (c : Bool) (vs ws : List Bool) → length vs ≡ length ws
    → num (walk digit_v (carry_v Add) c vs ws) + when (walked (carry_v Add) c vs ws) (2 ^ length vs) ≡ num vs + num ws + one_if c
add_all true [] [] e = refl
add_all false [] [] e = refl
add_all c [] (w ∷ ws) e = absurd (omega (arith, e))
add_all c (v ∷ vs) [] e = absurd (omega (arith, e))
add_all c (v ∷ vs) (w ∷ ws) e =
    let t : Bool = walked (carry_v Add) (carry_v Add c v w) vs ws in
    let p : when t (2 ^ suc (length vs)) ≡ 2 * when t (2 ^ length vs) = ap (when t) (pow-succ' 2 (length vs)) ∙ when_double t (2 ^ length vs) in
    omega (arith, adder c v w, add_all (carry_v Add c v w) vs ws (omega arith))

sub_all : (c : Bool) (vs ws : List Bool) → length vs ≡ length ws
    → num vs + when (walked (carry_v Sub) c vs ws) (2 ^ length vs) ≡ num ws + one_if c + num (walk digit_v (carry_v Sub) c vs ws)
sub_all true [] [] e = refl
sub_all false [] [] e = refl
sub_all c [] (w ∷ ws) e = absurd (omega (arith, e))
sub_all c (v ∷ vs) [] e = absurd (omega (arith, e))
sub_all c (v ∷ vs) (w ∷ ws) e =
    let t : Bool = walked (carry_v Sub) (carry_v Sub c v w) vs ws in
    let p : when t (2 ^ suc (length vs)) ≡ 2 * when t (2 ^ length vs) = ap (when t) (pow-succ' 2 (length vs)) ∙ when_double t (2 ^ length vs) in
    omega (arith, subber c v w, sub_all (carry_v Sub c v w) vs ws (omega arith))

-- the wrapped difference, and the order
differs : (P a b d : ℕ) (t : Bool) → d < P → a < P → b < P → a + when t P ≡ b + 0 + d → ((a + (P - b)) % P ≡ d) × (ltb a b ≡ t)
differs P a b d true l ha hb e = ((wrapped P d (a + (P - b)) false l (omega arith)).0, lt-ltb a b (omega arith))
differs P a b d false l ha hb e = ((wrapped P d (a + (P - b)) true l (omega arith)).0, le-ltb a b (omega arith))

-- what a sum or a difference is on numbers, wrapped, and its last carry or borrow
abbrev pub ripple_n : Ripple → ℕ → ℕ → ℕ → ℕ
ripple_n Add w a b = (a + b) % 2 ^ w
ripple_n Sub w a b = (a + (2 ^ w - b)) % 2 ^ w

abbrev pub out_n : Ripple → ℕ → ℕ → ℕ → Bool
out_n Add w a b = leb (2 ^ w) (a + b)
out_n Sub w a b = ltb a b

module _ (vs ws : List Bool) (e : length vs ≡ length ws) where
  pub length_ripple : (op : Ripple) → length (ripple_v op vs ws) ≡ length vs
  length_ripple op = length_walk digit_v (carry_v op) false vs ws e

  below : (op : Ripple) → num (ripple_v op vs ws) < 2 ^ length vs
  below op = rw (length_ripple op) at (num_lt (ripple_v op vs ws))

  pub ripple_num : (op : Ripple) → (ripple_n op (length vs) (num vs) (num ws) ≡ num (ripple_v op vs ws)) × (out_n op (length vs) (num vs) (num ws) ≡ out_v op vs ws)
  ripple_num Add = wrapped (2 ^ length vs) (num (ripple_v Add vs ws)) (num vs + num ws) (out_v Add vs ws) (below Add) (add_all false vs ws e ∙ omega arith)
  ripple_num Sub =
      differs (2 ^ length vs) (num vs) (num ws) (num (ripple_v Sub vs ws)) (out_v Sub vs ws) (below Sub) (num_lt vs) (rw e (num_lt ws)) (sub_all false vs ws e)

-- a place on truth values, and the highest one
pub record PlaceV : Type 0 where
  pub carry : Bool
  pub digit : Bool

abbrev place_v : Ripple → PlaceV → Bool → Bool → PlaceV
place_v op p v w = record { carry = carry_v op p.carry v w; digit = digit_v p.carry v w }

place_carry : (op : Ripple) (p : PlaceV) (vs ws : List Bool) → (walked (place_v op) p vs ws).carry ≡ walked (carry_v op) p.carry vs ws
place_carry op p [] ws = refl
place_carry op p (v ∷ vs) [] = refl
place_carry op p (v ∷ vs) (w ∷ ws) = place_carry op (place_v op p v w) vs ws

place_digit : (op : Ripple) (p : PlaceV) (vs ws : List Bool) → (walked (place_v op) p vs ws).digit ≡ last_of p.digit (walk digit_v (carry_v op) p.carry vs ws)
place_digit op p [] ws = refl
place_digit op p (v ∷ vs) [] = refl
place_digit op p (v ∷ vs) (w ∷ ws) = place_digit op (place_v op p v w) vs ws

module _ (ρ : Valuation) where
  sound_place_digit : (c x y : Bit) (u v w : Bool) → Agree ρ c u → Agree ρ x v → Agree ρ y w → Agree ρ (digit_b c x y) (digit_v u v w)
  sound_place_digit c x y u v w hc hx hy = sound_xor ρ (xor_b x y) c (v xor w) u (sound_xor ρ x y v w hx hy) hc

  sound_carry : (op : Ripple) (c x y : Bit) (u v w : Bool) → Agree ρ c u → Agree ρ x v → Agree ρ y w → Agree ρ (carry_b op c x y) (carry_v op u v w)
  sound_carry Add c x y u v w hc hx hy =
      sound_or ρ (and_b x y) (and_b (xor_b x y) c) (v && w) (v xor w && u) (sound_and ρ x y v w hx hy)
      (sound_and ρ (xor_b x y) c (v xor w) u (sound_xor ρ x y v w hx hy) hc)
  sound_carry Sub c x y u v w hc hx hy =
      sound_or ρ (and_b (not_b x) y) (and_b (not_b (xor_b x y)) c) (not v && w) (not (v xor w) && u)
      (sound_and ρ (not_b x) y (not v) w (sound_not ρ x v hx) hy)
      (sound_and ρ (not_b (xor_b x y)) c (not (v xor w)) u (sound_not ρ (xor_b x y) (v xor w) (sound_xor ρ x y v w hx hy)) hc)

  pub record Placed (p : Place) (q : PlaceV) : Type 0 where
    pub carried : Agree ρ p.carry q.carry
    pub placed : Agree ρ p.digit q.digit

  module _ (op : Ripple) (xs ys : List Bit) (vs ws : List Bool) (hx : Agrees ρ xs vs) (hy : Agrees ρ ys ws) (e : length vs ≡ length ws) where
    -- the digits
    pub sound_ripple : Agrees ρ (ripple_bits op xs ys) (low (length vs) (ripple_n op (length vs) (num vs) (num ws)))
    sound_ripple =
        rw (low_num (length vs) (ripple_n op (length vs) (num vs) (num ws)) (ripple_v op vs ws) (length_ripple vs ws e op) (ripple_num vs ws e op).0)
        (sound_scan ρ (Agree ρ) (carry_b op) (carry_v op) (λ c u x y v w. sound_carry op c x y u v w) digit_b digit_v (λ c u x y v w. sound_place_digit c x y u v w) Zero false xs ys vs ws refl hx hy)

    last_placed : Placed (last_place op xs ys) (walked (place_v op) (record { carry = false; digit = false }) vs ws)
    last_placed =
        sound_scanned ρ Placed (place_step op) (place_v op)
        (λ p q x y v w r h k. record { carried = sound_carry op p.carry x y q.carry v w r.carried h k; placed = sound_place_digit p.carry x y q.carry v w r.carried h k })
        (record { carry = Zero; digit = Zero }) (record { carry = false; digit = false }) xs ys vs ws (record { carried = refl; placed = refl }) hx hy

    -- the last carry or borrow
    pub sound_out : Agree ρ (last_place op xs ys).carry (out_n op (length vs) (num vs) (num ws))
    sound_out =
        rw ((ripple_num vs ws e op).1 ∙ sym (place_carry op (record { carry = false; digit = false }) vs ws)) last_placed.carried

    -- the highest digit is the sign
    pub sound_high : Agree ρ (last_place op xs ys).digit (sign (length vs) (ripple_n op (length vs) (num vs) (num ws)))
    sound_high =
        let q : sign (length vs) (ripple_n op (length vs) (num vs) (num ws)) ≡ last_of false (ripple_v op vs ws) =
        ap₂ (λ (n k : ℕ). leb (2 ^ n) (2 * k)) (sym (length_ripple vs ws e op)) (ripple_num vs ws e op).0 ∙ sign_last (ripple_v op vs ws) in
        rw (q ∙ sym (place_digit op (record { carry = false; digit = false }) vs ws)) last_placed.placed
