-- Logic on bit vectors agrees with the same logic on numbers.
use Rattle.std.proofs.Common.{ℕ, ◌+◌, ◌*◌, ◌-◌, ◌/◌, ◌%◌, ◌^◌, min, max, ◌≡◌, refl, sym, ◌∙◌, ap₂, Bool, true, false, not, ◌&&◌, ◌||◌, List, [], ◌∷◌, map, arith, eqb, bit_and, bit_or, bit_xor, length, get_or}
use lib.Bits.{differ, and_step, or_step, xor_step}
use lib.ListN.{length-map}
use Rattle.bit.specs.Bits.{one_if, not_b}
use Rattle.bit.specs.declared.Bit.{Bit}
use Rattle.bit_vec.specs.Lists.{zip_bits, each, still, logic_b}
use Rattle.bit_vec.specs.declared.logic.Logic.{Logic}
use Rattle.bit_vec.specs.declared.logic.Logic.TheVariants.{And, Or, Xor}
use Rattle.meaning.specs.Meaning.{odd}
use Rattle.sound.specs.Sound.{Valuation, ◌xor◌, Agree, Agrees, num, low}
use Rattle.sound.proofs.Ops.{sound_and, sound_or, sound_xor}
use Rattle.sound.proofs.Numbers.{parity, num_head, num_tail, num_flip, low_num}
use Rattle.sound.proofs.Lists.{walk, length_walk, sound_scan, flipped}

-- place by place
abbrev pub zip_v : (Bool → Bool → Bool) → List Bool → List Bool → List Bool
zip_v f = walk (λ (s : Unit {0}) v w. f v w) (λ (s : Unit {0}) v w. s) tt

-- a function F of numbers that goes digit by digit, f on digits being p on truth values
module _ (F f : ℕ → ℕ → ℕ) (p : Bool → Bool → Bool) (start : F 0 0 ≡ 0) (step : (a b : ℕ) → F a b ≡ F (a / 2) (b / 2) * 2 + f (a % 2) (b % 2))
    (digit : (v w : Bool) → f (one_if v) (one_if w) ≡ one_if (p v w)) where
  num_zip : (vs ws : List Bool) → length vs ≡ length ws → F (num vs) (num ws) ≡ num (zip_v p vs ws)
  num_zip [] [] e = start
  num_zip [] (w ∷ ws) e = absurd (omega (arith, e))
  num_zip (v ∷ vs) [] e = absurd (omega (arith, e))
  num_zip (v ∷ vs) (w ∷ ws) e =
      let q : F (num vs) (num ws) ≡ num (zip_v p vs ws) = num_zip vs ws (omega arith) in
      step (num (v ∷ vs)) (num (w ∷ ws))
      ∙ ap₂ (λ (x y : ℕ). x * 2 + y) (ap₂ F (num_tail v (num vs)) (num_tail w (num ws)) ∙ q) (ap₂ f (num_head v (num vs)) (num_head w (num ws)) ∙ digit v w)
      ∙ omega arith

and_digit : (v w : Bool) → min (one_if v) (one_if w) ≡ one_if (v && w)
and_digit true true = refl
and_digit true false = refl
and_digit false true = refl
and_digit false false = refl

or_digit : (v w : Bool) → max (one_if v) (one_if w) ≡ one_if (v || w)
or_digit true true = refl
or_digit true false = refl
or_digit false true = refl
or_digit false false = refl

xor_digit : (v w : Bool) → differ (one_if v) (one_if w) ≡ one_if (v xor w)
xor_digit true true = refl
xor_digit true false = refl
xor_digit false true = refl
xor_digit false false = refl

-- the same logic on truth values and on numbers
abbrev logic_v : Logic → Bool → Bool → Bool
logic_v And v w = v && w
logic_v Or v w = v || w
logic_v Xor v w = v xor w

abbrev pub logic_n : Logic → ℕ → ℕ → ℕ
logic_n And a b = bit_and a b
logic_n Or a b = bit_or a b
logic_n Xor a b = bit_xor a b

num_logic : (k : Logic) (vs ws : List Bool) → length vs ≡ length ws → logic_n k (num vs) (num ws) ≡ num (zip_v (logic_v k) vs ws)
num_logic And = num_zip bit_and min (λ v w. v && w) refl and_step and_digit
num_logic Or = num_zip bit_or max (λ v w. v || w) refl or_step or_digit
num_logic Xor = num_zip bit_xor differ (λ v w. v xor w) refl xor_step xor_digit

module _ (ρ : Valuation) where
  sound_logic_bit : (k : Logic) (x y : Bit) (v w : Bool) → Agree ρ x v → Agree ρ y w → Agree ρ (logic_b k x y) (logic_v k v w)
  sound_logic_bit And x y v w = sound_and ρ x y v w
  sound_logic_bit Or x y v w = sound_or ρ x y v w
  sound_logic_bit Xor x y v w = sound_xor ρ x y v w

  -- and, or, exclusive or
  pub sound_logic : (k : Logic) (xs ys : List Bit) (vs ws : List Bool) → Agrees ρ xs vs → Agrees ρ ys ws → length vs ≡ length ws
      → Agrees ρ (zip_bits (logic_b k) xs ys) (low (length vs) (logic_n k (num vs) (num ws)))
  sound_logic k xs ys vs ws hx hy e =
      let l : length (zip_v (logic_v k) vs ws) ≡ length vs = length_walk (λ (s : Unit {0}) v w. logic_v k v w) (λ (s : Unit {0}) v w. s) tt vs ws e in
      rw (low_num (length vs) (logic_n k (num vs) (num ws)) (zip_v (logic_v k) vs ws) l (num_logic k vs ws e))
      (sound_scan ρ (λ (s t : Unit {0}). Unit {0}) still (λ (s : Unit {0}) v w. s) (λ s t x y v w r h g. tt) (each (logic_b k)) (λ (s : Unit {0}) v w. logic_v k v w)
      (λ s t x y v w r h g. sound_logic_bit k x y v w h g) tt tt xs ys vs ws tt hx hy)

  -- every bit flipped
  pub sound_flip : (xs : List Bit) (vs : List Bool) → Agrees ρ xs vs → Agrees ρ (map not_b xs) (low (length vs) (2 ^ length vs - 1 - num vs))
  sound_flip xs vs h = rw (low_num (length vs) (2 ^ length vs - 1 - num vs) (map not vs) (length-map vs not) (sym (num_flip vs))) (flipped ρ xs vs h)

-- bit 0 of a number
pub odd_first : (vs : List Bool) → odd (num vs) ≡ get_or vs 0 false
odd_first [] = refl
odd_first (v ∷ vs) = parity ((one_if v + 2 * num vs) % 2) v (num_head v (num vs))

differ_bits : (v w : Bool) → not (eqb (one_if v) (one_if w)) ≡ (v xor w)
differ_bits true true = refl
differ_bits true false = refl
differ_bits false true = refl
differ_bits false false = refl

first_rest : (vs : List Bool) → num vs % 2 ≡ one_if (get_or vs 0 false)
first_rest [] = refl
first_rest (v ∷ vs) = num_head v (num vs)

pub odd_differ : (vs ws : List Bool) → not (eqb (num vs % 2) (num ws % 2)) ≡ (get_or vs 0 false xor get_or ws 0 false)
odd_differ vs ws = ap₂ (λ (a b : ℕ). not (eqb a b)) (first_rest vs) (first_rest ws) ∙ differ_bits (get_or vs 0 false) (get_or ws 0 false)
