-- Bit vectors as lists, lowest bit first: logic, equality, sums and differences, in 01's words.
use Rattle.std.specs.Prelude.{ℕ, Option, Some, None, zero, suc, List, [], ◌∷◌, map}
use Rattle.bit.specs.Bits.{not_b, and_b, or_b, xor_b, eq_b, code_of, bit_of}
use Rattle.bit.specs.declared.Bit.{Bit}
use Rattle.bit.specs.declared.Bit.TheVariants.{Zero, One, Unknown, Expr as Sym}
use Rattle.bit_vec.specs.declared.logic.Logic.{Logic}
use Rattle.bit_vec.specs.declared.logic.Logic.TheVariants.{And, Or, Xor}
use Rattle.bit_vec.specs.declared.ripple.Ripple.{Ripple}
use Rattle.bit_vec.specs.declared.ripple.Ripple.TheVariants.{Add, Sub}
use Rattle.bit_vec.specs.declared.ripple.Place.{Place}
use Rattle.bit_vec.specs.Moves.{last_of}

-- the bits that a list of codes stands for
abbrev pub bits : List ℕ → List Bit
bits = map bit_of

-- the codes of bits
abbrev pub codes : List Bit → List ℕ
codes = map code_of

-- two lists walked together from the lowest bit with a state: what is put at each place
abbrev pub scan {ℓ} : {S : Type ℓ} → (S → Bit → Bit → Bit) → (S → Bit → Bit → S) → S → List Bit → List Bit → List Bit
scan f g s [] ys = []
scan f g s (x ∷ xs) [] = []
scan f g s (x ∷ xs) (y ∷ ys) = f s x y ∷ scan f g (g s x y) xs ys

-- the last state of that walk
abbrev pub scanned {ℓ} : {S : Type ℓ} → (S → Bit → Bit → S) → S → List Bit → List Bit → S
scanned g s [] ys = s
scanned g s (x ∷ xs) [] = s
scanned g s (x ∷ xs) (y ∷ ys) = scanned g (g s x y) xs ys

-- a walk with no state
abbrev pub each : (Bit → Bit → Bit) → Unit {0} → Bit → Bit → Bit
each f s x y = f x y

-- nothing is carried on
abbrev pub still : Unit {0} → Bit → Bit → Unit {0}
still s x y = s

-- an operation on bits, place by place
abbrev pub zip_bits : (Bit → Bit → Bit) → List Bit → List Bit → List Bit
zip_bits f = scan (each f) still tt

-- and, or, exclusive or
abbrev pub logic_b : Logic → Bit → Bit → Bit
logic_b And x y = and_b x y
logic_b Or x y = or_b x y
logic_b Xor x y = xor_b x y

-- a place of a sum or a difference: the half sum, with the carry or the borrow c into it
abbrev pub digit_b : Bit → Bit → Bit → Bit
digit_b c x y = xor_b (xor_b x y) c

-- the carry or the borrow out of a place: half carry, or the half sum's
abbrev pub carry_b : Ripple → Bit → Bit → Bit → Bit
carry_b Add c x y = or_b (and_b x y) (and_b (xor_b x y) c)
carry_b Sub c x y = or_b (and_b (not_b x) y) (and_b (not_b (xor_b x y)) c)

-- a sum or a difference, as wide as the operands
abbrev pub ripple_bits : Ripple → List Bit → List Bit → List Bit
ripple_bits op = scan digit_b (carry_b op) Zero

-- the last carry or borrow
abbrev pub ripple_carry : Ripple → List Bit → List Bit → Bit
ripple_carry op = scanned (carry_b op) Zero

-- a place's digit and the carry or borrow out of it
abbrev pub place_step : Ripple → Place → Bit → Bit → Place
place_step op p x y = record { carry = carry_b op p.carry x y; digit = digit_b p.carry x y }

-- the highest digit of a sum or a difference, with the last carry or borrow; zero where there is none
abbrev pub last_place : Ripple → List Bit → List Bit → Place
last_place op = scanned (place_step op) (record { carry = Zero; digit = Zero })

-- a signed sum overflows where the operands' signs x, y are zero and the sum's c is one, or the reverse
abbrev pub overflow_add : Bit → Bit → Bit → Bit
overflow_add x y c = or_b (and_b (not_b (or_b x y)) c) (and_b (and_b x y) (not_b c))

-- the signed carry of a sum
abbrev pub add_overflow : List Bit → List Bit → Bit
add_overflow xs ys = overflow_add (last_of Zero xs) (last_of Zero ys) (last_place Add xs ys).digit

-- a signed difference overflows where the operands' signs x, y differ and the difference's c is not x
abbrev pub overflow_sub : Bit → Bit → Bit → Bit
overflow_sub x y c = and_b (xor_b x y) (xor_b c x)

-- the signed borrow of a difference
abbrev pub sub_overflow : List Bit → List Bit → Bit
sub_overflow xs ys = overflow_sub (last_of Zero xs) (last_of Zero ys) (last_place Sub xs ys).digit

-- 0 for zero, 1 for one, nothing for a bit that is not decided
abbrev pub value_of : Bit → Option ℕ
value_of Zero = Some 0
value_of One = Some 1
value_of Unknown = None
value_of (Sym e) = None

-- after the last place of a comparison: none undecided, one; one undecided, that place's bit; two or more, unknown
abbrev pub eq_done : ℕ → Bit → Bit
eq_done zero d = d
eq_done (suc zero) d = d
eq_done (suc (suc n)) d = Unknown

-- a position decided unequal gives zero; one undecided is counted, and its bit kept
abbrev pub eq_step : Bit → (ℕ → Bit → Bit) → ℕ → Bit → Bit
eq_step Zero r n d = Zero
eq_step One r n d = r n d
eq_step Unknown r n d = r (suc n) Unknown
eq_step (Sym e) r n d = r (suc n) (Sym e)

-- position by position, with how many are undecided and the last of these
abbrev pub eq_from : List Bit → List Bit → ℕ → Bit → Bit
eq_from [] ys n d = eq_done n d
eq_from (x ∷ xs) [] n d = eq_done n d
eq_from (x ∷ xs) (y ∷ ys) n d = eq_step (eq_b x y) (eq_from xs ys) n d

-- slice equality
abbrev pub eq_bits : List Bit → List Bit → Bit
eq_bits xs ys = eq_from xs ys 0 One
