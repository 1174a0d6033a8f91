-- What a symbolic bit means: under a valuation of the expressions it agrees with a truth value. An operation is sound if, whenever the
-- operands' bits agree, each output bit agrees with that bit of the operation's meaning.
use Rattle.std.specs.Prelude.{ℕ, zero, suc, ◌+◌, ◌*◌, ◌/◌, ◌%◌, ◌≡◌, Bool, true, false, not, List, [], ◌∷◌, eqb, length}
use Rattle.bit.specs.Bits.{one_if}
use Rattle.bit.specs.declared.Expr.{Expr}
use Rattle.bit.specs.declared.Bit.{Bit}
use Rattle.bit.specs.declared.Bit.TheVariants.{Zero, One, Unknown, Expr as Sym}
use Rattle.bit_vec.specs.Lists.{bits}
use Rattle.eval.specs.Held.{plain, coded}
use Rattle.eval.specs.Eval.{family_of, outcome_of}
use Rattle.eval.specs.Sizes.{fits_bits}
use Rattle.meaning.specs.Meaning.{meaning}
use Rattle.pcode.specs.Rules.{size_rule}
use Rattle.pcode.specs.declared.op.Op.{Op}
use Rattle.pcode.specs.declared.op.Op.TheVariants.{Trap, InstructionMarker, PcodeLabel, PcodeBranch, Branch, Load, Store, Call, Select, Subpiece, Opaque, Float, One as OneOf, Two, Divide, Shift, Rotate, Compare, Bool as BoolOf}

-- a truth value for each expression, by its id and offset
abbrev pub Valuation : Type 0
Valuation = ℕ → ℕ → Bool

-- plain exclusive or
abbrev pub ◌xor◌ : Bool → Bool → Bool
true xor b = not b
false xor b = b

infixl 50 ◌xor◌
-- the truth value of an expression: the other one where it is inverted
abbrev pub value_e : Valuation → Expr → Bool
value_e ρ e = e.invert xor ρ e.id.0 e.offset

-- zero: false; one: true; unknown: anything; an expression: its value
abbrev pub Agree : Valuation → Bit → Bool → Type 0
Agree ρ Zero v = v ≡ false
Agree ρ One v = v ≡ true
Agree ρ Unknown v = Unit {0}
Agree ρ (Sym e) v = v ≡ value_e ρ e

-- place by place, of the same length
abbrev pub Agrees : Valuation → List Bit → List Bool → Type 0
Agrees ρ [] [] = Unit {0}
Agrees ρ [] (v ∷ vs) = ⊥
Agrees ρ (b ∷ bs) [] = ⊥
Agrees ρ (b ∷ bs) (v ∷ vs) = Agree ρ b v × Agrees ρ bs vs

-- the number of a list of truth values, lowest first
abbrev pub num : List Bool → ℕ
num [] = 0
num (v ∷ vs) = one_if v + 2 * num vs

-- the lowest n bits of a number
abbrev pub low : ℕ → ℕ → List Bool
low zero k = []
low (suc n) k = eqb (k % 2) 1 ∷ low n (k / 2)

-- the operations of the run class that have an output, loads apart
abbrev pub computes : Op → Bool
computes (Trap t) = false
computes InstructionMarker = false
computes (PcodeLabel l) = false
computes (PcodeBranch l) = false
computes (Branch n) = false
computes (Load n) = false
computes (Store n) = false
computes (Call k n) = false
computes (Select n) = false
computes (Subpiece k) = true
computes (Opaque k) = false
computes (Float k) = false
computes (OneOf k) = true
computes (Two k) = true
computes (Divide k) = false
computes (Shift k) = true
computes (Rotate k) = false
computes (Compare k) = true
computes (BoolOf k) = true

-- under every valuation that agrees with the operands, each bit called zero, one or expression is that bit of the meaning
abbrev pub Sound : Op → Type 0
Sound op =
    (ρ : Valuation) (a b old : List Bit) (vs ws : List Bool) → fits_bits (size_rule op) (length a) (length b) (length old) ≡ true → Agrees ρ a vs → Agrees ρ b ws
    → Agrees ρ (family_of plain op a b old).cells (low (length old) (meaning op (length a) (length old) (num vs) (num ws)))

-- the same of the numbers that stand for the bits, as the evaluator promises them
abbrev pub SoundCoded : Op → Type 0
SoundCoded op =
    (ρ : Valuation) (a b old : List ℕ) (vs ws : List Bool) → fits_bits (size_rule op) (length a) (length b) (length old) ≡ true → Agrees ρ (bits a) vs → Agrees ρ (bits b) ws
    → Agrees ρ (bits (outcome_of coded op a b old).cells) (low (length old) (meaning op (length a) (length old) (num vs) (num ws)))
