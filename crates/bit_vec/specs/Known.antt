-- What is known of a bit vector, and the shifts that go by it, in 01's words.
use Rattle.std.specs.Prelude.{ℕ, Option, Some, None, suc, ◌+◌, ◌*◌, ◌%◌, ◌^◌, List, [], ◌∷◌, reverse, leb, length, replicate}
use Rattle.bit.specs.Bits.{pick}
use Rattle.bit.specs.declared.Bit.{Bit}
use Rattle.bit.specs.declared.Bit.TheVariants.{Zero, One, Unknown, Expr as Sym}
use Rattle.bit_vec.specs.Moves.{up, down}

-- a known number doubled, with o below
abbrev pub twice : ℕ → Option ℕ → Option ℕ
twice o (Some n) = Some (2 * n + o)
twice o None = None

-- a fold from the last bit to the first
abbrev pub fold_bits : (Bit → Option ℕ → Option ℕ) → List Bit → Option ℕ
fold_bits f [] = Some 0
fold_bits f (x ∷ xs) = f x (fold_bits f xs)

-- one more bit below a constant
abbrev pub cons_k : Bit → Option ℕ → Option ℕ
cons_k Zero k = twice 0 k
cons_k One k = twice 1 k
cons_k Unknown k = None
cons_k (Sym e) k = None

-- the number that known bits are, at any width
abbrev pub const_from : List Bit → Option ℕ
const_from = fold_bits cons_k

-- a known constant needs every bit known and at most 64 bits
abbrev pub const_of : List Bit → Option ℕ
const_of xs = pick (leb (length xs) 64) (const_from xs) None

-- a bit that is one counts, an undecided one as zero
abbrev pub one_of : Bit → ℕ
one_of Zero = 0
one_of One = 1
one_of Unknown = 0
one_of (Sym e) = 0

-- a shift's least amount reads every undecided bit as zero, modulo 2^64
abbrev pub least : List Bit → ℕ
least [] = 0
least (x ∷ xs) = (2 * least xs + one_of x) % 2 ^ 64

-- a known number and n more
abbrev pub plus : ℕ → Option ℕ → Option ℕ
plus n (Some k) = Some (n + k)
plus n None = None

-- one more bit to count
abbrev pub count_k : Bit → Option ℕ → Option ℕ
count_k Zero k = k
count_k One k = plus 1 k
count_k Unknown k = None
count_k (Sym e) k = None

-- counting ones needs every bit known
abbrev pub count_ones : List Bit → Option ℕ
count_ones = fold_bits count_k

-- one more bit above: a one ends the run of zeros
abbrev pub lead_k : Bit → Option ℕ → Option ℕ
lead_k Zero k = plus 1 k
lead_k One k = Some 0
lead_k Unknown k = None
lead_k (Sym e) k = None

-- the zeros before the first one
abbrev pub zeros_first : List Bit → Option ℕ
zeros_first = fold_bits lead_k

-- leading zeros need the bits down to the highest one, or all
abbrev pub leading_zeros : List Bit → Option ℕ
leading_zeros xs = zeros_first (reverse xs)

-- one more bit below: all but a zero end the run
abbrev pub trail_k : Bit → ℕ → ℕ
trail_k Zero n = suc n
trail_k One n = 0
trail_k Unknown n = 0
trail_k (Sym e) n = 0

-- how many of the lowest bits are known to be zero
abbrev pub trailing_zeros : List Bit → ℕ
trailing_zeros [] = 0
trailing_zeros (x ∷ xs) = trail_k x (trailing_zeros xs)

-- a shift by an amount, `move k` being the shift by k: known, exact; else unknown, with that least count m of places moved in
abbrev pub shift_by {ℓ} : {A : Type ℓ} → (ℕ → List A → List A) → A → Option ℕ → ℕ → List A → List A
shift_by move u (Some k) m xs = move k xs
shift_by move u None m xs = move m (replicate (length xs) u)

-- least amount at or above the width: all z, which is zero or the sign
abbrev pub shift_of {ℓ} : {A : Type ℓ} → (ℕ → List A → List A) → A → A → List A → List Bit → List A
shift_of move z u xs sh = pick (leb (length xs) (least sh)) (replicate (length xs) z) (shift_by move u (const_of sh) (least sh) xs)

-- left: low places are set to zero, z
abbrev pub left_of {ℓ} : {A : Type ℓ} → A → A → List A → List Bit → List A
left_of z = shift_of (up z) z

-- right: high places are set to zero or the sign, z
abbrev pub right_of {ℓ} : {A : Type ℓ} → A → A → List A → List Bit → List A
right_of z = shift_of (down z) z
