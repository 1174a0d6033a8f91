-- Moves: what only carries the elements of a list about, whatever they are, and the bits of numbers.
use Rattle.std.specs.Prelude.{ℕ, zero, suc, ◌-◌, ◌/◌, ◌%◌, List, [], ◌∷◌, ◌++◌, eqb, length, take, drop, replicate}
use Rattle.bit.specs.Bits.{pick}
use Rattle.bit.specs.declared.Bit.{Bit}
use Rattle.bit.specs.declared.Bit.TheVariants.{Zero, One}

-- cut to n places, or extended to them with z
abbrev pub fit {ℓ} : {A : Type ℓ} → A → ℕ → List A → List A
fit z zero xs = []
fit z (suc n) [] = z ∷ fit z n []
fit z (suc n) (x ∷ xs) = x ∷ fit z n xs

-- the sign: the highest element, or z where there is none
abbrev pub last_of {ℓ} : {A : Type ℓ} → A → List A → A
last_of z [] = z
last_of z (x ∷ xs) = last_of x xs

-- k places up, with z below
abbrev pub up {ℓ} : {A : Type ℓ} → A → ℕ → List A → List A
up z k xs = replicate k z ++ take (length xs - k) xs

-- k places down, with z above
abbrev pub down {ℓ} : {A : Type ℓ} → A → ℕ → List A → List A
down z k xs = drop k xs ++ replicate k z

-- `IntRotateLeft` by s: input bit (i+s) modulo the width at i
abbrev pub rotate_left {ℓ} : {A : Type ℓ} → ℕ → List A → List A
rotate_left s xs = drop s xs ++ take s xs

-- `IntRotateRight`: the reverse
abbrev pub rotate_right {ℓ} : {A : Type ℓ} → ℕ → List A → List A
rotate_right s xs = rotate_left (length xs - s) xs

-- a truth value of n bits: bit 0, the rest zero
abbrev pub truth : ℕ → Bit → List Bit
truth zero b = []
truth (suc n) b = b ∷ replicate n Zero

-- the lowest bit of a number
abbrev pub digit : ℕ → Bit
digit v = pick (eqb (v % 2) 1) One Zero

-- a number cut to n bits
abbrev pub digits : ℕ → ℕ → List Bit
digits zero v = []
digits (suc n) v = digit v ∷ digits n (v / 2)
