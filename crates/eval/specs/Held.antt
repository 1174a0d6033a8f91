-- How a list holds bits: as the bits themselves, or as their codes. What an operation gives is one definition over both.
use Rattle.std.specs.Prelude.{ℕ, List, map, replicate, slice_index_or}
use Rattle.bit.specs.Bits.{code_of, bit_of}
use Rattle.bit.specs.declared.Bit.{Bit}
use Rattle.bit.specs.declared.Bit.TheVariants.{Zero, Unknown}
use Rattle.bit_vec.specs.Moves.{truth}

-- one way of holding bits: how one is read and written
pub record Held (A : Type 0) : Type 0 where
  pub read : A → Bit
  pub write : Bit → A

-- by codes
abbrev pub coded : Held ℕ
coded = record { read = bit_of; write = code_of }

-- by themselves
abbrev pub plain : Held Bit
plain = record { read = λ b. b; write = λ b. b }

-- the bits that a list holds
abbrev pub read_all : {A : Type 0} → Held A → List A → List Bit
read_all h = map h.read

-- a list that holds bits
abbrev pub write_all : {A : Type 0} → Held A → List Bit → List A
write_all h = map h.write

-- zero, as it is held
abbrev pub zero_of : {A : Type 0} → Held A → A
zero_of h = h.write Zero

-- unknown, as it is held
abbrev pub unknown_of : {A : Type 0} → Held A → A
unknown_of h = h.write Unknown

-- n bits, all unknown
abbrev pub all_unknown : {A : Type 0} → Held A → ℕ → List A
all_unknown h n = replicate n (unknown_of h)

-- boolean operations use bit 0 of each operand
abbrev pub lowest_of : {A : Type 0} → Held A → List A → Bit
lowest_of h xs = h.read (slice_index_or xs 0 (zero_of h))

-- bit 0, the rest zero
abbrev pub truth_of : {A : Type 0} → Held A → Bit → ℕ → List A
truth_of h b n = write_all h (truth n b)
