-- Bytes as numbers, lowest first, and parts of the state's rows.
use Rattle.std.specs.Prelude.{ℕ, zero, suc, ◌+◌, ◌*◌, ◌/◌, ◌%◌, List, [], ◌∷◌, get_or, set, take, drop}
use Rattle.std.proofs.Math.Seq.{paste}

-- the number that bytes stand for, lowest first
unfoldable pub num_of : List ℕ → ℕ
num_of [] = 0
num_of (b ∷ bs) = b + 256 * num_of bs

-- the lowest n bytes of a number, lowest first
unfoldable pub bytes_of : ℕ → ℕ → List ℕ
bytes_of zero v = []
bytes_of (suc n) v = v % 256 ∷ bytes_of n (v / 256)

-- the number in `size` bytes from `offset` on of a row
unfoldable pub read_of : List (List ℕ) → ℕ → ℕ → ℕ → ℕ
read_of state row offset size = num_of (take size (drop offset (get_or state row [])))

-- the state with those bytes replaced by a number's lowest
unfoldable pub write_of : List (List ℕ) → ℕ → ℕ → ℕ → ℕ → List (List ℕ)
write_of state row offset size v = set state row (paste (get_or state row []) offset (bytes_of 16 v) size)
