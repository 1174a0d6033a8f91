-- The parts of a list of bytes between separators.
use Rattle.std.specs.Prelude.{ℕ, zero, suc, ◌+◌, List, [], ◌∷◌, eqb, ltb, length, take, drop}
use Rattle.pcode.specs.Var.{pick}

-- the place of the first b, or the length where there is none
unfoldable pub place_of : ℕ → List ℕ → ℕ
place_of b [] = zero
place_of b (x ∷ s) = pick (eqb x b) zero (suc (place_of b s))

-- where what follows the first b starts, or the length where there is none
abbrev pub start_of : ℕ → List ℕ → ℕ
start_of b s = pick (ltb (place_of b s) (length s)) (place_of b s + 1) (length s)

-- what stands before the first b
abbrev pub head_of : ℕ → List ℕ → List ℕ
head_of b s = take (place_of b s) s

-- what stands after the first b
abbrev pub tail_of : ℕ → List ℕ → List ℕ
tail_of b s = drop (suc (place_of b s)) s

-- what stands after the k-th b
unfoldable pub rest_of : ℕ → List ℕ → ℕ → List ℕ
rest_of b s zero = s
rest_of b s (suc k) = tail_of b (rest_of b s k)

-- part k, from 0; empty where there are fewer
abbrev pub part_of : ℕ → List ℕ → ℕ → List ℕ
part_of b s k = head_of b (rest_of b s k)

-- how many bytes are b
unfoldable pub count_of : ℕ → List ℕ → ℕ
count_of b [] = zero
count_of b (x ∷ s) = pick (eqb x b) (suc (count_of b s)) (count_of b s)
