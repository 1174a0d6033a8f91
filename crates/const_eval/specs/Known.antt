-- The bits known of each variable: a store of 128 codes a row.
use Rattle.std.specs.Prelude.{ℕ, zero, suc, ◌+◌, ◌*◌, ◌≤◌, ◌<◌, Bool, List, [], ◌∷◌, ◌++◌, nat_eq, length, take, drop}
use Rattle.std.specs.Cmp.Lexicographic.{pointwise}
use Rattle.const_eval.specs.declared.place.Place.{Place}

-- where a part's codes begin in the store
abbrev pub start_of : Place → ℕ
start_of p = 128 * p.row + 8 * p.offset

-- a part's codes
abbrev pub part_of : Place → List ℕ → List ℕ
part_of p store = take (8 * p.size) (drop (start_of p) store)

-- a list with new elements from a place on
abbrev pub splice : ℕ → List ℕ → List ℕ → List ℕ
splice at new xs = take at xs ++ (new ++ drop (at + length new) xs)

-- two values are the same, bit by bit
abbrev pub same_codes : List ℕ → List ℕ → Bool
same_codes = pointwise nat_eq

-- new expressions (id, i), (id, i + 1), ..
abbrev pub fresh_from : ℕ → ℕ → ℕ → List ℕ
fresh_from id i zero = []
fresh_from id i (suc n) = (4 + 512 * id + 2 * i) ∷ fresh_from id (suc i) n

-- a first use of a variable makes 128 new expressions
unfoldable pub fresh_row : ℕ → List ℕ
fresh_row id = fresh_from id 0 128

-- a part lies in a store of that many rows
pub record Fit (rows : ℕ) (p : Place) : Type 0 where
  pub row_in : p.row < rows
  pub inside : p.offset + p.size ≤ 16

-- a part lies in a row of a store of that many codes
pub record Within (codes : ℕ) (p : Place) : Type 0 where
  pub row_in : 128 * p.row + 128 ≤ codes
  pub inside : p.offset + p.size ≤ 16
