-- Every start of bytes has rows that hold it, for every table of at most 112 variables.
use Prim.Native.Nat.{ℕ, zero, suc, ◌+◌, ◌<◌, ◌≤◌}
use native.Mathlib.Omega.{arith}
use mathlib.Core.Path.{◌≡◌, refl, sym, ap, ◌∙◌, subst}
use mathlib.Core.List.{List, [], ◌∷◌, ◌++◌, map}
use lib.Dec.{ltb, lit<}
use lib.ListN.{length, get_or, replicate, length-append, length-take, length-replicate, get_or-replicate, get_or-eq_default}
use lib.Seq.{get_or-take}
use borrow.Author.Tests.{ltb-true, ltb-false}
use Rattle.pcode.specs.Block.{held}
use Rattle.pcode.specs.declared.var.VarId.{VarId}
use Rattle.pcode.specs.declared.block.Block.{Block}
use Rattle.vars.specs.Vars.{row_of, vars_of}
use Rattle.vars.proofs.Rows.{ways, row_below, row_at}
use Rattle.run.specs.Run.{Shape}
use Rattle.alike.specs.ById.{Start, StartsAs}
use Rattle.treated_alike.specs.Demand.{Holds, OfBytes, bytes_from, rows_of}

-- n bytes
from_length : (f : ℕ → ℕ) (k n : ℕ) → length (bytes_from f k n) ≡ n
unfolding bytes_from
from_length f k zero = refl
from_length f k (suc n) = ap suc (from_length f (suc k) n)

from_at : (f : ℕ → ℕ) (k n i j : ℕ) → i < n → k + i ≡ j → get_or (bytes_from f k n) i 0 ≡ f j
unfolding bytes_from
from_at f k zero i j h e = absurd (omega arith)
from_at f k (suc n) zero j h e = ap f (let g : k ≡ j = omega arith in g)
from_at f k (suc n) (suc i) j h e = from_at f (suc k) n i j (omega arith) (omega arith)

-- what holds of each variable's row and of zeros holds of every row
module _ (f : VarId → List ℕ) (z : List ℕ) (P : List ℕ → Type 0) (own : (id : VarId) → P (f id)) (none : P z) where
  each : (ids : List VarId) (r : ℕ) → r < length ids + 112 → P (get_or (map f ids ++ replicate 112 z) r [])
  each [] r h = subst P (sym (get_or-replicate 112 r z [] (omega arith))) none
  each (id ∷ ids) zero h = own id
  each (id ∷ ids) (suc r) h = each ids r (omega arith)

module _ (start : Start) (b : OfBytes start) (ids : List VarId) where
  abbrev row : VarId → List ℕ
  row id = bytes_from (start id) 0 16

  abbrev zeros : List ℕ
  zeros = replicate 16 0

  in_rows : (P : List ℕ → Type 0) → ((id : VarId) → P (row id)) → P zeros → (r : ℕ) → r < 112 → P (get_or (rows_of ids start) r [])
  unfolding rows_of
  in_rows P own none r h = rw (get_or-take 112 (map row ids ++ replicate 112 zeros) r [] h) (each row zeros P own none ids r (omega arith))

  count : length (rows_of ids start) ≡ 112
  unfolding rows_of
  count = simp (length-take, length-append, length-replicate) (omega arith)

  small : (id : VarId) (k : ℕ) → get_or (row id) k 0 < 256
  small id k =
      ways (ltb k 16) (λ t. rw (from_at (start id) 0 16 k k (ltb-true k 16 t) (omega arith)) (b id k))
      (λ t. rw (get_or-eq_default (row id) 0 {n = k} (let h = ltb-false k 16 t in omega (arith, from_length (start id) 0 16))) (lit< tt))

  small_zeros : (k : ℕ) → get_or zeros k 0 < 256
  small_zeros k =
      ways (ltb k 16) (λ t. rw (get_or-replicate {A = ℕ} 16 k 0 0 (ltb-true k 16 t)) (lit< tt))
      (λ t. rw (get_or-eq_default zeros 0 {n = k} (let h = ltb-false k 16 t in omega (arith, length-replicate {A = ℕ} 16 0))) (lit< tt))

  shape : Shape (rows_of ids start)
  shape =
      record {
        count = count;
        sized = λ r h. in_rows (λ (l : List ℕ). length l ≡ 16) (λ id. from_length (start id) 0 16) (length-replicate {A = ℕ} 16 0) r h;
        bytes = λ r k. ways (ltb r 112)
            (λ t. in_rows (λ (l : List ℕ). (k : ℕ) → get_or l k 0 < 256) small small_zeros r (ltb-true r 112 t) k)
            (λ t. rw (get_or-eq_default (rows_of ids start) [] {n = r} (let h = ltb-false r 112 t in omega (arith, count))) (lit< tt));
      }

  same : length ids ≤ 112 → StartsAs ids (rows_of ids start) start
  unfolding rows_of
  same m id h k l =
      let r = row_below ids id h in
      ap (λ (x : List ℕ). get_or x k 0) (get_or-take 112 (map row ids ++ replicate 112 zeros) (row_of ids id) [] (omega arith) ∙ own ids id (row_of ids id) r (row_at ids id id h))
      ∙ from_at (start id) 0 16 k k l (omega arith)
    where
      own : (ids : List VarId) (id : VarId) (r : ℕ) → r < length ids → get_or ids r id ≡ id → get_or (map row ids ++ replicate 112 zeros) r [] ≡ row id
      own [] id r h e = absurd (omega arith)
      own (x ∷ ids) id zero h e = ap row e
      own (x ∷ ids) id (suc r) h e = own ids id r (omega arith) e

-- the rows of a start hold it
pub rows_hold : (start : Start) → OfBytes start → (b : Block) → length (vars_of (held b)) ≤ 112 → Holds b start (rows_of (vars_of (held b)) start)
rows_hold start s b m = record { shape = shape start s (vars_of (held b)); same = same start s (vars_of (held b)) m }
