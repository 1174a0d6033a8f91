-- Sets of a variable's 16 bytes as numbers: bit k says whether byte k is in.
use Rattle.std.specs.Prelude.{ℕ, zero, suc, ◌+◌, ◌/◌, ◌%◌, ◌^◌, ◌≡◌, Bool, false, not, ◌&&◌, ◌||◌, eqb, leb, ltb}
use Rattle.pcode.specs.Var.{pick}
use Rattle.pcode.specs.declared.var.VarNode.{VarNode}

-- byte k is in the set
unfoldable pub has : ℕ → ℕ → Bool
has set k = eqb (set / 2 ^ k % 2) 1

-- byte k stands from byte o up to byte e
abbrev pub between : ℕ → ℕ → ℕ → Bool
between o e k = leb o k && ltb k e

-- one past the last byte of a part of a variable, which has 16
abbrev pub end_of : VarNode → ℕ
end_of v = pick (ltb (v.offset + v.size) 16) (v.offset + v.size) 16

-- byte k of a variable is among the bytes offset to offset+size
unfoldable pub inside : VarNode → ℕ → Bool
inside v k = between v.offset (end_of v) k

-- the bytes of a set are those that a test says
abbrev pub holds : (ℕ → Bool) → ℕ → Type 0
holds f set = (k : ℕ) → has set k ≡ f k

-- some byte below n
unfoldable pub any_below : ℕ → (ℕ → Bool) → Bool
any_below zero f = false
any_below (suc n) f = f n || any_below n f

-- some byte of a variable's 16
abbrev pub some_byte : (ℕ → Bool) → Bool
some_byte f = any_below 16 f

-- a write of v is live: a byte of it was not written last, where the variable persists, or is read
abbrev pub live_in : Bool → ℕ → ℕ → VarNode → Bool
live_in persists last reads v = some_byte (λ k. inside v k && ((persists && not (has last k)) || has reads k))
