-- An operation's code by its name.
use Rattle.std.specs.Prelude.{ℕ, zero, suc, List, [], ◌∷◌, Option, Some, None, ltb, map}
use Rattle.pcode.specs.Var.{pick}
use Rattle.pcode.specs.Names.{bytes_of, names, eq_bytes}

-- the place of a name in a list, or the list's length
unfoldable pub first_named : List (List ℕ) → List ℕ → ℕ
first_named [] s = zero
first_named (n ∷ ns) s = pick (eq_bytes n s) zero (suc (first_named ns s))

-- the code of the operation with that name; 72 where none has it
unfoldable pub code_named : List ℕ → ℕ
code_named s = first_named (map bytes_of names) s

-- that code, where an operation has the name
unfoldable pub code_read : List ℕ → Option ℕ
code_read s = pick (ltb (code_named s) 72) (Some (code_named s)) None
