-- Each unknown output bit i becomes a new expression with offset i.
use Rattle.std.specs.Prelude.{ℕ, suc, ◌%◌, false, List, [], ◌∷◌}
use Rattle.bit.specs.declared.Bit.{Bit}
use Rattle.bit.specs.declared.Bit.TheVariants.{Zero, One, Unknown, Expr as Sym}
use Rattle.pcode.specs.declared.var.OutputExprId.{OutputExprId}

-- an unknown bit at place i becomes the expression (id, i); an offset has 8 bits, and no output more than 128 places
abbrev pub name_b : OutputExprId → ℕ → Bit → Bit
name_b id i Zero = Zero
name_b id i One = One
name_b id i Unknown = Sym (record { id = id; offset = i % 256; invert = false })
name_b id i (Sym e) = Sym e

-- bit by bit, from offset i
abbrev pub name_from : OutputExprId → ℕ → List Bit → List Bit
name_from id i [] = []
name_from id i (x ∷ xs) = name_b id i x ∷ name_from id (suc i) xs
