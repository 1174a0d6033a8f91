-- What the checks leave to the types: constants, ids and numbers fit the types that hold them.
use Rattle.std.specs.Prelude.{◌<◌, ◌^◌, List, [], ◌∷◌, Option, None, Some, ℕ, ℤ, pos, negsuc}
use Rattle.pcode.specs.Var.{as_operand}
use Rattle.pcode.specs.Names.{number_of}
use Rattle.pcode.specs.declared.var.VarId.{VarId}
use Rattle.pcode.specs.declared.var.Operand.{Operand}
use Rattle.pcode.specs.declared.block.Stmt.{Stmt}

-- an id fits 16 bits, signed
abbrev pub FitsId : ℤ → Type 0
FitsId (pos n) = n < 32768
FitsId (negsuc n) = n < 32768

-- a constant is below 2^64
abbrev pub FitsOperand : Operand → Type 0
FitsOperand Operand.None = Unit {0}
FitsOperand (Operand.Const v n) = v < 2 ^ 64
FitsOperand (Operand.Var v) = FitsId v.id.0

-- an operation's number is at most 65,535
abbrev pub FitsNumber : Option ℕ → Type 0
FitsNumber None = Unit {0}
FitsNumber (Some n) = n < 65536

-- a statement whose values fit their types
pub record Fits (s : Stmt) : Type 0 where
  pub number : FitsNumber (number_of s.op)
  pub output : FitsOperand (as_operand s.output)
  pub first : FitsOperand s.first
  pub second : FitsOperand s.second

-- the same of each
abbrev pub FitsAll : List Stmt → Type 0
FitsAll [] = Unit {0}
FitsAll (s ∷ ss) = Fits s × FitsAll ss

-- a mark's id is from 1 to 32767
abbrev pub FitsMark : ℤ → Type 0
FitsMark (pos n) = (0 < n) × (n < 32768)
FitsMark (negsuc n) = ⊥

-- marks that fit
abbrev pub FitMarks : List VarId → Type 0
FitMarks [] = Unit {0}
FitMarks (v ∷ vs) = FitsMark v.0 × FitMarks vs
