-- 01's eight cases, as one table.
use Rattle.std.specs.Prelude.{None, ◌≡◌, List, ◌∷◌, ◌++◌, length, replicate}
use Rattle.bit.specs.Bits.{not_b}
use Rattle.bit.specs.declared.Expr.{Expr}
use Rattle.bit.specs.declared.Bit.{Bit}
use Rattle.bit.specs.declared.Bit.TheVariants.{Zero, One, Unknown, Expr as Sym}
use Rattle.bit_vec.specs.Moves.{digits}
use Rattle.bit_vec.specs.Known.{const_of}
use Rattle.pcode.specs.declared.op.Op.{Op}
use Rattle.pcode.specs.declared.op.Op.TheVariants.{Shift, Rotate, Compare, Bool as BoolOf}
use Rattle.pcode.specs.declared.op.ShiftOp.TheVariants.{IntLeft}
use Rattle.pcode.specs.declared.op.RotateOp.TheVariants.{IntRotateLeft}
use Rattle.pcode.specs.declared.op.CompareOp.TheVariants.{IntEqual, IntSignedLess}
use Rattle.pcode.specs.declared.op.BoolOp.TheVariants.{BoolAnd, BoolXor}
use Rattle.eval.specs.Held.{plain}
use Rattle.eval.specs.Eval.{outcome_of, done}

-- eight bits, of which the lowest are given
abbrev pub byte : Bit → Bit → Bit → Bit → List Bit
byte a b c d = a ∷ b ∷ c ∷ d ∷ replicate 4 Zero

-- a byte with one bit above zeros
abbrev pub flag : Bit → List Bit
flag b = byte b Zero Zero Zero

-- an operation on a and b gives the bits of the output
abbrev pub Gives : Op → List Bit → List Bit → List Bit → Type 0
Gives op a b out = outcome_of plain op a b (replicate (length out) Unknown) ≡ done out

-- for every expression e
pub record Cases (e : Expr) : Type 0 where
  -- (1) e and not-e: zero
  pub opposite : Gives (BoolOf BoolAnd) (flag (Sym e)) (flag (not_b (Sym e))) (flag Zero)
  -- (2) unknown xor unknown: unknown
  pub unknowns : Gives (BoolOf BoolXor) (flag Unknown) (flag Unknown) (flag Unknown)
  -- (3) two bytes, 32,768 signed_less_lem 0: one
  pub least_signed : Gives (Compare IntSignedLess) (digits 16 32768) (digits 16 0) (flag One)
  -- (4) one byte (e, zeros) equals 1: e; equals 0: not e
  pub equals_one : Gives (Compare IntEqual) (flag (Sym e)) (digits 8 1) (flag (Sym e))
  pub equals_zero : Gives (Compare IntEqual) (flag (Sym e)) (digits 8 0) (flag (not_b (Sym e)))
  -- (5) one byte shifted left, amount bit 3 known one: zero
  pub shifted_out : Gives (Shift IntLeft) (digits 8 255) (byte (Sym e) (Sym e) (Sym e) One) (digits 8 0)
  -- (6) least amount 2, undecided: low two bits zero, six unknown
  pub shifted_some : Gives (Shift IntLeft) (digits 8 255) (byte (Sym e) One Zero Zero) (replicate 2 Zero ++ replicate 6 Unknown)
  -- (7) nine zero bytes: no known constant
  pub too_wide : const_of (replicate 72 Zero) ≡ None
  -- (8) one byte 1 rotated left by 1 as ported: 128
  pub rotated : Gives (Rotate IntRotateLeft) (digits 8 1) (digits 8 1) (digits 8 128)
