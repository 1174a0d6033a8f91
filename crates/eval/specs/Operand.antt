-- Where an operand's bits stand: in the store of variables, 128 bits to a row, or in the row of constants.
use Rattle.std.specs.Prelude.{ℕ, ◌+◌, ◌*◌, List, [], take, drop}
use Rattle.eval.specs.declared.operand.Slot.{Slot}
use Rattle.eval.specs.declared.operand.Slot.TheVariants.{None, Const, Var}

-- a part of the variable store or of the constant row; none for no operand
abbrev pub bits_of : List ℕ → List ℕ → Slot → List ℕ
bits_of vars consts None = []
bits_of vars consts (Const n) = take (8 * n) consts
bits_of vars consts (Var r o n) = take (8 * n) (drop (128 * r + 8 * o) vars)
