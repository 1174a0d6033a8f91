-- Ids, parts of variables, operands and outputs.
use Rattle.std.specs.Prelude.{ℕ, ◌*◌, ◌%◌, ◌^◌, Bool, true, false, Option, eqb, pos, negsuc, ◌-ℤ◌}
use Rattle.std.specs.Ordering.{int_eq}
use Rattle.std.specs.Int.Signed.{lt_z}
use Rattle.pcode.specs.declared.var.VarId.{VarId}
use Rattle.pcode.specs.declared.var.PcodeLabel.{PcodeLabel}
use Rattle.pcode.specs.declared.var.Operand.{Operand}
use Rattle.pcode.specs.declared.var.Operand.TheVariants.{None, Const, Var}
use Rattle.pcode.specs.declared.var.VarNode.{VarNode}
use Rattle.std.specs.declared.option.Option.TheVariants as Out

-- one of two values, by a test
abbrev pub pick {ℓ} : {A : Type ℓ} → Bool → A → A → A
pick true x y = x
pick false x y = y

-- id 0 names no variable
abbrev pub zero_id : VarId → Bool
zero_id a = int_eq a.0 (pos 0)

-- two ids are the same
abbrev pub same_id : VarId → VarId → Bool
same_id a b = int_eq a.0 b.0

-- ids in order
abbrev pub less_id : VarId → VarId → Bool
less_id a b = lt_z a.0 b.0

-- the lesser of two ids
abbrev pub least_id : VarId → VarId → VarId
least_id a b = pick (less_id b a) b a

-- one below an id; -32768 has none below it
abbrev pub below_id : VarId → VarId
below_id a = pick (int_eq a.0 (negsuc 32767)) a (record { 0 = a.0 -ℤ pos 1 })

-- two label numbers are the same
abbrev pub same_label : PcodeLabel → PcodeLabel → Bool
same_label a b = eqb a.0 b.0

-- a value cut to its size in bytes
abbrev pub cut : ℕ → ℕ → ℕ
cut v n = v % 2 ^ (8 * n)

-- how many bytes an operand names
abbrev pub size_of : Operand → ℕ
size_of None = 0
size_of (Const v n) = n
size_of (Var v) = v.size

-- a part of a variable, or nothing
abbrev pub Output : Type 0
Output = Option VarNode

-- how many bytes an output names
abbrev pub size_out : Output → ℕ
size_out Out.None = 0
size_out (Out.Some v) = v.size

-- an output's part of a variable as an operand
abbrev pub as_operand : Output → Operand
as_operand Out.None = None
as_operand (Out.Some v) = Var v
