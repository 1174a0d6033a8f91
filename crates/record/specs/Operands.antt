-- Ids, operands and outputs in the text form.
use Rattle.std.specs.Prelude.{ℕ, ◌-◌, ◌^◌, List, Option, Some, None, eqb, pos, negsuc, length, get_or, drop}
use Rattle.pcode.specs.Var.{pick}
use Rattle.pcode.specs.declared.var.Operand.{Operand}
use Rattle.pcode.specs.Var.{Output}
use Rattle.std.specs.declared.option.Option.TheVariants as Out
use Rattle.pcode.specs.declared.var.VarId.{VarId}
use Rattle.pcode.specs.declared.var.VarNode.{VarNode}
use Rattle.fields.specs.Parts.{part_of, count_of}
use Rattle.fields.specs.Decimals.{decimal_of, on_value}

-- the bytes `-`, `:`, `c`, `v`
abbrev pub dash : ℕ
dash = 45

-- what parts an id, an offset and a size
abbrev pub colon : ℕ
colon = 58

-- a constant begins with it
abbrev pub letter_c : ℕ
letter_c = 99

-- a part of a variable begins with it
abbrev pub letter_v : ℕ
letter_v = 118

-- a decimal, or after `-` one from 1 on; ids fit 16 bits, no `-0`
unfoldable pub id_of : List ℕ → Option VarId
id_of s =
    pick (eqb (length s) 0) None
    (pick (eqb (get_or s 0 0) dash)
    (on_value (decimal_of 32768 (drop 1 s)) None (λ v. pick (eqb v 0) None (Some (record { 0 = negsuc (v - 1) }))))
    (on_value (decimal_of 32767 s) None (λ v. Some (record { 0 = pos v }))))

-- id, offset, size; offsets and sizes 0 to 255
unfoldable pub var_of : List ℕ → Option VarNode
var_of s =
    pick (eqb (count_of colon s) 2)
    (on_value (id_of (part_of colon s 0)) None λ v.
    on_value (decimal_of 255 (part_of colon s 1)) None λ o.
    on_value (decimal_of 255 (part_of colon s 2)) None λ n.
    Some (record { id = v; offset = o; size = n }))
    None

-- value below 2^64, size
unfoldable pub const_of : List ℕ → Option Operand
const_of s =
    pick (eqb (count_of colon s) 1)
    (on_value (decimal_of (2 ^ 64 - 1) (part_of colon s 0)) None λ v.
    on_value (decimal_of 255 (part_of colon s 1)) None λ n.
    Some (Operand.Const v n))
    None

-- a part of a variable, as an operand
abbrev pub as_var : Option VarNode → Option Operand
as_var None = None
as_var (Some v) = Some (Operand.Var v)

-- `-`, `v-1:0:2` or `c32767:2`
unfoldable pub operand_of : List ℕ → Option Operand
operand_of s =
    pick (eqb (length s) 0) None
    (pick (eqb (get_or s 0 0) letter_v) (as_var (var_of (drop 1 s)))
    (pick (eqb (get_or s 0 0) letter_c) (const_of (drop 1 s))
    (pick (eqb (get_or s 0 0) dash) (pick (eqb (length s) 1) (Some Operand.None) None) None)))

-- an output is `-` or a variable
abbrev pub as_output : Option Operand → Option Output
as_output None = None
as_output (Some Operand.None) = Some Out.None
as_output (Some (Operand.Const v n)) = None
as_output (Some (Operand.Var v)) = Some (Out.Some v)

-- an output is `-` or a part of a variable
abbrev pub output_of : List ℕ → Option Output
output_of s = as_output (operand_of s)
