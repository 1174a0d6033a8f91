-- Records: marks and statements.
use Rattle.std.specs.Prelude.{ℕ, List, Option, Some, None, eqb, ltb, pos, length}
use Rattle.pcode.specs.Var.{pick, less_id}
use Rattle.pcode.specs.Names.{bytes_of, eq_bytes, takes_number, op_of}
use Rattle.pcode.specs.Block.{stmt_of}
use Rattle.fields.specs.Parts.{part_of, count_of}
use Rattle.fields.specs.Decimals.{decimal_of, on_value}
use Rattle.record.specs.Names.{code_named}
use Rattle.record.specs.Operands.{id_of, operand_of, output_of}
use Rattle.record.specs.declared.record.Record.{Record}
use Rattle.record.specs.declared.record.Record.TheVariants.{Mark, Statement}

-- what parts fields
abbrev pub tab : ℕ
tab = 9

-- field k of a line, from 0
abbrev pub field_of : List ℕ → ℕ → List ℕ
field_of line k = part_of tab line k

-- a number up to 65,535 just where the operation has one, `-` else
unfoldable pub number_in : ℕ → List ℕ → Option ℕ
number_in code s =
    pick (takes_number code) (on_value (decimal_of 65535 s) None Some)
    (pick (eq_bytes s (bytes_of "-")) (Some 0) None)

-- `temporary`, tab, id from 1 to 32767
unfoldable pub mark_of : List ℕ → Option Record
mark_of line =
    pick (eq_bytes (field_of line 0) (bytes_of "temporary"))
    (on_value (id_of (field_of line 1)) None λ v. pick (less_id (record { 0 = pos 0 }) v) (Some (Mark v)) None)
    None

-- five fields: operation, number or `-`, output, first, second
unfoldable pub statement_of : List ℕ → Option Record
statement_of line =
    pick (ltb (code_named (field_of line 0)) 72)
    (on_value (number_in (code_named (field_of line 0)) (field_of line 1)) None λ n.
    on_value (output_of (field_of line 2)) None λ o.
    on_value (operand_of (field_of line 3)) None λ a.
    on_value (operand_of (field_of line 4)) None λ b.
    Some (Statement (stmt_of (op_of (code_named (field_of line 0)) n) o a b)))
    None

-- at most 200 bytes; one tab in a mark, four in a statement
unfoldable pub record_of : List ℕ → Option Record
record_of line =
    pick (ltb 200 (length line)) None
    (pick (eqb (count_of tab line) 1) (mark_of line)
    (pick (eqb (count_of tab line) 4) (statement_of line) None))
