-- How many bytes each part of a line may take, its tab or LF included where it is said.
use Rattle.std.specs.Prelude.{ℕ, ◌+◌, ◌*◌}

-- the longest name
abbrev pub name_room : ℕ
name_room = 21

-- 65,535
abbrev pub number_room : ℕ
number_room = 5

-- a sign and 32,768
abbrev pub id_room : ℕ
id_room = 6

-- an offset or a size: 255
abbrev pub byte_room : ℕ
byte_room = 3

-- a value below 2^64, or a place
abbrev pub value_room : ℕ
value_room = 20

-- `c`, value, `:`, size
abbrev pub const_room : ℕ
const_room = 1 + value_room + 1 + byte_room

-- `v`, id, `:`, offset, `:`, size
abbrev pub var_room : ℕ
var_room = 1 + id_room + 1 + byte_room + 1 + byte_room

-- the longer of the two
abbrev pub operand_room : ℕ
operand_room = const_room

-- name and number, each with its tab
abbrev pub op_room : ℕ
op_room = name_room + 1 + (number_room + 1)

-- output, first and second, each with its tab or LF
abbrev pub operands_room : ℕ
operands_room = 3 * (operand_room + 1)

-- five fields
abbrev pub record_room : ℕ
record_room = op_room + operands_room

-- the largest result: 129 records
abbrev pub block_room : ℕ
block_room = record_room * 129

-- `refused`, tab, number, tab, place, LF
abbrev pub refusal_room : ℕ
refusal_room = 7 + 1 + 2 + 1 + value_room + 1
