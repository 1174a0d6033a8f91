-- What the static library answers: a code, a detail, and the buffer afterwards.
use Rattle.std.specs.Prelude.{ℕ, ◌*◌, ◌≡◌, List, Option, Some, None, Result, Ok, Err, eqb, length}
use Rattle.pcode.specs.Var.{pick}
use Rattle.pcode.specs.Block.{held}
use Rattle.pcode.specs.Refusals.{refusal_number, refusal_place}
use Rattle.pcode.specs.declared.block.Block.{Block}
use Rattle.pcode.specs.declared.refusal.Refusal.{Refusal}
use Rattle.text.specs.Reading.{empty_read}
use Rattle.text.specs.declared.answer.Read.{Read}
use Rattle.print.specs.Rooms.{record_room, block_room}
use Rattle.print.specs.Printing.{printed, print_of, after_print}
use Rattle.front.specs.declared.Pass.{Pass}
use Rattle.front.specs.declared.Refused.{Refused}
use Rattle.front.specs.declared.Pass.TheVariants.{First, Second, Both}

-- 0: a treated block's text was written; 255: the buffer has no room for it
abbrev pub code_by : Option ℕ → ℕ
code_by None = 255
code_by (Some n) = 0

-- how many bytes were written; or the room that is enough for every block, 129 records
abbrev pub detail_by : Option ℕ → ℕ
detail_by None = block_room
detail_by (Some n) = n

-- a block's text in a buffer of n bytes
abbrev pub printed_in : Block → ℕ → Option ℕ
printed_in b n = print_of (record_room * length (held b)) (printed (held b)) n

-- a refusal answers with 01's number
abbrev pub code_of : Result Block Refused → ℕ → ℕ
code_of (Ok b) n = code_by (printed_in b n)
code_of (Err r) n = refusal_number r.why

-- and with its place
abbrev pub detail_of : Result Block Refused → ℕ → ℕ
detail_of (Ok b) n = detail_by (printed_in b n)
detail_of (Err r) n = refusal_place r.why

-- a refusal leaves the buffer as it was
abbrev pub after_of : Result Block Refused → List ℕ → List ℕ
after_of (Ok b) old = after_print (printed_in b (length old)) (printed (held b)) old
after_of (Err r) old = old

-- the whole promise: the code, the detail and the buffer
pub record Answers (a : Result Block Refused) (old new : List ℕ) (detail r : ℕ) : Type 0 where
  pub code : r ≡ code_of a (length old)
  pub detail_is : detail ≡ detail_of a (length old)
  pub memory : new ≡ after_of a old

-- the code where the buffer has room: 0, or 01's number of a refusal
abbrev pub code_with_room : Result Block Refused → ℕ
code_with_room (Ok b) = 0
code_with_room (Err r) = refusal_number r.why

-- 1: the first pass; 2: the second; any other number: both
abbrev pub pass_of : ℕ → Pass
pass_of n = pick (eqb n 1) First (pick (eqb n 2) Second Both)

-- what was read; nothing, where reading was refused
abbrev pub read_or_empty : Result Read Refusal → Read
read_or_empty (Ok r) = r
read_or_empty (Err why) = empty_read

-- how many statements a treated block has; a refusal counts those of the block given
abbrev pub count_of : Result Block Refusal → Block → ℕ
count_of (Ok out) b = out.count
count_of (Err why) b = b.count

-- how many statements the last of so many results has; 0 where there is none
abbrev pub repeated_of : ℕ → ℕ → ℕ
repeated_of times count = pick (eqb times 0) 0 count
