-- What any bytes are answered with: a treated block's text, or one refusal's line.
use Rattle.std.specs.Prelude.{ℕ, ◌*◌, List, length, Result, Ok, Err}
use Rattle.pcode.specs.Block.{held, empty_block}
use Rattle.pcode.specs.declared.block.Block.{Block}
use Rattle.pcode.specs.declared.block.Marks.{Marks}
use Rattle.pcode.specs.declared.refusal.Refusal.{Refusal}
use Rattle.text.specs.Reading.{read_room, read_of}
use Rattle.text.specs.declared.answer.Read.{Read}
use Rattle.print.specs.Rooms.{record_room, refusal_room}
use Rattle.print.specs.Printing.{printed, refusal_text}
use Rattle.optimizer.specs.First.{first_of}
use Rattle.optimizer.specs.Second.{second_of}
use Rattle.optimizer.specs.Both.{both_of}
use Rattle.front.specs.declared.Refused.{Refused}
use Rattle.front.specs.declared.Pass.{Pass}
use Rattle.front.specs.declared.Pass.TheVariants.{First, Second, Both}

-- how many statements are read: 64, for the second pass alone 129
abbrev pub limit_of : Pass → ℕ
limit_of First = 64
limit_of Second = 129
limit_of Both = 64

-- how many bytes of a file decide its answer
abbrev pub input_room : Pass → ℕ
input_room p = read_room (limit_of p)

-- the passes that are asked for
abbrev pub treat_of : Pass → Block → Marks → Result Block Refusal
treat_of First b m = first_of b m
treat_of Second b m = second_of b m
treat_of Both b m = both_of b m

-- a pass's refusal goes with the block that was read
abbrev pub with_block : Block → Result Block Refusal → Result Block Refused
with_block b (Ok t) = Ok t
with_block b (Err why) = Err (record { why = why; block = b })

-- what was read, treated; or the reader's refusal, with the empty block
abbrev pub end_by : Result Read Refusal → Pass → Result Block Refused
end_by (Ok r) p = with_block r.block (treat_of p r.block r.marks)
end_by (Err why) p = Err (record { why = why; block = empty_block })

-- what becomes of a file of bytes
unfoldable pub end_of : Pass → List ℕ → Result Block Refused
end_of p bytes = end_by (read_of (limit_of p) bytes) p

-- a text, and the room that is asked for it
pub record Told : Type 0 where
  pub room : ℕ
  pub text : List ℕ

-- a block's records
abbrev pub told_block : Block → Told
told_block b = record { room = record_room * length (held b); text = printed (held b) }

-- a refusal prints only its line
abbrev pub told_refusal : Refusal → Told
told_refusal why = record { room = refusal_room; text = refusal_text why }

-- a block, or a refusal
abbrev pub told_by : Result Block Refused → Told
told_by (Ok b) = told_block b
told_by (Err r) = told_refusal r.why

-- a file of bytes, answered
abbrev pub answer_of : Pass → List ℕ → Told
answer_of p bytes = told_by (end_of p bytes)
