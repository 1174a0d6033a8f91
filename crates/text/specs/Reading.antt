-- Reading a file: a line at a time, up to the first refusal.
use Rattle.std.specs.Prelude.{ℕ, ◌+◌, ◌*◌, List, [], ◌∷◌, Option, Some, None, Result, Ok, Err, eqb, leb, ltb, set}
use Rattle.pcode.specs.Var.{pick}
use Rattle.pcode.specs.Block.{empty_block, no_marks, pushed}
use Rattle.pcode.specs.declared.var.VarId.{VarId}
use Rattle.pcode.specs.declared.block.Stmt.{Stmt}
use Rattle.pcode.specs.declared.block.Block.{Block}
use Rattle.pcode.specs.declared.block.Marks.{Marks}
use Rattle.pcode.specs.declared.refusal.Refusal.{Refusal}
use Rattle.pcode.specs.declared.refusal.Refusal.TheVariants.{BadLine, TooManyStatements}
use Rattle.record.specs.Records.{record_of}
use Rattle.record.specs.declared.record.Record.{Record}
use Rattle.record.specs.declared.record.Record.TheVariants.{Mark, Statement}
use Rattle.text.specs.declared.answer.Read.{Read}

-- what ends a line
abbrev pub newline : ℕ
newline = 10

-- a byte in front of the first line
abbrev pub in_front : ℕ → List (List ℕ) → List (List ℕ)
in_front b [] = (b ∷ []) ∷ []
in_front b (l ∷ ls) = (b ∷ l) ∷ ls

-- the lines of a file, each without its LF; the last may lack one
unfoldable pub lines_of : List ℕ → List (List ℕ)
lines_of [] = []
lines_of (b ∷ s) = pick (eqb b newline) ([] ∷ lines_of s) (in_front b (lines_of s))

-- what was read, as one value
abbrev pub read_with : Block → Marks → Read
read_with b m = record { block = b; marks = m }

-- nothing read yet
unfoldable pub empty_read : Read
empty_read = read_with empty_block no_marks

-- one mark more
abbrev pub with_mark : Marks → VarId → Marks
with_mark m id = record { ids = set m.ids m.count id; count = m.count + 1 }

-- what was read so far, or why reading stops there
abbrev pub read_after : Result (Unit {0}) Refusal → Read → Result Read Refusal
read_after (Ok u) r = Ok r
read_after (Err why) r = Err why

-- up to 16 leading marks; a 17th, or one after a statement, is 1
unfoldable pub accepted_mark : ℕ → Read → VarId → Result Read Refusal
accepted_mark line r id =
    pick (ltb 0 r.block.count) (Err (BadLine line))
    (pick (leb 16 r.marks.count) (Err (BadLine line))
    (Ok (read_with r.block (with_mark r.marks id))))

-- a statement past the limit is 2
unfoldable pub accepted_stmt : ℕ → Read → Stmt → Result Read Refusal
accepted_stmt limit r s =
    pick (leb limit r.block.count) (Err (TooManyStatements r.block.count)) (Ok (read_with (pushed r.block s) r.marks))

-- a line that breaks the text form is 1
abbrev pub accepted : ℕ → ℕ → Read → Option Record → Result Read Refusal
accepted limit line r None = Err (BadLine line)
accepted limit line r (Some (Mark id)) = accepted_mark line r id
accepted limit line r (Some (Statement s)) = accepted_stmt limit r s

-- goes on where nothing was refused
abbrev pub unless_refused : Result Read Refusal → (Read → Result Read Refusal) → Result Read Refusal
unless_refused (Ok r) next = next r
unless_refused (Err why) next = Err why

-- the reader stops at the first bad line or the statement past the limit
unfoldable pub read_lines : ℕ → ℕ → Read → List (List ℕ) → Result Read Refusal
read_lines limit line r [] = Ok r
read_lines limit line r (l ∷ ls) = unless_refused (accepted limit line r (record_of l)) (λ x. read_lines limit (line + 1) x ls)

-- a block holds 129 statements
abbrev pub room_of : ℕ → ℕ
room_of limit = pick (ltb limit 129) limit 129

-- a file of bytes: its block and marks, or its refusal
unfoldable pub read_of : ℕ → List ℕ → Result Read Refusal
read_of limit bytes = read_lines (room_of limit) 1 empty_read (lines_of bytes)

-- at most 200 bytes and an LF
abbrev pub line_room : ℕ
line_room = 201

-- how many bytes decide what is read: 16 marks, the statements up to the limit, and the one past it
abbrev pub read_room : ℕ → ℕ
read_room limit = (16 + (room_of limit + 1)) * line_room
