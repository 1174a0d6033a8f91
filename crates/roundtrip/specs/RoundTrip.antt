-- Printing and reading undo each other. 01's text form has "decimal, no leading zeros, no `-0`", five fields and an LF: so a statement has
-- one line and a line one statement.
use Rattle.std.specs.Prelude.{ℕ, ◌≤◌, ◌≡◌, List, [], ◌∷◌, ◌++◌, Result, Ok, length}
use Rattle.pcode.specs.Block.{held, mark_ids}
use Rattle.pcode.specs.declared.var.VarId.{VarId}
use Rattle.pcode.specs.declared.block.Stmt.{Stmt}
use Rattle.pcode.specs.declared.block.Block.{Block}
use Rattle.pcode.specs.declared.block.Limits.{Limits}
use Rattle.text.specs.Reading.{newline, read_of}
use Rattle.pcode.specs.declared.refusal.Refusal.{Refusal}
use Rattle.text.specs.declared.answer.Read.{Read}
use Rattle.checks.specs.Checks.{check_of}
use Rattle.print.specs.Printing.{printed}
use Rattle.roundtrip.specs.Fits.{FitsAll, FitMarks}
use Rattle.roundtrip.specs.Files.{ended, marks_text}

-- what was read: nothing is refused, these statements, these ids marked
pub record Reads (x : Result Read Refusal) (ss : List Stmt) (ids : List VarId) : Type 0 where
  pub read : Read
  pub answer : x ≡ Ok read
  pub stmts : held read.block ≡ ss
  pub marks : mark_ids read.marks ≡ ids

-- a block that passes the checks, printed, is read as it was, without marks
abbrev pub PrintRead : Type 0
PrintRead =
    (limits : Limits) (b : Block) → check_of limits b ≡ Ok tt → FitsAll (held b) → Reads (read_of limits.stmts (printed (held b))) (held b) []

-- the same below up to 16 marks
abbrev pub PrintReadMarked : Type 0
PrintReadMarked =
    (limits : Limits) (b : Block) (ids : List VarId) → check_of limits b ≡ Ok tt → FitsAll (held b) → FitMarks ids → length ids ≤ 16
    → Reads (read_of limits.stmts (marks_text ids ++ printed (held b))) (held b) ids

-- a file that is read is the text of its marks and its block's print; 01: "A blank line is bad; a missing last LF is not."
abbrev pub ReadPrint : Type 0
ReadPrint = (limit : ℕ) (bytes : List ℕ) (r : Read) → read_of limit bytes ≡ Ok r → marks_text (mark_ids r.marks) ++ printed (held r.block) ≡ ended bytes

-- a file without marks that ends with an LF is its block's print
abbrev pub ReadPrintWhole : Type 0
ReadPrintWhole =
    (limit : ℕ) (s : List ℕ) (r : Read) → read_of limit (s ++ newline ∷ []) ≡ Ok r → mark_ids r.marks ≡ [] → printed (held r.block) ≡ s ++ newline ∷ []

-- 01: "An empty file prints nothing."
abbrev pub EmptyFile : Type 0
EmptyFile = (limit : ℕ) → (r : Read) × (read_of limit [] ≡ Ok r) × (printed (held r.block) ≡ [])

-- the constants, ids, numbers and marks of a file that is read fit their types
abbrev pub ReadFits : Type 0
ReadFits = (limit : ℕ) (bytes : List ℕ) (r : Read) → read_of limit bytes ≡ Ok r → FitsAll (held r.block) × FitMarks (mark_ids r.marks)

-- a block that was read and passes the checks, printed, is read again as it was
abbrev pub Reread : Type 0
Reread =
    (limits : Limits) (bytes : List ℕ) (r : Read) → read_of limits.stmts bytes ≡ Ok r → check_of limits r.block ≡ Ok tt
    → Reads (read_of limits.stmts (printed (held r.block))) (held r.block) []
