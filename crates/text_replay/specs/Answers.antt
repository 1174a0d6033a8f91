-- What is answered to an input: its block, printed, or its refusal.
use Rattle.std.specs.Prelude.{ℕ, ◌*◌, ◌≤◌, ◌≡◌, List, Result, Ok, Err, length}
use Rattle.pcode.specs.Block.{held}
use Rattle.pcode.specs.declared.block.Block.{Block}
use Rattle.pcode.specs.declared.block.Limits.{Limits}
use Rattle.pcode.specs.declared.refusal.Refusal.{Refusal}
use Rattle.text.specs.Reading.{read_of}
use Rattle.checks.specs.Checks.{check_of}
use Rattle.print.specs.Rooms.{record_room}
use Rattle.print.specs.Texts.{written}
use Rattle.print.specs.Printing.{printed, refusal_text}

-- a text of what came about, the refusal's line else
abbrev pub unless_refused : {A : Type 0} → Result A Refusal → (A → List ℕ) → List ℕ
unless_refused (Ok x) text = text x
unless_refused (Err why) text = refusal_text why

-- a block checked and printed
unfoldable pub checked_text : Limits → Block → List ℕ
checked_text limits b = unless_refused (check_of limits b) (λ u. printed (held b))

-- a file read, checked and printed
unfoldable pub answer_text : Limits → List ℕ → List ℕ
answer_text limits bytes = unless_refused (read_of limits.stmts bytes) (λ r. checked_text limits r.block)

-- the room of the largest block's text
abbrev pub page_room : ℕ
page_room = record_room * 129

-- a text is at the start of a page, which has room for it; its length is answered
pub record Answered (text old new : List ℕ) (r : ℕ) : Type 0 where
  pub count : r ≡ length text
  pub bytes : new ≡ written old 0 text
  pub kept : length new ≡ length old
  pub fits : length text ≤ length old
