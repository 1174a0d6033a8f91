-- What a printing function promises is what is answered, where the page has room.
use Rattle.std.proofs.Common.{Option, Some, Ok, Err, unwrap_or, ℕ, ◌*◌, ◌≤◌, arith, ◌≡◌, sym, ap, subst, ◌∙◌, List, [], ◌∷◌, ◌++◌, le-ltb, length, take, length-append}
use lib.Seq.{take-append_seam}
use Rattle.pcode.specs.Block.{held}
use Rattle.pcode.specs.Refusals.{refusal_number, refusal_place}
use Rattle.pcode.specs.declared.block.Stmt.{Stmt}
use Rattle.pcode.specs.declared.block.Block.{Block}
use Rattle.pcode.specs.declared.block.Limits.{Limits}
use Rattle.pcode.specs.declared.refusal.Refusal.{Refusal}
use Rattle.text.specs.Reading.{read_of}
use Rattle.text.specs.declared.answer.Read.{Read}
use Rattle.text.proofs.Counts.{roomed}
use Rattle.checks.specs.Checks.{check_of}
use Rattle.print.specs.Rooms.{record_room, refusal_room}
use Rattle.print.specs.Texts.{written, digits_text}
use Rattle.print.specs.Printing.{record_text, printed, refusal_text, after_print, Print}
use Rattle.print.proofs.Writes.{written_length}
use Rattle.roundtrip.proofs.Digits.{length_digits}
use Rattle.roundtrip.proofs.Records.{record_length}
use Rattle.roundtrip.proofs.Sizes.{checked_count}
use Rattle.text_replay.specs.Answers.{checked_text, answer_text, page_room, Answered}

-- a text's length within its room
printed_length : (ss : List Stmt) → length (printed ss) ≤ record_room * length ss
unfolding printed
printed_length [] = omega arith
printed_length (s ∷ ss) = omega (arith, length-append (record_text s) (printed ss), record_length s, printed_length ss)

refusal_length : (why : Refusal) → length (refusal_text why) ≤ refusal_room
unfolding refusal_text
refusal_length why =
    let x = digits_text 2 (refusal_number why) in
    let y = digits_text 20 (refusal_place why) in
    omega
    (arith, length-append x (9 ∷ (y ++ 10 ∷ [])), length-append y (10 ∷ []), length_digits 2 (refusal_number why), length_digits 20 (refusal_place why))

module _ {room : ℕ} {text old new : List ℕ} {p : Option ℕ} {r : ℕ} (w : Print room text old new p) (e : r ≡ unwrap_or p 0) (h : room ≤ length old) (g : length text ≤ room) where
  wrote : p ≡ Some (length text)
  wrote = w.answer ∙ rw (le-ltb (length old) room h)

  bytes : new ≡ written old 0 text
  bytes = w.memory ∙ ap (λ (q : Option ℕ). after_print q text old) wrote

  print_answered : Answered text old new r
  print_answered =
      record {
        count = e ∙ ap (λ (q : Option ℕ). unwrap_or q 0) wrote;
        bytes = bytes;
        kept = ap length bytes ∙ written_length old 0 text (omega arith);
        fits = omega arith;
      }

-- a block that passes the checks has room on a page
pub block_answered : (limits : Limits) (b : Block) {old new : List ℕ} {p : Option ℕ} {r : ℕ} → Print (record_room * length (held b)) (printed (held b)) old new p → r ≡ unwrap_or p 0 →
    page_room ≤ length old → check_of limits b ≡ Ok tt → Answered (printed (held b)) old new r
block_answered limits b w e h c = print_answered w e (omega (arith, checked_count limits b c, roomed limits.stmts)) (printed_length (held b))

pub refusal_answered : (why : Refusal) {old new : List ℕ} {p : Option ℕ} {r : ℕ} → Print refusal_room (refusal_text why) old new p → r ≡ unwrap_or p 0 → page_room ≤ length old →
    Answered (refusal_text why) old new r
refusal_answered why w e h = print_answered w e (omega arith) (refusal_length why)

-- what stands at the start of the page
pub page_start : {text old new : List ℕ} {r : ℕ} → Answered text old new r → take r new ≡ text
unfolding written
page_start {text} {old} {new} w = ap (λ (n : ℕ). take n new) w.count ∙ ap (take (length text)) w.bytes ∙ take-append_seam text _

-- a text that is another
pub told : {text other old new : List ℕ} {r : ℕ} → text ≡ other → Answered other old new r → Answered text old new r
told {old = old} {new = new} {r = r} e w = subst (λ (t : List ℕ). Answered t old new r) (sym e) w

module _ (limits : Limits) (b : Block) where
  pub checked_ok : check_of limits b ≡ Ok tt → checked_text limits b ≡ printed (held b)
  unfolding checked_text
  checked_ok e = rw e

  pub checked_refused : (why : Refusal) → check_of limits b ≡ Err why → checked_text limits b ≡ refusal_text why
  unfolding checked_text
  checked_refused why e = rw e

module _ (limits : Limits) (bytes : List ℕ) where
  pub read_ok : (r : Read) → read_of limits.stmts bytes ≡ Ok r → answer_text limits bytes ≡ checked_text limits r.block
  unfolding answer_text
  read_ok r e = rw e

  pub read_refused : (why : Refusal) → read_of limits.stmts bytes ≡ Err why → answer_text limits bytes ≡ refusal_text why
  unfolding answer_text
  read_refused why e = rw e
