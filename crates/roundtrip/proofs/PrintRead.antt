-- A printed block is read as it was.
use Rattle.std.proofs.Common.{ℕ, ◌+◌, ◌<◌, ◌≤◌, add-one, arith, ◌≡◌, refl, ap, ◌∙◌, List, [], ◌∷◌, ◌++◌, map, append-nil, lt-ltb, le-ltb, pos, length, length-append, length-set, take-suc-set, Result, Ok}
use borrow.Author.Tests.{lt-leb}
use lib.ListN.{length-replicate}
use lib.Seq.{append_snoc}
use Rattle.pcode.specs.Block.{held, mark_ids, pushed, blank_stmt, blank_stmts}
use Rattle.pcode.specs.declared.var.VarId.{VarId}
use Rattle.pcode.specs.declared.block.Stmt.{Stmt}
use Rattle.pcode.specs.declared.block.Block.{Block}
use Rattle.pcode.specs.declared.block.Marks.{Marks}
use Rattle.record.specs.Records.{record_of}
use Rattle.text.specs.Reading.{lines_of, read_with, empty_read, with_mark, accepted_mark, accepted_stmt, accepted, read_lines, room_of, read_of}
use Rattle.pcode.specs.declared.refusal.Refusal.{Refusal}
use Rattle.text.specs.declared.answer.Read.{Read}
use Rattle.text.proofs.Counts.{roomed}
use Rattle.print.specs.Printing.{printed}
use Rattle.roundtrip.specs.Fits.{FitsAll, FitMarks}
use Rattle.roundtrip.specs.Files.{marks_text}
use Rattle.roundtrip.specs.RoundTrip.{PrintRead, PrintReadMarked}
use Rattle.roundtrip.proofs.Sizes.{SmallAll, checked_small, checked_count}
use Rattle.roundtrip.proofs.Records.{line_of, line_read}
use Rattle.roundtrip.proofs.Marks.{mark_line, mark_read}
use Rattle.roundtrip.proofs.Lines.{lines_printed, lines_marked}

-- one statement more in a block with room
module _ (b : Block) (s : Stmt) (room : length b.stmts ≡ 129) (h : b.count < 129) where
  pub push_held : held (pushed b s) ≡ held b ++ s ∷ []
  push_held = rw (lt-ltb b.count 129 h, add-one b.count) (take-suc-set b.stmts b.count s (omega arith))

  pub push_room : length (pushed b s).stmts ≡ 129
  push_room = rw (lt-ltb b.count 129 h) (length-set b.stmts b.count s ∙ room)

  push_count : (pushed b s).count ≡ b.count + 1
  push_count = rw (lt-ltb b.count 129 h)

-- one mark more, where there is room
pub mark_more : (m : Marks) (v : VarId) → length m.ids ≡ 16 → m.count < 16 → mark_ids (with_mark m v) ≡ mark_ids m ++ v ∷ []
mark_more m v room h = rw (add-one m.count) (take-suc-set m.ids m.count v (omega arith))

-- what was read so far: these statements, these marks, with room for more
record State (r : Read) (ss : List Stmt) (ids : List VarId) : Type 0 where
  room : length r.block.stmts ≡ 129
  count : r.block.count ≡ length ss
  stmts : held r.block ≡ ss
  spare : length r.marks.ids ≡ 16
  marked : r.marks.count ≡ length ids
  marks : mark_ids r.marks ≡ ids

-- an answer that is no refusal, and what was read
record Went (x : Result Read Refusal) (ss : List Stmt) (ids : List VarId) : Type 0 where
  read : Read
  answer : x ≡ Ok read
  state : State read ss ids

accept_stmt : (limit : ℕ) (r : Read) (s : Stmt) (ss : List Stmt) (ids : List VarId) → limit ≤ 129 → State r ss ids → length ss < limit → Went (accepted_stmt limit r s) (ss ++ s ∷ []) ids
unfolding accepted_stmt
accept_stmt limit r s ss ids small t h =
    let c : r.block.count < limit = omega (arith, t.count) in
    let d : r.block.count < 129 = omega arith in
    record {
      read = read_with (pushed r.block s) r.marks;
      answer = rw (lt-leb limit r.block.count c);
      state =
          record {
            room = push_room r.block s t.room d;
            count = push_count r.block s t.room d ∙ omega (arith, t.count, length-append ss (s ∷ []));
            stmts = push_held r.block s t.room d ∙ ap (λ (l : List Stmt). l ++ s ∷ []) t.stmts;
            spare = t.spare;
            marked = t.marked;
            marks = t.marks;
          };
    }

accept_mark : (line : ℕ) (r : Read) (v : VarId) (ids : List VarId) → State r [] ids → length ids < 16 → Went (accepted_mark line r v) [] (ids ++ v ∷ [])
unfolding accepted_mark
accept_mark line r v ids t h =
    let c : r.block.count ≤ 0 = omega (arith, t.count) in
    let d : r.marks.count < 16 = omega (arith, t.marked) in
    record {
      read = read_with r.block (with_mark r.marks v);
      answer = rw (le-ltb 0 r.block.count c, lt-leb 16 r.marks.count d);
      state =
          record {
            room = t.room;
            count = t.count;
            stmts = t.stmts;
            spare = length-set r.marks.ids r.marks.count v ∙ t.spare;
            marked = omega (arith, t.marked, length-append ids (v ∷ []));
            marks = mark_more r.marks v t.spare d ∙ ap (λ (l : List VarId). l ++ v ∷ []) t.marks;
          };
    }

-- reading goes on after a line that is accepted
read_on : (limit line : ℕ) (r x : Read) (l : List ℕ) (ls : List (List ℕ)) → accepted limit line r (record_of l) ≡ Ok x → read_lines limit line r (l ∷ ls) ≡ read_lines limit (line + 1) x ls
unfolding read_lines
read_on limit line r x l ls e = rw e

pub read_none : (limit line : ℕ) (r : Read) → read_lines limit line r [] ≡ Ok r
unfolding read_lines
read_none limit line r = refl

module _ (limit : ℕ) (small : limit ≤ 129) where
  read_stmts : (ts : List Stmt) (line : ℕ) (r : Read) (ss : List Stmt) (ids : List VarId) → State r ss ids → length ss + length ts ≤ limit → FitsAll ts → SmallAll ts →
      Went (read_lines limit line r (map line_of ts)) (ss ++ ts) ids
  read_stmts [] line r ss ids t h f g = rw (append-nil ss) record { read = r; answer = read_none limit line r; state = t }
  read_stmts (s ∷ ts) line r ss ids t h f g =
      let u = accept_stmt limit r s ss ids small t (omega arith) in
      let e : accepted limit line r (record_of (line_of s)) ≡ Ok u.read = ap (accepted limit line r) (line_read s f.0 g.0) ∙ u.answer in
      rw (read_on limit line r u.read (line_of s) (map line_of ts) e, ← (append_snoc ss s ts))
      (read_stmts ts (line + 1) u.read (ss ++ s ∷ []) ids u.state (omega (arith, length-append ss (s ∷ []))) f.1 g.1)

  module _ (ts : List Stmt) (h : length ts ≤ limit) (f : FitsAll ts) (g : SmallAll ts) where
    read_marks : (vs : List VarId) (line : ℕ) (r : Read) (ids : List VarId) → State r [] ids → length ids + length vs ≤ 16 → FitMarks vs →
        Went (read_lines limit line r (map mark_line vs ++ map line_of ts)) ts (ids ++ vs)
    read_marks [] line r ids t k m = rw (append-nil ids) (read_stmts ts line r [] ids t (omega (arith, h)) f g)
    read_marks (v ∷ vs) line r ids t k m =
        let u = accept_mark line r v ids t (omega arith) in
        let e : accepted limit line r (record_of (mark_line v)) ≡ Ok u.read = ap (accepted limit line r) (mark_read v m.0) ∙ u.answer in
        rw (read_on limit line r u.read (mark_line v) (map mark_line vs ++ map line_of ts) e, ← (append_snoc ids v vs))
        (read_marks vs (line + 1) u.read (ids ++ v ∷ []) u.state (omega (arith, length-append ids (v ∷ []))) m.1)

empty_state : State empty_read [] []
unfolding empty_read blank_stmts
empty_state =
    record {
      room = length-replicate 129 blank_stmt;
      count = refl;
      stmts = refl;
      spare = length-replicate {A = VarId} 16 (record { 0 = pos 0 });
      marked = refl;
      marks = refl;
    }

-- a block that passes the checks, printed below up to 16 marks, is read as it was
pub print_read_marked : PrintReadMarked
unfolding read_of
print_read_marked limits b ids e f m h =
    let most = room_of limits.stmts in
    let t : Went (read_lines most 1 empty_read (lines_of (marks_text ids ++ printed (held b)))) (held b) ids =
    rw (lines_marked ids (printed (held b)), lines_printed (held b))
    (read_marks most (roomed limits.stmts) (held b) (checked_count limits b e) f (checked_small limits b e) ids 1 empty_read [] empty_state (omega (arith, h)) m) in
    record { read = t.read; answer = t.answer; stmts = t.state.stmts; marks = t.state.marks }

-- a block that passes the checks, printed, is read as it was, without marks
pub print_read : PrintRead
unfolding marks_text
print_read limits b e f = print_read_marked limits b [] e f tt (omega arith)
