-- A file that is read is the text of its marks and of its block.
use Rattle.std.proofs.Common.{ℕ, ◌+◌, ◌<◌, ◌≤◌, arith, ◌≡◌, refl, sym, ap, subst, ◌∙◌, Bool, true, false, List, [], ◌∷◌, ◌++◌, append_assoc, append-nil, ltb-false, leb-false, ltb, leb, pos, length, take, length-set, Option, None, Some, Result, Ok, Err}
use lib.ListN.{length-replicate}
use Rattle.pcode.specs.Var.{pick}
use Rattle.pcode.specs.Block.{held, mark_ids, pushed, blank_stmt, blank_stmts}
use Rattle.pcode.specs.declared.var.VarId.{VarId}
use Rattle.pcode.specs.declared.block.Stmt.{Stmt}
use Rattle.pcode.specs.declared.refusal.Refusal.{Refusal}
use Rattle.pcode.specs.declared.refusal.Refusal.TheVariants.{BadLine, TooManyStatements}
use Rattle.record.specs.Records.{record_of}
use Rattle.record.specs.declared.record.Record.{Record}
use Rattle.record.specs.declared.record.Record.TheVariants.{Mark, Statement}
use Rattle.text.specs.Reading.{lines_of, read_with, empty_read, with_mark, accepted_mark, accepted_stmt, accepted, unless_refused, read_lines, room_of, read_of}
use Rattle.text.specs.declared.answer.Read.{Read}
use Rattle.text.proofs.Counts.{roomed}
use Rattle.print.specs.Printing.{record_text, printed}
use Rattle.print.proofs.Records.{printed_snoc}
use Rattle.roundtrip.specs.Fits.{Fits, FitsAll, FitsMark, FitMarks}
use Rattle.roundtrip.specs.Files.{ended, mark_text, marks_text}
use Rattle.roundtrip.specs.RoundTrip.{ReadPrint, ReadPrintWhole, EmptyFile, ReadFits, Reread}
use Rattle.roundtrip.proofs.Records.{line_of, record_line}
use Rattle.roundtrip.proofs.Marks.{mark_line, mark_text_lem}
use Rattle.roundtrip.proofs.RecordsBack.{line_back, mark_back}
use Rattle.roundtrip.proofs.Lines.{unlines, unlines_lines}
use Rattle.roundtrip.proofs.PrintRead.{push_held, push_room, mark_more, read_none, print_read}

-- the text of what was read so far
pub text_of : Read → List ℕ
text_of r = marks_text (mark_ids r.marks) ++ printed (held r.block)

-- a block has room for 129 statements, marks for 16, and what they hold fits
record Room (r : Read) : Type 0 where
  stmts : length r.block.stmts ≡ 129
  ids : length r.marks.ids ≡ 16
  fits : FitsAll (held r.block)
  marked : FitMarks (mark_ids r.marks)

fits_snoc : (ss : List Stmt) (s : Stmt) → FitsAll ss → Fits s → FitsAll (ss ++ s ∷ [])
fits_snoc [] s f g = (g, tt)
fits_snoc (x ∷ ss) s f g = (f.0, fits_snoc ss s f.1 g)

fit_snoc : (vs : List VarId) (v : VarId) → FitMarks vs → FitsMark v.0 → FitMarks (vs ++ v ∷ [])
fit_snoc [] v f g = (g, tt)
fit_snoc (x ∷ vs) v f g = (f.0, fit_snoc vs v f.1 g)

-- one mark more
marks_snoc : (ms : List VarId) (v : VarId) → marks_text (ms ++ v ∷ []) ≡ marks_text ms ++ mark_text v
unfolding marks_text
marks_snoc [] v = append-nil (mark_text v)
marks_snoc (m ∷ ms) v = ap (λ (l : List ℕ). mark_text m ++ l) (marks_snoc ms v) ∙ sym (append_assoc (mark_text m) (marks_text ms) (mark_text v))

refused : (why : Refusal) (x : Read) → ◌≡◌ {A = Result Read Refusal} (Err why) (Ok x) → ⊥
refused why x e = cc

-- one line more: its text is added
module _ (limit line : ℕ) (r : Read) (l : List ℕ) (small : limit ≤ 129) (room : Room r) where
  record Added (x : Read) : Type 0 where
    room' : Room x
    text : text_of x ≡ text_of r ++ (l ++ 10 ∷ [])

  add_stmt : (s : Stmt) (x : Read) → l ≡ line_of s → Fits s → accepted_stmt limit r s ≡ Ok x → Added x
  unfolding accepted_stmt text_of
  add_stmt s x q w = go (leb limit r.block.count) refl
    where
      told : record_text s ≡ l ++ 10 ∷ []
      told = record_line s ∙ ap (λ (x : List ℕ). x ++ 10 ∷ []) (sym q)

      go : (t : Bool) → leb limit r.block.count ≡ t → pick t (Err (TooManyStatements r.block.count)) (Ok (read_with (pushed r.block s) r.marks)) ≡ Ok x → Added x
      go true f e = absurd (refused _ x e)
      go false f e =
          let h : r.block.count < 129 = omega (arith, leb-false limit r.block.count f) in
          let y : read_with (pushed r.block s) r.marks ≡ x = cc in
          subst Added y record {
            room' =
                record {
                  stmts = push_room r.block s room.stmts h;
                  ids = room.ids;
                  fits = subst FitsAll (sym (push_held r.block s room.stmts h)) (fits_snoc (held r.block) s room.fits w);
                  marked = room.marked;
                };
            text =
                ap (λ (ss : List Stmt). marks_text (mark_ids r.marks) ++ printed ss) (push_held r.block s room.stmts h)
                ∙ ap (λ (x : List ℕ). marks_text (mark_ids r.marks) ++ x) (sym (printed_snoc (held r.block) s))
                ∙ sym (append_assoc (marks_text (mark_ids r.marks)) (printed (held r.block)) (record_text s))
                ∙ ap (λ (x : List ℕ). text_of r ++ x) told;
          }

  add_mark : (v : VarId) (x : Read) → l ≡ mark_line v → FitsMark v.0 → accepted_mark line r v ≡ Ok x → Added x
  unfolding accepted_mark text_of printed
  add_mark v x q w = go (ltb 0 r.block.count) (leb 16 r.marks.count) refl refl
    where
      told : mark_text v ≡ l ++ 10 ∷ []
      told = mark_text_lem v ∙ ap (λ (x : List ℕ). x ++ 10 ∷ []) (sym q)

      none : r.block.count ≤ 0 → held r.block ≡ []
      none h = let z : r.block.count ≡ 0 = omega arith in ap (λ (n : ℕ). take n r.block.stmts) z

      go : (t u : Bool) → ltb 0 r.block.count ≡ t → leb 16 r.marks.count ≡ u →
          pick t (Err (BadLine line)) (pick u (Err (BadLine line)) (Ok (read_with r.block (with_mark r.marks v)))) ≡ Ok x → Added x
      go true u f g e = absurd (refused _ x e)
      go false true f g e = absurd (refused _ x e)
      go false false f g e =
          let n = none (ltb-false 0 r.block.count f) in
          let k = mark_more r.marks v room.ids (leb-false 16 r.marks.count g) in
          let m = marks_text (mark_ids r.marks) in
          let a : text_of r ≡ m = ap (λ (ss : List Stmt). m ++ printed ss) n ∙ append-nil m in
          let y : read_with r.block (with_mark r.marks v) ≡ x = cc in
          subst Added y record {
            room' =
                record {
                  stmts = room.stmts;
                  ids = length-set r.marks.ids r.marks.count v ∙ room.ids;
                  fits = room.fits;
                  marked = subst FitMarks (sym k) (fit_snoc (mark_ids r.marks) v room.marked w);
                };
            text =
                ap (λ (ss : List Stmt). marks_text (mark_ids (with_mark r.marks v)) ++ printed ss) n
                ∙ append-nil (marks_text (mark_ids (with_mark r.marks v)))
                ∙ ap marks_text k
                ∙ marks_snoc (mark_ids r.marks) v
                ∙ ap (λ (x : List ℕ). m ++ x) told
                ∙ ap (λ (x : List ℕ). x ++ (l ++ 10 ∷ [])) (sym a);
          }

  add_line : (d : Option Record) (x : Read) → record_of l ≡ d → accepted limit line r d ≡ Ok x → Added x
  add_line None x q e = absurd (refused (BadLine line) x e)
  add_line (Some (Mark v)) x q e = let b = mark_back l v q in add_mark v x b.0 b.1 e
  add_line (Some (Statement s)) x q e = let b = line_back l s q in add_stmt s x b.0 b.1 e

-- reading that ends well went well at each line
went : (a : Result Read Refusal) (next : Read → Result Read Refusal) (z : Read) → unless_refused a next ≡ Ok z → (x : Read) × (a ≡ Ok x) × (next x ≡ Ok z)
went (Ok x) next z e = (x, refl, e)
went (Err why) next z e = absurd (refused why z e)

read_cons : (limit line : ℕ) (r : Read) (l : List ℕ) (ls : List (List ℕ)) (z : Read) → read_lines limit line r (l ∷ ls) ≡ Ok z →
    (x : Read) × (accepted limit line r (record_of l) ≡ Ok x) × (read_lines limit (line + 1) x ls ≡ Ok z)
unfolding read_lines
read_cons limit line r l ls z e = went (accepted limit line r (record_of l)) (λ x. read_lines limit (line + 1) x ls) z e

-- all lines: what was read is their text
read_text : (limit : ℕ) → limit ≤ 129 → (ls : List (List ℕ)) (line : ℕ) (r z : Read) → Room r → read_lines limit line r ls ≡ Ok z →
    Room z × (text_of z ≡ text_of r ++ unlines ls)
read_text limit small [] line r z room e =
    let y : ◌≡◌ {A = Result Read Refusal} (Ok r) (Ok z) = sym (read_none limit line r) ∙ e in
    let q : r ≡ z = cc in
    (subst Room q room, ap text_of (sym q) ∙ sym (append-nil (text_of r)))
read_text limit small (l ∷ ls) line r z room e =
    let w = read_cons limit line r l ls z e in
    let d = add_line limit line r l small room (record_of l) w.0 refl w.1 in
    let p = read_text limit small ls (line + 1) w.0 z d.room' w.2 in (
      p.0,
      p.1
          ∙ ap (λ (t : List ℕ). t ++ unlines ls) d.text
          ∙ append_assoc (text_of r) (l ++ 10 ∷ []) (unlines ls)
          ∙ ap (λ (t : List ℕ). text_of r ++ t) (append_assoc l (10 ∷ []) (unlines ls)),
    )

empty_room : Room empty_read
unfolding empty_read blank_stmts
empty_room = record { stmts = length-replicate 129 blank_stmt; ids = length-replicate {A = VarId} 16 (record { 0 = pos 0 }); fits = tt; marked = tt }

empty_text : text_of empty_read ≡ []
unfolding text_of empty_read marks_text printed
empty_text = refl

module _ (limit : ℕ) (bytes : List ℕ) (r : Read) (e : read_of limit bytes ≡ Ok r) where
  read_file : Room r × (text_of r ≡ ended bytes)
  unfolding read_of
  read_file =
      let p = read_text (room_of limit) (roomed limit) (lines_of bytes) 1 empty_read r empty_room e in
      (p.0, p.1 ∙ ap (λ (t : List ℕ). t ++ unlines (lines_of bytes)) empty_text ∙ unlines_lines bytes)

-- a file that is read is the text of its marks and its block's print, a missing last LF aside
pub read_print : ReadPrint
unfolding text_of
read_print limit bytes r e = (read_file limit bytes r e).1

-- an empty file prints nothing
pub read_print_empty : EmptyFile
unfolding read_of lines_of read_lines empty_read printed
read_print_empty limit = (empty_read, refl, refl)

-- what is read fits its types
pub read_fits : ReadFits
read_fits limit bytes r e = let p = (read_file limit bytes r e).0 in (p.fits, p.marked)

ended_whole : (s : List ℕ) → ended (s ++ 10 ∷ []) ≡ s ++ 10 ∷ []
unfolding ended
ended_whole [] = refl
ended_whole (b ∷ []) = refl
ended_whole (b ∷ c ∷ s) = ap (λ (l : List ℕ). b ∷ l) (ended_whole (c ∷ s))

-- a file without marks that ends with an LF is its block's print
pub read_print_whole : ReadPrintWhole
unfolding marks_text
read_print_whole limit s r e m =
    ap (λ (ids : List VarId). marks_text ids ++ printed (held r.block)) (sym m) ∙ read_print limit (s ++ 10 ∷ []) r e ∙ ended_whole s

-- a block that was read and passes the checks, printed, is read again as it was
pub reread : Reread
reread limits bytes r e c = print_read limits r.block c (read_fits limits.stmts bytes r e).0
