-- A line's number is one more than the marks and statements before it, so it stays small.
use Rattle.std.proofs.Common.{ℕ, ◌+◌, ◌<◌, ◌≤◌, arith, ◌≡◌, refl, sym, subst, ◌∙◌, Bool, true, false, List, lt-ltb, ltb-false, ltb-true, leb-false, leb, ltb, length, take, length-take, take_all, Option, Some, None, Ok, Err}
use Rattle.pcode.specs.Var.{pick}
use Rattle.pcode.specs.Block.{pushed}
use Rattle.pcode.specs.declared.var.VarId.{VarId}
use Rattle.pcode.specs.declared.block.Stmt.{Stmt}
use Rattle.pcode.specs.declared.refusal.Refusal.TheVariants.{BadLine, TooManyStatements}
use Rattle.record.specs.declared.record.Record.{Record}
use Rattle.record.specs.declared.record.Record.TheVariants.{Mark, Statement}
use Rattle.text.specs.Reading.{empty_read, read_with, with_mark, accepted_mark, accepted_stmt, accepted, room_of}
use Rattle.text.specs.declared.answer.Read.{Read}

pub record Counted (limit line : ℕ) (r : Read) : Type 0 where
  pub lines : line ≡ 1 + (r.marks.count + r.block.count)
  pub marks : r.marks.count ≤ 16
  pub stmts : r.block.count ≤ limit

pub roomed : (limit : ℕ) → room_of limit ≤ 129
roomed limit = go (ltb limit 129) refl
  where
    go : (t : Bool) → ltb limit 129 ≡ t → pick t limit 129 ≤ 129
    go true e = omega (arith, ltb-true limit 129 e)
    go false e = omega arith

pub counted_none : (limit : ℕ) → Counted limit 1 empty_read
unfolding empty_read
counted_none limit = record { lines = refl; marks = omega arith; stmts = omega arith }

module _ (limit line : ℕ) (r : Read) (small : limit ≤ 129) (n : Counted limit line r) (x : Read) where
  mark_counted : (id : VarId) → accepted_mark line r id ≡ Ok x → Counted limit (line + 1) x
  unfolding accepted_mark
  mark_counted id = go (ltb 0 r.block.count) (leb 16 r.marks.count) refl refl
    where
      go : (t u : Bool) → ltb 0 r.block.count ≡ t → leb 16 r.marks.count ≡ u →
          pick t (Err (BadLine line)) (pick u (Err (BadLine line)) (Ok (read_with r.block (with_mark r.marks id)))) ≡ Ok x → Counted limit (line + 1) x
      go true u f g e = cc
      go false true f g e = cc
      go false false f g e =
          let q : read_with r.block (with_mark r.marks id) ≡ x = cc in
          subst (Counted limit (line + 1)) q (record { lines = omega (arith, n.lines); marks = omega (arith, leb-false 16 r.marks.count g); stmts = n.stmts })

  stmt_counted : (s : Stmt) → accepted_stmt limit r s ≡ Ok x → Counted limit (line + 1) x
  unfolding accepted_stmt
  stmt_counted s = go (leb limit r.block.count) refl
    where
      go : (t : Bool) → leb limit r.block.count ≡ t →
          pick t (Err (TooManyStatements r.block.count)) (Ok (read_with (pushed r.block s) r.marks)) ≡ Ok x → Counted limit (line + 1) x
      go true f e = cc
      go false f e =
          let h : r.block.count < limit = leb-false limit r.block.count f in
          let c : (pushed r.block s).count ≡ r.block.count + 1 = rw (lt-ltb r.block.count 129 (omega arith)) in
          let q : read_with (pushed r.block s) r.marks ≡ x = cc in
          subst (Counted limit (line + 1)) q (record { lines = omega (arith, n.lines); marks = n.marks; stmts = omega arith })

  pub counted_more : (d : Option Record) → accepted limit line r d ≡ Ok x → Counted limit (line + 1) x
  counted_more None e = cc
  counted_more (Some (Mark id)) e = mark_counted id e
  counted_more (Some (Statement s)) e = stmt_counted s e

-- how many the first n of 129 are
pub taken : (l : List Stmt) (n : ℕ) → length l ≡ 129 → length (take n l) ≡ room_of n
taken l n e = go (ltb n 129) refl
  where
    go : (t : Bool) → ltb n 129 ≡ t → length (take n l) ≡ room_of n
    go true h = rw h (omega (arith, length-take n l, ltb-true n 129 h))
    go false h = rw h (omega (arith, length-take n l, ltb-false n 129 h))

-- the room's first statements are all that are held
pub room_take : (l : List Stmt) (n : ℕ) → length l ≡ 129 → take (room_of n) l ≡ take n l
room_take l n e = go (ltb n 129) refl
  where
    go : (t : Bool) → ltb n 129 ≡ t → take (room_of n) l ≡ take n l
    go true h = rw h
    go false h = rw h (take_all 129 l (omega arith) ∙ sym (take_all n l (omega (arith, ltb-false n 129 h))))
