-- A statement's line is read as the statement.
use Rattle.std.proofs.Common.{Option, None, Some, ℕ, ◌<◌, ◌≤◌, arith, ◌≡◌, ap, ◌∙◌, inl, List, [], ◌∷◌, ◌++◌, le-ltb, lt-ltb, ltb-true, length, length-append}
use Rattle.pcode.specs.Var.{as_operand}
use Rattle.pcode.specs.Names.{name_of, code_of, number_of, op_of, takes_number}
use Rattle.pcode.specs.Block.{stmt_of}
use Rattle.pcode.specs.declared.op.Op.{Op}
use Rattle.pcode.specs.declared.var.Operand.{Operand}
use Rattle.pcode.specs.Var.{Output}
use Rattle.pcode.specs.declared.block.Stmt.{Stmt}
use Rattle.pcode.proofs.Names.{length_fits}
use Rattle.fields.specs.Parts.{part_of, count_of}
use Rattle.record.specs.Names.{code_named}
use Rattle.record.specs.Operands.{operand_of, output_of}
use Rattle.record.specs.Records.{number_in, statement_of, record_of}
use Rattle.record.specs.declared.record.Record.TheVariants.{Statement}
use Rattle.print.specs.Rooms.{number_room, record_room}
use Rattle.print.specs.Texts.{number_text, operand_text}
use Rattle.print.specs.Printing.{op_text, operands_text, record_text}
use Rattle.roundtrip.specs.Fits.{FitsNumber, Fits}
use Rattle.roundtrip.proofs.Parts.{Without, count_empty, count_other}
use Rattle.roundtrip.proofs.Fields.{fields, Tabless, five_length, five_ended, five_without, five_count, five_0, five_1, five_2, five_3, five_4}
use Rattle.roundtrip.proofs.Sizes.{Small}
use Rattle.roundtrip.proofs.Digits.{digits_apart, length_digits}
use Rattle.roundtrip.proofs.Names.{code_named_lem, name_tab, name_newline}
use Rattle.roundtrip.proofs.Ops.{value_in, has, op_coded}
use Rattle.roundtrip.proofs.Operands.{five, operand_read, output_read, operand_apart, operand_length}

-- what stands in no number field, and its length
pub number_apart : (b : ℕ) (n : Option ℕ) → b < 45 → Without b (number_text n)
number_apart b None h = count_other b 45 [] (λ e. no e) ∙ count_empty b
  where
    no : 45 ≡ b → ⊥
    no e = omega arith
number_apart b (Some n) h = digits_apart b 5 n (inl (omega arith))

number_length : (n : Option ℕ) → length (number_text n) ≤ number_room
number_length None = omega arith
number_length (Some n) = length_digits 5 n

-- a statement's line, without its LF
unfoldable pub line_of : Stmt → List ℕ
line_of s =
    fields (name_of (code_of s.op)) (number_text (number_of s.op)) (operand_text (as_operand s.output)) (operand_text s.first) (operand_text s.second)

module _ (s : Stmt) where
  abbrev u : List ℕ
  u = name_of (code_of s.op)

  abbrev v : List ℕ
  v = number_text (number_of s.op)

  abbrev x : List ℕ
  x = operand_text (as_operand s.output)

  abbrev y : List ℕ
  y = operand_text s.first

  abbrev z : List ℕ
  z = operand_text s.second

  -- its record is the line and an LF
  pub record_line : record_text s ≡ line_of s ++ 10 ∷ []
  unfolding line_of record_text op_text operands_text
  record_line = five_ended u v x y z

  pub line_newline : Without 10 (line_of s)
  unfolding line_of
  line_newline =
      five_without u v x y z (name_newline (code_of s.op)) (number_apart 10 (number_of s.op) (omega arith))
      (operand_apart 10 (as_operand s.output) (omega arith)) (operand_apart 10 s.first (omega arith)) (operand_apart 10 s.second (omega arith))

  line_length : length (line_of s) < record_room
  unfolding line_of
  line_length =
      omega (
        arith,
        five_length u v x y z,
        length_fits (code_of s.op),
        number_length (number_of s.op),
        operand_length (as_operand s.output),
        operand_length s.first,
        operand_length s.second,
      )

-- its record, LF included, fits the room that a record is given
pub record_length : (s : Stmt) → length (record_text s) ≤ record_room
record_length s = omega (arith, ap length (record_line s), length-append (line_of s) (10 ∷ []), line_length s)

-- the number field
number_read : (code : ℕ) (n : Option ℕ) → takes_number code ≡ has n → FitsNumber n → number_in code (number_text n) ≡ Some (value_in n)
unfolding number_in
number_read code None e f = rw e
number_read code (Some n) e f = rw (e, five 65535 n (omega arith) (omega arith))

-- a statement from its fields
statement_good : (line : List ℕ) (k n : ℕ) (o : Output) (a b : Operand) → code_named (part_of 9 line 0) ≡ k → k < 72 → number_in k (part_of 9 line 1) ≡ Some n →
    output_of (part_of 9 line 2) ≡ Some o → operand_of (part_of 9 line 3) ≡ Some a → operand_of (part_of 9 line 4) ≡ Some b →
    statement_of line ≡ Some (Statement (stmt_of (op_of k n) o a b))
unfolding statement_of
statement_good line k n o a b c h d e f g = rw (c, lt-ltb k 72 h, d, e, f, g)

record_good : (line : List ℕ) → length line ≤ 200 → count_of 9 line ≡ 4 → record_of line ≡ statement_of line
unfolding record_of
record_good line h e = rw (le-ltb 200 (length line) h, e)

-- a statement's line is read as the statement
module _ (s : Stmt) (f : Fits s) (g : Small s) where
  abbrev k : ℕ
  k = code_of s.op

  tabless : Tabless (u s) (v s) (x s) (y s) (z s)
  tabless = record {
    name = name_tab k;
    number = number_apart 9 (number_of s.op) (omega arith);
    output = operand_apart 9 (as_operand s.output) (omega arith);
    first = operand_apart 9 s.first (omega arith);
    second = operand_apart 9 s.second (omega arith);
  }

  fields_read : statement_of (line_of s) ≡ Some (Statement (stmt_of (op_of k (value_in (number_of s.op))) s.output s.first s.second))
  unfolding line_of
  fields_read =
      let c = op_coded s.op in
      let h : k < 72 = ltb-true k 72 c.below in
      statement_good (line_of s) k (value_in (number_of s.op)) s.output s.first s.second
      (ap code_named (five_0 (u s) (v s) (x s) (y s) (z s) tabless) ∙ code_named_lem k h) h
      (ap (number_in k) (five_1 (u s) (v s) (x s) (y s) (z s) tabless) ∙ number_read k (number_of s.op) c.takes f.number)
      (ap output_of (five_2 (u s) (v s) (x s) (y s) (z s) tabless) ∙ output_read s.output f.output g.output)
      (ap operand_of (five_3 (u s) (v s) (x s) (y s) (z s) tabless) ∙ operand_read s.first f.first g.first)
      (ap operand_of (five_4 (u s) (v s) (x s) (y s) (z s) tabless) ∙ operand_read s.second f.second g.second)

  pub line_read : record_of (line_of s) ≡ Some (Statement s)
  unfolding line_of
  line_read =
      record_good (line_of s) (omega (arith, line_length s)) (five_count (u s) (v s) (x s) (y s) (z s) tabless) ∙ fields_read
      ∙ ap (λ (op : Op). Some (Statement (stmt_of op s.output s.first s.second))) (op_coded s.op).same
