-- The text of a block and of a refusal.
use Rattle.std.specs.Prelude.{ℕ, ◌≡◌, List, [], ◌∷◌, ◌++◌, Option, None, Some, ltb, length}
use Rattle.pcode.specs.Var.{pick, as_operand}
use Rattle.pcode.specs.Names.{bytes_of, name_of, code_of, number_of}
use Rattle.pcode.specs.Refusals.{refusal_number, refusal_place}
use Rattle.pcode.specs.declared.op.Op.{Op}
use Rattle.pcode.specs.declared.var.Operand.{Operand}
use Rattle.pcode.specs.declared.block.Stmt.{Stmt}
use Rattle.pcode.specs.declared.refusal.Refusal.{Refusal}
use Rattle.print.specs.Texts.{written, digits_text, number_text, operand_text}

-- what parts fields
abbrev tab : List ℕ
tab = 9 ∷ []

-- what ends a record
abbrev newline : List ℕ
newline = 10 ∷ []

-- operation, number or `-`, each with its tab
unfoldable pub op_text : Op → List ℕ
op_text op = name_of (code_of op) ++ (tab ++ (number_text (number_of op) ++ tab))

-- output, first, second, parted by tabs, and an LF
unfoldable pub operands_text : Operand → Operand → Operand → List ℕ
operands_text o a b = operand_text o ++ (tab ++ (operand_text a ++ (tab ++ (operand_text b ++ newline))))

-- five fields parted by tabs, and an LF
unfoldable pub record_text : Stmt → List ℕ
record_text s = op_text s.op ++ operands_text (as_operand s.output) s.first s.second

-- one record a line
unfoldable pub printed : List Stmt → List ℕ
printed [] = []
printed (s ∷ ss) = record_text s ++ printed ss

-- `refused`, tab, number, tab, place
unfoldable pub refusal_text : Refusal → List ℕ
refusal_text why =
    bytes_of "refused" ++ (tab ++ (digits_text 2 (refusal_number why) ++ (tab ++ (digits_text 20 (refusal_place why) ++ newline))))

-- a buffer of at least `room` bytes is written to, a smaller one stays
abbrev pub print_of : ℕ → List ℕ → ℕ → Option ℕ
print_of room text n = pick (ltb n room) None (Some (length text))

-- the text at the start of the buffer, where there was room
abbrev pub after_print : Option ℕ → List ℕ → List ℕ → List ℕ
after_print None text old = old
after_print (Some n) text old = written old 0 text

-- the whole promise of a printing function
pub record Print (room : ℕ) (text old new : List ℕ) (r : Option ℕ) : Type 0 where
  pub answer : r ≡ print_of room text (length old)
  pub memory : new ≡ after_print r text old
