-- The text of a record's parts, and what it is to write a text at a place of a buffer.
use Rattle.std.specs.Prelude.{ℕ, zero, suc, ◌+◌, ◌/◌, ◌%◌, ◌≤◌, ◌≡◌, List, [], ◌∷◌, ◌++◌, Option, None, Some, ltb, ℤ, pos, negsuc, length, take, drop}
use Rattle.pcode.specs.Var.{pick}
use Rattle.pcode.specs.declared.var.VarNode.{VarNode}
use Rattle.pcode.specs.declared.var.Operand.{Operand}

-- a buffer with a text written at a place
unfoldable pub written : List ℕ → ℕ → List ℕ → List ℕ
written d at text = take at d ++ (text ++ drop (at + length text) d)

-- the text stands at its place, nothing else changed, and the place after it lies at most k on
pub record Wrote (k : ℕ) (old : List ℕ) (at : ℕ) (text new : List ℕ) (r : ℕ) : Type 0 where
  pub place : r ≡ at + length text
  pub bytes : new ≡ written old at text
  pub kept : length new ≡ length old
  pub width : r ≤ at + k

-- a number in decimal, at most k digits
unfoldable pub digits_text : ℕ → ℕ → List ℕ
digits_text zero v = []
digits_text (suc k) v = pick (ltb v 10) ((48 + v) ∷ []) (digits_text k (v / 10) ++ ((48 + v % 10) ∷ []))

-- a signed number of 16 bits
unfoldable pub id_text : ℤ → List ℕ
id_text (pos n) = digits_text 5 n
id_text (negsuc n) = (45 ∷ []) ++ digits_text 5 (n + 1)

-- the number of an operation that has one, `-` else
abbrev pub number_text : Option ℕ → List ℕ
number_text None = 45 ∷ []
number_text (Some n) = digits_text 5 n

-- `c32767:2`
unfoldable pub const_text : ℕ → ℕ → List ℕ
const_text v n = (99 ∷ []) ++ (digits_text 20 v ++ ((58 ∷ []) ++ digits_text 3 n))

-- `v-1:0:2`
unfoldable pub var_text : VarNode → List ℕ
var_text v =
    (118 ∷ []) ++ (id_text v.id.0 ++ ((58 ∷ []) ++ (digits_text 3 v.offset ++ ((58 ∷ []) ++ digits_text 3 v.size))))

-- `-`, a constant or a part of a variable
abbrev pub operand_text : Operand → List ℕ
operand_text Operand.None = 45 ∷ []
operand_text (Operand.Const v n) = const_text v n
operand_text (Operand.Var v) = var_text v
