-- What the checks tell of a statement's sizes and offsets: each fits a byte.
use Rattle.std.proofs.Common.{Result, Ok, Err, ℕ, ◌+◌, ◌<◌, ◌≤◌, arith, ◌≡◌, refl, true, false, List, [], ◌∷◌, leb-true, ltb-false, eqb, leb, ltb, length, length-take}
use Rattle.pcode.specs.Var.{zero_id, as_operand}
use Rattle.pcode.specs.Block.{held}
use Rattle.pcode.specs.declared.var.VarNode.{VarNode}
use Rattle.pcode.specs.declared.var.Operand.{Operand}
use Rattle.pcode.specs.declared.block.Stmt.{Stmt}
use Rattle.pcode.specs.declared.block.Block.{Block}
use Rattle.pcode.specs.declared.block.Limits.{Limits}
use Rattle.pcode.specs.declared.refusal.Refusal.{Refusal}
use Rattle.pcode.specs.declared.refusal.Refusal.TheVariants.{TooManyStatements, BadVariable}
use Rattle.text.specs.Reading.{room_of}
use Rattle.checks.specs.Statements.{good_size, good_node, good_operand, good_parts, stmt_check, else_then, checks_from}
use Rattle.checks.specs.Checks.{check_of}
use Rattle.roundtrip.proofs.Inverse.{passed, not_bad}

-- an operand's offset and size fit a byte
abbrev pub SmallOperand : Operand → Type 0
SmallOperand Operand.None = Unit {0}
SmallOperand (Operand.Const v n) = n < 256
SmallOperand (Operand.Var v) = (v.offset < 256) × (v.size < 256)

pub record Small (s : Stmt) : Type 0 where
  pub output : SmallOperand (as_operand s.output)
  pub first : SmallOperand s.first
  pub second : SmallOperand s.second

abbrev pub SmallAll : List Stmt → Type 0
SmallAll [] = Unit {0}
SmallAll (s ∷ ss) = Small s × SmallAll ss

no_true : false ≡ true → ⊥
no_true e = cc

size_small : (n : ℕ) → good_size n ≡ true → n < 256
unfolding good_size
size_small n e = let p = not_bad false true no_true (eqb n 0) (leb n 16) e in omega (arith, leb-true n 16 p.1)

node_small : (v : VarNode) → good_node v ≡ true → (v.offset < 256) × (v.size < 256)
unfolding good_node
node_small v e =
    let p = not_bad false true no_true (zero_id v.id) _ e in
    let q = passed false true no_true (good_size v.size) (leb (v.offset + v.size) 16) p.1 in
    let h : v.offset + v.size ≤ 16 = leb-true _ _ q.1 in
    (omega arith, omega arith)

operand_small : (a : Operand) → good_operand a ≡ true → SmallOperand a
operand_small Operand.None e = tt
operand_small (Operand.Const v n) e = size_small n e
operand_small (Operand.Var v) e = node_small v e

parts_small : (s : Stmt) → good_parts s ≡ true → Small s
unfolding good_parts
parts_small s e =
    let p = passed false true no_true (good_operand (as_operand s.output)) _ e in
    let q = passed false true no_true (good_operand s.first) (good_operand s.second) p.1 in
    record {
      output = operand_small (as_operand s.output) p.0;
      first = operand_small s.first q.0;
      second = operand_small s.second q.1;
    }

no_ok : (why : Refusal) → ◌≡◌ {A = Result (Unit {0}) Refusal} (Err why) (Ok tt) → ⊥
no_ok why e = cc

stmt_small : (i : ℕ) (s : Stmt) → stmt_check i s ≡ Ok tt → Small s
unfolding stmt_check
stmt_small i s e = parts_small s (passed (Err (BadVariable i)) (Ok tt) (no_ok (BadVariable i)) (good_parts s) _ e).0

-- the first of two answers, and the other one
both : (a b : Result (Unit {0}) Refusal) → else_then a b ≡ Ok tt → (a ≡ Ok tt) × (b ≡ Ok tt)
both (Ok t) b e = (refl, e)
both (Err why) b e = absurd (no_ok why e)

all_small : (i : ℕ) (ss : List Stmt) → checks_from i ss ≡ Ok tt → SmallAll ss
unfolding checks_from
all_small i [] e = tt
all_small i (s ∷ ss) e = let p = both (stmt_check i s) (checks_from (i + 1) ss) e in (stmt_small i s p.0, all_small (i + 1) ss p.1)

-- a block that passes the checks: its sizes fit, and it has no more statements than are read
module _ (limits : Limits) (b : Block) (e : check_of limits b ≡ Ok tt) where
  abbrev refusal : Result (Unit {0}) Refusal
  refusal = Err (TooManyStatements (room_of limits.stmts))

  pub checked_small : SmallAll (held b)
  unfolding check_of
  checked_small =
      let p = not_bad refusal (Ok tt) (no_ok _) (ltb (room_of limits.stmts) b.count) _ e in
      all_small 0 (held b) (both (checks_from 0 (held b)) _ p.1).0

  pub checked_count : length (held b) ≤ room_of limits.stmts
  unfolding check_of
  checked_count =
      let p = not_bad refusal (Ok tt) (no_ok _) (ltb (room_of limits.stmts) b.count) _ e in
      omega (arith, length-take b.count b.stmts, ltb-false (room_of limits.stmts) b.count p.0)
