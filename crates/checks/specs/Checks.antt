-- The checks in 01's order: 2, then 3, 4, 5 statement by statement, then 7 over the block, then 6.
use Rattle.std.specs.Prelude.{ℕ, List, ltb, length, Result, Ok, Err}
use Rattle.pcode.specs.Var.{pick}
use Rattle.pcode.specs.Block.{held}
use Rattle.pcode.specs.declared.block.Stmt.{Stmt}
use Rattle.pcode.specs.declared.block.Block.{Block}
use Rattle.pcode.specs.declared.block.Limits.{Limits}
use Rattle.pcode.specs.declared.refusal.Refusal.{Refusal}
use Rattle.pcode.specs.declared.refusal.Refusal.TheVariants.{TooManyStatements, TooManyVariables}
use Rattle.vars.specs.Vars.{too_many, cap_of}
use Rattle.text.specs.Reading.{room_of}
use Rattle.checks.specs.Statements.{else_then, checks_from}
use Rattle.checks.specs.Labels.{labels_from}

-- 7: a distinct variable beyond the limit, at the statement naming it
unfoldable pub variables : ℕ → List Stmt → Result (Unit {0}) Refusal
variables most ss =
    pick (ltb (too_many (cap_of most) ss) (length ss)) (Err (TooManyVariables (too_many (cap_of most) ss))) (Ok tt)

-- what the checks answer for a block: Ok, or the first refusal in 01's order
unfoldable pub check_of : Limits → Block → Result (Unit {0}) Refusal
check_of limits b =
    pick (ltb (room_of limits.stmts) b.count) (Err (TooManyStatements (room_of limits.stmts)))
    (else_then (checks_from 0 (held b))
    (else_then (variables limits.vars (held b)) (labels_from (held b) 0 (held b))))
