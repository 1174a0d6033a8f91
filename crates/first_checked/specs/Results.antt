-- The first pass's result of a checked block, and the room that it takes.
use Rattle.std.specs.Prelude.{◌≤◌, ◌≡◌, List, Ok, length}
use Rattle.pcode.specs.Block.{held, first_limits}
use Rattle.pcode.specs.declared.block.Stmt.{Stmt}
use Rattle.pcode.specs.declared.block.Block.{Block}
use Rattle.pcode.specs.declared.block.Marks.{Marks}
use Rattle.vars.specs.Vars.{vars_of, held_ids}
use Rattle.vars.specs.declared.Vars.{Vars}
use Rattle.checks.specs.Checks.{check_of}
use Rattle.const_prop.specs.Pass.{gives, propagated_of}

-- the block passes the checks with the first pass's limits, the table holds its variables, and the pass gives these statements
pub record Given (b : Block) (vars : Vars) (m : Marks) (l : List Stmt) : Type 0 where
  pub checked : check_of first_limits b ≡ Ok tt
  pub table : held_ids vars ≡ vars_of (held b)
  pub given : propagated_of vars m (held b) ≡ gives l

-- at most two statements for each of 64 and one at the end, over 48 variables and at most one more for each statement
pub record InRoom (l : List Stmt) : Type 0 where
  pub stmts : length l ≤ 129
  pub vars : length (vars_of l) ≤ 112
