-- What the first pass's entry answers.
use Rattle.std.specs.Prelude.{List, Result, Ok, Err}
use Rattle.pcode.specs.Block.{held, first_limits}
use Rattle.pcode.specs.declared.block.Stmt.{Stmt}
use Rattle.pcode.specs.declared.block.Block.{Block}
use Rattle.pcode.specs.declared.block.Marks.{Marks}
use Rattle.pcode.specs.declared.refusal.Refusal.{Refusal}
use Rattle.vars.specs.Vars.{named_of, cap_of}
use Rattle.vars.specs.declared.Vars.{Vars}
use Rattle.checks.specs.Checks.{check_of}
use Rattle.const_prop.specs.Pass.{propagated_of}

-- the table of a block's variables
abbrev pub table_for : List Stmt → Vars
table_for ss = (named_of (cap_of 48) ss).vars

-- the first pass's walk over a block, or its refusal 8 or 9
abbrev pub walked_of : Block → Marks → Result Block Refusal
walked_of b m = propagated_of (table_for (held b)) m (held b)

-- a checked block is treated
abbrev pub first_by : Result (Unit {0}) Refusal → Block → Marks → Result Block Refusal
first_by (Ok u) b m = walked_of b m
first_by (Err why) b m = Err why

-- the first pass, after the checks with its limits
abbrev pub first_of : Block → Marks → Result Block Refusal
first_of b m = first_by (check_of first_limits b) b m
