-- What the second pass's entry answers.
use Rattle.std.specs.Prelude.{Result, Ok, Err}
use Rattle.pcode.specs.Block.{held, second_limits}
use Rattle.pcode.specs.declared.block.Block.{Block}
use Rattle.pcode.specs.declared.block.Marks.{Marks}
use Rattle.pcode.specs.declared.refusal.Refusal.{Refusal}
use Rattle.checks.specs.Checks.{check_of}
use Rattle.dead_store.specs.Stays.{block_of, eliminated}

-- a checked block is treated
abbrev pub second_by : Result (Unit {0}) Refusal → Block → Marks → Result Block Refusal
second_by (Ok u) b m = Ok (block_of (eliminated m (held b)))
second_by (Err why) b m = Err why

-- the second pass, after the checks with its limits
abbrev pub second_of : Block → Marks → Result Block Refusal
second_of b m = second_by (check_of second_limits b) b m
