-- Both passes: the second on what the first leaves.
use Rattle.std.specs.Prelude.{Result, Ok, Err}
use Rattle.pcode.specs.declared.block.Block.{Block}
use Rattle.pcode.specs.declared.block.Marks.{Marks}
use Rattle.pcode.specs.declared.refusal.Refusal.{Refusal}
use Rattle.optimizer.specs.First.{first_of}
use Rattle.optimizer.specs.Second.{second_of}

-- the second pass on what the first left
abbrev pub both_by : Result Block Refusal → Marks → Result Block Refusal
both_by (Ok between) m = second_of between m
both_by (Err why) m = Err why

-- the one pass after the other
abbrev pub both_of : Block → Marks → Result Block Refusal
both_of b m = both_by (first_of b m) m
