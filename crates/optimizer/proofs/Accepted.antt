-- What the checks accept, the second pass may be asked to treat.
use Rattle.std.proofs.Common.{◌≡◌, Ok}
use Rattle.pcode.specs.Block.{second_limits}
use Rattle.pcode.specs.declared.block.Block.{Block}
use Rattle.checks.specs.Checks.{check_of}
use Rattle.checks.proofs.Passing.{passing}
use Rattle.dead_store.specs.Stays.{Ready}

pub ready : (b : Block) → check_of second_limits b ≡ Ok tt → Ready b
ready b e = let p = passing second_limits b e in record { stmts = p.stmts; vars = p.vars }
