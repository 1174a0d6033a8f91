-- What the two kinds of branches come to.
use Rattle.std.specs.Prelude.{ℕ, zero, suc, Option, Some, None}
use Rattle.pcode.specs.declared.var.PcodeLabel.{PcodeLabel}
use Rattle.pcode.specs.declared.block.Stmt.{Stmt}
use Rattle.widen.specs.declared.simple.Simple.{Simple}
use Rattle.widen.specs.declared.simple.Simple.TheVariants.{Dropped, Skips, Stays}

-- a `PcodeBranch` with known 0 is dropped, with known 1 skips ahead; other constants are undecided
abbrev pub jump_of : Option ℕ → PcodeLabel → Stmt → Simple
jump_of (Some zero) l st = Dropped
jump_of (Some (suc zero)) l st = Skips l
jump_of (Some (suc (suc k))) l st = Stays st
jump_of None l st = Stays st

-- `Branch` with known 0 is dropped
abbrev pub exit_of : Option ℕ → Stmt → Simple
exit_of (Some zero) st = Dropped
exit_of (Some (suc k)) st = Stays st
exit_of None st = Stays st
