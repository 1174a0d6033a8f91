use Rattle.std.proofs.Common.{◌≡◌, ◌+◌, drop}
use Rattle.vars.specs.Vars.{row_of}
use Rattle.vars.proofs.Vars.row.Given as goal

abbrev pub invariant-loop-i : goal.invariant-loop-i
invariant-loop-i l = row_of l.ids l.id ≡ l.i + row_of (drop l.i l.ids) l.id
