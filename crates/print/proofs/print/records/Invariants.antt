use Rattle.std.proofs.Common.{◌*◌, take}
use Rattle.print.specs.Texts.{Wrote}
use Rattle.print.specs.Printing.{printed}
use Rattle.print.proofs.print.records.Given as goal

abbrev pub invariant-loop-s : goal.invariant-loop-s
invariant-loop-s l = Wrote (106 * l.s-index) l.initial.out 0 (printed (take l.s-index l.stmts)) l.out l.at
