use Rattle.pcode.specs.Block.{blank_stmt, blank_stmts}
use Rattle.dead_store.proofs.Sifting.{Sifted}
use Rattle.dead_store.proofs.eliminate.squeeze.Given as goal

abbrev pub invariant-loop-i : goal.invariant-loop-i
invariant-loop-i l = Sifted l.dead l.stmts blank_stmts blank_stmt l.i l.out.count l.out.stmts
