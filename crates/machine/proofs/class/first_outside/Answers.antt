use Rattle.std.proofs.Common.{arith, ◌≡◌, sym, ◌∙◌, length}
use Rattle.pcode.specs.Block.{blank_stmt}
use Rattle.machine.proofs.Outside.{end, found, passed}
use Rattle.machine.proofs.class.first_outside.Goals as goal

pub returns-then-is_outside : goal.returns-then-is_outside
returns-then-is_outside c = let a = c.args in
    sym (c.loop-i.invariant ∙ found a.class a.stmts.now c.loop-i.i blank_stmt (omega arith) (sym c.is_outside.ensures ∙ c.if-is_outside.true))

pub loop-i-preserved : goal.loop-i-preserved
loop-i-preserved c = let a = c.args in
    c.loop-i.invariant ∙ passed a.class a.stmts.now c.loop-i.i blank_stmt (omega arith) (sym c.is_outside.ensures ∙ c.if-is_outside.false)

pub returns : goal.returns
returns c = let a = c.args in
    let q : c.loop-i.i ≡ length a.stmts.now = omega arith in
    sym (c.loop-i.invariant ∙ end a.class a.stmts.now c.loop-i.i (omega arith) ∙ q)
