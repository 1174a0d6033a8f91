use Rattle.std.proofs.Common.{arith, ◌≡◌, refl, sym, ap, take}
use Rattle.std.proofs.lemmas.List.{take_all}
use Rattle.pcode.specs.Block.{blank_stmt, blank_stmts}
use Rattle.dead_store.specs.Stays.{without}
use Rattle.dead_store.proofs.Sifting.{sifted_none, sifted_not, sifted_put, blanks_length}
use Rattle.dead_store.proofs.eliminate.squeeze.Goals as goal

pub loop-i-init : goal.loop-i-init
loop-i-init c = rw c.new-out.ensures (sifted_none c.args.dead.now c.args.stmts.now blank_stmts blank_stmt blank_stmts refl)

pub loop-i-preserved-then-dead-i : goal.loop-i-preserved-then-dead-i
loop-i-preserved-then-dead-i c = let a = c.args in
    let v = c.loop-i in
    sifted_not a.dead.now a.stmts.now blank_stmts blank_stmt v.i v.out.count v.out.stmts (omega arith) (omega arith) v.invariant c.if-dead-i.true

pub loop-i-preserved : goal.loop-i-preserved
loop-i-preserved c = let a = c.args in
    let v = c.loop-i in
    sifted_put a.dead.now a.stmts.now blank_stmts blank_stmt v.i v.out.count v.out.stmts (omega arith) (omega arith) v.invariant _ refl (omega (arith, v.invariant.small, blanks_length)) c.if-dead-i.false

pub returns : goal.returns
returns c = let a = c.args in
    let v = c.loop-i in
    let f : take v.i a.stmts.now ≡ a.stmts.now = take_all v.i a.stmts.now (omega arith) in
    let s = v.invariant in
    rw (sym (ap (without a.dead.now) f)) (rw (s.body, s.count))
