use Rattle.std.proofs.Common.{arith, ◌-◌, refl}
use Rattle.dead_store.specs.Walks.{none_dead}
use Rattle.dead_store.proofs.Walking.{walked_none, walked_more, walked_all, stepped_of_lem}
use Rattle.dead_store.proofs.detector.walk.Goals as goal

pub loop-i-init : goal.loop-i-init
unfolding none_dead
loop-i-init c = λ l persist h r k. walked_none l persist c.args.persists.now c.args.stmts.now _ none_dead refl c.new-tables.result c.new-tables.ensures

pub loop-i-preserved : goal.loop-i-preserved
unfolding none_dead
loop-i-preserved c = λ l persist h r k. (let a = c.args in
    let v = c.loop-i in
    walked_more l persist a.persists.now a.stmts.now _ none_dead refl h k v.i (v.i - 1) v.tables c.step.new.self v.dead c.step.result (omega arith) (omega arith) (omega arith) (v.invariant l persist h r k)
    (stepped_of_lem a.persists.now v.tables c.step.new.self c.step.result refl (r (v.i - 1) (omega arith)) c.step.ensures))

pub returns : goal.returns
returns c = λ l persist h r k. walked_all l persist c.args.persists.now c.args.stmts.now _ none_dead refl _ c.loop-i.tables c.loop-i.dead (omega arith) (c.loop-i.invariant l persist h r k)
