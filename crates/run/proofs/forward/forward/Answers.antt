use Rattle.std.proofs.Common.{arith, refl, get_or}
use Rattle.pcode.specs.Block.{blank_stmt}
use Rattle.wide.specs.Value.{value_of}
use Rattle.vars.specs.Vars.{held_ids}
use Rattle.run.proofs.Bytes.{shaped}
use Rattle.run.proofs.Going.{given_of, going_none, going_past, going_on, going_rows, going_words}
use Rattle.run.proofs.forward.forward.Goals as goal

pub loop-s-init : goal.loop-s-init
loop-s-init c = let a = c.args in
    going_none (given_of a.marks (held_ids a.vars.now) a.answers.now a.stmts.now a.start a.trace.now) (shaped a.start _ c.well_formed.1.1.1.0)

pub loop-s-preserved-in-Some : goal.loop-s-preserved-in-Some
loop-s-preserved-in-Some c = let a = c.args in
    let l = c.loop-s in
    going_past (given_of a.marks (held_ids a.vars.now) a.answers.now a.stmts.now a.start a.trace.now) l.s-index (omega arith) (get_or a.stmts.now l.s-index blank_stmt) _ refl c.in-Some.is c.arrive-flow.ensures l.invariant

pub after-next-requires : goal.after-next-requires
after-next-requires c = let l = c.loop-s in
    (omega (arith, c.requires.0, l.invariant.few), c.requires.2 l.s-index (omega arith) l.state l.invariant.shape.bytes)

pub loop-s-preserved : goal.loop-s-preserved
loop-s-preserved c = let a = c.args in
    let l = c.loop-s in
    let r = c.requires.2 l.s-index (omega arith) l.state l.invariant.shape.bytes in
    going_on (given_of a.marks (held_ids a.vars.now) a.answers.now a.stmts.now a.start a.trace.now) l.s-index (omega arith) (get_or a.stmts.now l.s-index blank_stmt)
    c.act_of-act.result (value_of c.value-a.result) (value_of c.value-b.result) (omega (arith, c.requires.0, c.requires.3)) r.output
    refl c.in_default.is c.act_of-act.ensures c.value-a.ensures c.value-b.ensures c.after-next.ensures c.loads_after-loads.ensures c.flow_of-flow.ensures c.event-at.ensures l.invariant

pub returns : goal.returns
returns c = let a = c.args in
    let l = c.loop-s in
    let g = given_of a.marks (held_ids a.vars.now) a.answers.now a.stmts.now a.start a.trace.now in
    (going_rows g l.s-index (omega arith) l.invariant, going_words g l.s-index (omega arith) (omega (arith, c.requires.0, c.requires.3)) l.invariant c.shown.ensures)
