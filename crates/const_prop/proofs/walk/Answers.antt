use Rattle.std.proofs.Common.{◌+◌, length, drop, get_or, refl, subst, sym, ap, ◌∙◌, arith, Err, None}
use Rattle.pcode.specs.Block.{blank_stmt}
use Rattle.pcode.specs.declared.var.VarId.{VarId}
use Rattle.pcode.specs.declared.block.Block.{Block}
use Rattle.pcode.specs.declared.refusal.Refusal.{Refusal}
use Rattle.vars.specs.Vars.{ids_of}
use Rattle.const_eval.specs.State.{known_of}
use Rattle.const_prop.specs.Pass.{Env, least_from}
use Rattle.const_prop.proofs.Lists.{drop_targets}
use Rattle.const_prop.proofs.Walks.{Going, going_start, going_apt, step_is, going_refused, going_on, going_end, going_two, sets_length}
use Rattle.const_prop.proofs.walk.Goals as goal

pub loop-i-init : goal.loop-i-init
loop-i-init c =
    let a = c.args in
    let env : Env = record { vars = a.vars.now; temp = a.temp.now; block = a.stmts.now } in
    let g = going_start env (length a.stmts.now) _ _ _ _ a.jumps.now c.requires.state refl c.least_id-least.ensures refl in
    (subst (λ (b : Block). Going env (length a.stmts.now) 0 b.count (known_of a.known.now) None c.least_id-least.result b.stmts a.jumps.now) (sym c.new-result.ensures) g, c.requires.rows, refl)

pub returns-in-Err : goal.returns-in-Err
returns-in-Err c =
    let a = c.args in
    let ss = a.stmts.now in
    let env : Env = record { vars = a.vars.now; temp = a.temp.now; block = ss } in
    let v = c.loop-i in
    let x = c.advance-x in
    let s = known_of v.known in
    let u = known_of x.new.known in
    let st = get_or ss v.i blank_stmt in
    let e = step_is env (length ss) v.i v.result.count s v.skip v.least v.result.stmts v.jumps _ st (record { state = u; made = x.result }) v.invariant.0 (ap (drop (v.i + 1)) c.requires.targets ∙ drop_targets (v.i + 1) ss) x.ensures.result_after in
    ap (λ (r : Refusal). Err r) c.refusal.ensures
    ∙ going_refused env (length ss) v.i v.result.count s v.skip v.least v.result.stmts v.jumps v.invariant.0 c.loop-i-test.true refl u x.result st refl e c.in-Err.why c.in-Err.is

pub add-requires : goal.add-requires
add-requires c =
    let a = c.args in
    let ss = a.stmts.now in
    let env : Env = record { vars = a.vars.now; temp = a.temp.now; block = ss } in
    let v = c.loop-i in
    let x = c.advance-x in
    let s = known_of v.known in
    let u = known_of x.new.known in
    let st = get_or ss v.i blank_stmt in
    let e = step_is env (length ss) v.i v.result.count s v.skip v.least v.result.stmts v.jumps _ st (record { state = u; made = x.result }) v.invariant.0 (ap (drop (v.i + 1)) c.requires.targets ∙ drop_targets (v.i + 1) ss) x.ensures.result_after in
    let two = going_two env (length ss) v.i v.result.count s v.skip v.least v.result.stmts v.jumps v.invariant.0 c.loop-i-test.true refl u x.result st refl e c.in-Ok.made c.in-Ok.is in
    record { room = (omega (arith, v.invariant.0.small, c.requires.stands.few), omega (arith, v.invariant.0.small, c.requires.stands.few, c.requires.jumps_room, v.invariant.2)); small = two }

pub loop-i-preserved : goal.loop-i-preserved
loop-i-preserved c =
    let a = c.args in
    let ss = a.stmts.now in
    let env : Env = record { vars = a.vars.now; temp = a.temp.now; block = ss } in
    let v = c.loop-i in
    let g = v.invariant.0 in
    let x = c.advance-x in
    let m = c.in-Ok.made in
    let s = known_of v.known in
    let u = known_of x.new.known in
    let st = get_or ss v.i blank_stmt in
    let e = step_is env (length ss) v.i v.result.count s v.skip v.least v.result.stmts v.jumps _ st (record { state = u; made = x.result }) g (ap (drop (v.i + 1)) c.requires.targets ∙ drop_targets (v.i + 1) ss) x.ensures.result_after in
    let apt = going_apt env (length ss) v.i v.result.count s v.skip v.least v.result.stmts v.jumps st g c.loop-i-test.true c.requires.stands.few (c.requires.stands.parts v.i c.loop-i-test.true) in
    let el = c.least_stmt-least.ensures ∙ ap (λ (z : VarId). least_from z (ids_of m.second)) c.least_stmt.ensures in (
      subst (λ (b : Block). Going env (length ss) (v.i + 1) b.count u m.skip c.least_stmt-least.result b.stmts c.add.new.jumps) (sym c.add.ensures.result_after)
          (going_on env (length ss) v.i v.result.count s v.skip v.least v.result.stmts v.jumps g c.loop-i-test.true refl u x.result st refl e m c.in-Ok.is c.least_stmt-least.result c.add.new.jumps apt c.requires.stands.few (omega (arith, g.small, c.requires.stands.few, c.requires.jumps_room, v.invariant.2)) el c.add.ensures.jumps_after),
      x.ensures.rows,
      sets_length v.jumps _ _ _ _ _ c.add.ensures.jumps_after ∙ v.invariant.2,
    )

pub returns : goal.returns
returns c =
    let a = c.args in
    let env : Env = record { vars = a.vars.now; temp = a.temp.now; block = a.stmts.now } in
    let v = c.loop-i in
    going_end env (length a.stmts.now) v.i v.result.count (known_of v.known) v.skip v.least v.result.stmts v.jumps c.end-last.result v.invariant.0 c.loop-i-test.false refl c.requires.stands.few c.end-last.ensures
