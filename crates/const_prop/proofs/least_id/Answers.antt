use Rattle.std.proofs.Common.{◌∙◌, get_or, take, sym, ap}
use Rattle.pcode.specs.Block.{blank_stmt}
use Rattle.vars.specs.Vars.{ids_of}
use Rattle.const_prop.specs.Pass.{zero_var, all_ids, least_from}
use Rattle.const_prop.proofs.Least.{ids_none, ids_more, least_append}
use Rattle.const_prop.proofs.least_id.Goals as goal

pub loop-s-init : goal.loop-s-init
loop-s-init c = ids_none zero_var

pub loop-s-preserved : goal.loop-s-preserved
loop-s-preserved c =
    let ss = c.args.stmts.now in
    let i = c.loop-s.s-index in
    let ids = ids_of (get_or ss i blank_stmt) in
    c.least_stmt-least.ensures
    ∙ ap (λ z. least_from z ids) c.loop-s.invariant
    ∙ least_append zero_var (all_ids (take i ss)) ids
    ∙ sym (ap (least_from zero_var) (ids_more ss i c.loop-s-test.true))
