use Rattle.std.proofs.Common.{◌≤◌, sym, ap, ◌∙◌, subst, List, None}
use Rattle.pcode.specs.declared.var.VarId.{VarId}
use Rattle.vars.specs.Vars.{held_ids}
use Rattle.vars.specs.declared.Naming.{Naming}
use Rattle.vars.proofs.Joining.{named_held}
use Rattle.print.specs.Texts.{written}
use Rattle.step.specs.Events.{end_rows}
use Rattle.trace.specs.Words.{trace_words}
use Rattle.run.specs.Run.{run_from, run_of, start_of, Runnable}
use Rattle.run.proofs.Ended.{named_small}
use Rattle.run.proofs.run.named_run.Goals as goal

pub forward-requires : goal.forward-requires
forward-requires c = let p = c.requires in
    let ss = c.args.stmts.now in
    let e = ap (λ (x : Naming). held_ids x.vars) c.named-named.ensures ∙ named_held 112 ss p.1 in
    (p.0, subst (λ (x : Naming). x.vars.count ≤ 112) (sym c.named-named.ensures) (named_small ss p.1), subst (λ (l : List VarId). Runnable l ss) (sym e) p.2, p.3)

pub returns : goal.returns
unfolding run_of
returns c = let a = c.args in
    let ss = a.stmts.now in
    let e = ap (λ (x : Naming). held_ids x.vars) c.named-named.ensures ∙ named_held 112 ss c.requires.1 in (
      c.forward.ensures.0 ∙ ap (λ (l : List VarId). end_rows (run_from l a.answers.now ss None (start_of a.state))) e,
      c.forward.ensures.1 ∙ ap (λ (l : List VarId). written a.trace.now 0 (trace_words a.marks l (run_from l a.answers.now ss None (start_of a.state)))) e,
    )
