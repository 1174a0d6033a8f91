use Rattle.std.proofs.Common.{arith, sym, ap, ◌∙◌, Bool, [], ◌∷◌}
use Rattle.pcode.specs.Var.{pick}
use Rattle.wide.specs.Value.{value_of}
use Rattle.vars.specs.Vars.{held_ids}
use Rattle.print.proofs.Writes.{then, none, retold}
use Rattle.step.specs.Events.{Taken}
use Rattle.trace.specs.Words.{trace_words}
use Rattle.trace.proofs.Words.{no_words, exit_words}
use Rattle.trace.proofs.exit.Goals as goal

pub returns-then-same : goal.returns-then-same
unfolding value_of
returns-then-same c = let x = c.args in
    retold
    (no_words x.marks (held_ids x.vars.now)
    ∙ sym (ap (λ (t : Bool). trace_words x.marks (held_ids x.vars.now) (pick t [] (Taken x.n (value_of x.a) (value_of x.b) x.state ∷ []))) (sym c.same.ensures ∙ c.if-same.true)))
    (omega arith) (none x.trace.now x.at)

pub returns : goal.returns
unfolding value_of
returns c = let x = c.args in
    retold
    (exit_words x.marks (held_ids x.vars.now) x.n (value_of x.a) (value_of x.b) x.state
    ∙ sym (ap (λ (t : Bool). trace_words x.marks (held_ids x.vars.now) (pick t [] (Taken x.n (value_of x.a) (value_of x.b) x.state ∷ []))) (sym c.same.ensures ∙ c.if-same.false)))
    (omega arith) (then {k = 6} {l = 224} (omega arith) c.access-p.ensures c.lasting.ensures)
