use Rattle.std.proofs.Common.{ℕ, List, ◌∙◌, ap, arith, rules}
use Rattle.pcode.specs.declared.block.Stmt.{Stmt}
use Rattle.eval.specs.Operand.{bits_of}
use Rattle.const_eval.specs.State.{known_of}
use Rattle.simplify.proofs.Grows.{both_ready, able_le}
use Rattle.simplify.proofs.Floors.{plain_turned, simplify_close}
use Rattle.simplify.proofs.simplify.Goals as goal

pub plain-requires : goal.plain-requires
plain-requires c =
    let a = c.args in
    let x = c.prepare-x in
    let u = known_of x.new.known in
    let r = both_ready a.vars.now a.s (known_of a.known.now) u x.result.stmt c.requires.0 x.ensures.prepared.state (ap (λ (z : Stmt). z.output) x.ensures.prepared.stmt) in
    (r.0, r.1, c.requires.1.value)

pub hook-requires : goal.hook-requires
hook-requires c =
    let a = c.args in
    let x = c.prepare-x in
    let u = known_of x.new.known in
    let r = both_ready a.vars.now a.s (known_of a.known.now) u x.result.stmt c.requires.0 x.ensures.prepared.state (ap (λ (z : Stmt). z.output) x.ensures.prepared.stmt) in
    (able_le 1 2 u (omega arith) r.0, r.1)

pub returns-in-Plain-clause-result_after : goal.returns-in-Plain-clause-result_after
returns-in-Plain-clause-result_after c =
    let a = c.args in
    let x = c.prepare-x in
    let u = known_of x.new.known in
    simplify_close a.vars.now a.turn a.s (known_of a.known.now) u a.ca.now a.cb.now x.new.ca x.new.cb x.result _ x.ensures.prepared
    (c.plain.ensures.result_after ∙ plain_turned a.vars.now (λ (z : List ℕ). bits_of z x.new.ca x.result.first) (λ (z : List ℕ). bits_of z x.new.cb x.result.second) a.turn x.result.stmt u c.in-Plain.is)

pub returns-in-Jump-clause-result_after : goal.returns-in-Jump-clause-result_after
returns-in-Jump-clause-result_after c =
    let a = c.args in
    let x = c.prepare-x in
    let u = known_of x.new.known in
    simplify_close a.vars.now a.turn a.s (known_of a.known.now) u a.ca.now a.cb.now x.new.ca x.new.cb x.result _ x.ensures.prepared (search rules)
