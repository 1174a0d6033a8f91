use Rattle.std.proofs.Common.{rules, inl, inr, sym, ap}
use Rattle.pcode.specs.declared.var.Operand.{Operand}
use Rattle.vars.specs.Vars.{ids_in}
use Rattle.const_prop.specs.Pass.{least_from}
use Rattle.const_prop.proofs.least_operand.Goals as goal

pub returns-in-None : goal.returns-in-None
unfolding least_from
returns-in-None c =
    let f = λ (z : Operand). least_from c.args.least (ids_in z) in
    elim c.in-None.is [ inl e ↦ sym (ap f e) | inr w ↦ sym (ap f w.2) ]

pub returns-in-Var : goal.returns-in-Var
unfolding least_from
returns-in-Var c = search rules
