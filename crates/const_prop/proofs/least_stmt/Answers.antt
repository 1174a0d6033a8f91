use Rattle.pcode.specs.Var.{as_operand}
use Rattle.vars.specs.Vars.{ids_in}
use Rattle.const_prop.proofs.Least.{least_three}
use Rattle.const_prop.proofs.least_stmt.Goals as goal

pub returns : goal.returns
returns c = let s = c.args.s in let e = least_three c.args.least (ids_in (as_operand s.output)) (ids_in s.first) (ids_in s.second) in cc
