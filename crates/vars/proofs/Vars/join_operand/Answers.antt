use Rattle.vars.specs.Vars.{join_ids}
use Rattle.vars.proofs.Joining.{join_none}
use Rattle.vars.proofs.Vars.join_operand.Goals as goal

pub returns-in-None : goal.returns-in-None
returns-in-None c = rw (c.in-None.is) (join_none c.args.most c.args.self.now c.requires)

pub returns-in-Const : goal.returns-in-Const
returns-in-Const c = rw (c.in-Const.is) (join_none c.args.most c.args.self.now c.requires)

pub returns-in-Var : goal.returns-in-Var
unfolding join_ids
returns-in-Var c = rw (c.in-Var.is) c.join.ensures
