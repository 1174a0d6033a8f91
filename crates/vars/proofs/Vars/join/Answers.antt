use Rattle.std.proofs.Common.{arith}
use Rattle.vars.proofs.Joining.{join_there, join_full, join_more}
use Rattle.vars.proofs.Vars.join.Goals as goal

pub returns-then-row-n : goal.returns-then-row-n
returns-then-row-n c = join_there c.args.most c.args.self.now c.requires c.args.id (omega (arith, c.row.ensures))

pub returns-then-most-n : goal.returns-then-most-n
returns-then-most-n c = join_full c.args.most c.args.self.now c.requires c.args.id (omega (arith, c.row.ensures)) c.if-most-n.true

pub returns : goal.returns
returns c = join_more c.args.most c.args.self.now c.requires c.args.id (omega (arith, c.row.ensures)) c.if-most-n.false
