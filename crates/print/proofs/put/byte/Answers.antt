use Rattle.print.proofs.Writes.{one}
use Rattle.print.proofs.put.byte.Goals as goal

pub returns : goal.returns
returns c = one c.args.out.now c.args.at c.args.b c.requires
