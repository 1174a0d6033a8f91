use Rattle.print.proofs.Writes.{one}
use Rattle.trace.proofs.word.Goals as goal

pub returns : goal.returns
returns c = one c.args.trace.now c.args.at c.args.x c.requires
