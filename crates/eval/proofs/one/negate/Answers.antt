use Rattle.eval.proofs.Laws.{bits_zero}
use Rattle.std.proofs.Common.{length}
use Rattle.eval.proofs.one.negate.Goals as goal

pub returns : goal.returns
returns c = rw (c.fill.ensures, bits_zero (length c.args.out.now)) at c.ripple_in.ensures.0
