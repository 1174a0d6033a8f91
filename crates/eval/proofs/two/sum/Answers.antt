use Rattle.eval.proofs.Laws.{fit_self}
use Rattle.std.proofs.Common.{◌∙◌}
use Rattle.bit.specs.Bits.{code_of}
use Rattle.bit.specs.declared.Bit.TheVariants.{Zero}
use Rattle.eval.proofs.two.sum.Goals as goal

pub returns : goal.returns
returns c = rw (c.extend.ensures ∙ fit_self (code_of Zero) _ c.args.a.now c.requires.0) at c.ripple_in.ensures.0
