use Rattle.eval.proofs.Laws.{fit_self}
use Rattle.std.proofs.Common.{◌∙◌, eqb-true}
use Rattle.bit.specs.Bits.{code_of}
use Rattle.bit.specs.declared.Bit.TheVariants.{Zero}
use Rattle.eval.proofs.one.eval_one.Goals as goal

pub returns-in-Copy : goal.returns-in-Copy
returns-in-Copy c = rw c.in-Copy.is (c.extend.ensures ∙ fit_self (code_of Zero) _ c.args.a.now (eqb-true _ _ (rw c.in-Copy.is at c.requires)))
