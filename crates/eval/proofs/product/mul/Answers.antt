use Rattle.std.proofs.Common.{◌∙◌}
use Rattle.eval.proofs.Products.{both_known}
use Rattle.eval.proofs.product.mul.Goals as goal

pub returns-in-Some-Some : goal.returns-in-Some-Some
returns-in-Some-Some c = rw (← c.get_const.ensures, ← c.get_const-2.ensures, c.in-Some-Some.is-0, c.in-Some-Some.is-1) (c.set_const.ensures ∙ both_known c.args.a.now _ _ _ _ _ c.get_const.ensures c.in-Some-Some.is-0 c.requires.0 c.wrapping_mul.ensures)
