use Rattle.std.proofs.Common.{◌∙◌, sym}
use Rattle.concrete.proofs.Signs.{signed_less_lem, less_alike, less_unlike}
use Rattle.concrete.proofs.compare.signed_less.Goals as goal

pub returns-then-x-sign_at : goal.returns-then-x-sign_at
returns-then-x-sign_at c = c.less.ensures ∙ sym (signed_less_lem c.requires _ _ (sym c.sign_at-x.ensures) (sym c.sign_at.ensures) ∙ less_alike _ _ _ c.if-x-sign_at.true)

pub returns-else-x-sign_at : goal.returns-else-x-sign_at
returns-else-x-sign_at c = sym (signed_less_lem c.requires _ _ (sym c.sign_at-x.ensures) (sym c.sign_at.ensures) ∙ less_unlike _ _ _ c.if-x-sign_at.false)
