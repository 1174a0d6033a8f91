use Rattle.std.proofs.Common.{◌∙◌, sym}
use Rattle.concrete.proofs.Signs.{signed_carry, carry_alike, carry_unlike}
use Rattle.concrete.proofs.compare.signed_carry.Goals as goal

pub returns-then-x-sign_at : goal.returns-then-x-sign_at
returns-then-x-sign_at c =
    rw (c.sign_at-then-x-sign_at.ensures, c.add_at.ensures)
    (sym (signed_carry c.requires _ _ (sym c.sign_at-x.ensures) (sym c.sign_at.ensures) ∙ carry_alike _ _ _ c.if-x-sign_at.true))

pub returns-else-x-sign_at : goal.returns-else-x-sign_at
returns-else-x-sign_at c = c.if-x-sign_at.false ∙ sym (signed_carry c.requires _ _ (sym c.sign_at-x.ensures) (sym c.sign_at.ensures) ∙ carry_unlike _ _ _ c.if-x-sign_at.false)
