use Rattle.std.proofs.Common.{◌∙◌, sym}
use Rattle.concrete.proofs.Signs.{signed_borrow, borrow_unlike, borrow_alike}
use Rattle.concrete.proofs.compare.signed_borrow.Goals as goal

pub returns-then-x-sign_at : goal.returns-then-x-sign_at
returns-then-x-sign_at c =
    rw (c.sign_at-then-x-sign_at.ensures, c.sub_at.ensures)
    (sym (signed_borrow c.requires _ _ (sym c.sign_at-x.ensures) (sym c.sign_at.ensures) ∙ borrow_unlike _ _ _ c.if-x-sign_at.true))

pub returns-else-x-sign_at : goal.returns-else-x-sign_at
returns-else-x-sign_at c = c.if-x-sign_at.false ∙ sym (signed_borrow c.requires _ _ (sym c.sign_at-x.ensures) (sym c.sign_at.ensures) ∙ borrow_alike _ _ _ c.if-x-sign_at.false)
