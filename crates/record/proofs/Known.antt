-- What a call on a part tells of the part's own definition.
use Rattle.std.proofs.Common.{◌≡◌, sym, ap, ◌∙◌}

-- a call of f on x gave r, which is z; x is y
pub known : {A B : Type 0} (f : A → B) {x y : A} {r z : B} → x ≡ y → r ≡ f x → r ≡ z → f y ≡ z
known f p q e = ap f (sym p) ∙ sym q ∙ e
