-- 01's eight cases hold, for every expression. Assumes nothing.
use Rattle.std.proofs.Common.{◌≡◌, Bool, true, false, not, refl, ap, eq-eqb}
use Rattle.bit.specs.Bits.{kin_signs, kin_of, by_kin, not_e, not_b, and_b, or_b, xor_b, eq_b}
use Rattle.bit.specs.declared.Expr.{Expr}
use Rattle.bit.specs.declared.Kin.{Kin}
use Rattle.bit.specs.declared.Kin.TheVariants.{Opposite}
use Rattle.bit.specs.declared.Bit.TheVariants.{Zero, Expr as Sym}
use Rattle.eval.specs.Eval.{done}
use Rattle.eval.specs.Cases.{Cases, flag}

opposites : (e : Expr) → kin_of e (not_e e) ≡ Opposite
opposites e = rw (eq-eqb e.id.0 e.id.0 refl, eq-eqb e.offset e.offset refl) (go e.invert)
  where
    go : (i : Bool) → kin_signs i (not i) ≡ Opposite
    go true = refl
    go false = refl

pub cases : (e : Expr) → Cases e
unfolding not_b and_b or_b xor_b eq_b
cases e =
    record {
      opposite = ap (λ (k : Kin). done (flag (by_kin k (Sym e) Zero))) (opposites e);
      unknowns = refl;
      least_signed = refl;
      equals_one = refl;
      equals_zero = refl;
      shifted_out = refl;
      shifted_some = refl;
      too_wide = refl;
      rotated = refl;
    }
