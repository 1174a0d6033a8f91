-- The operations on bits keep agreement.
use Rattle.std.proofs.Common.{◌≡◌, refl, ◌∙◌, ap, Bool, true, false, not, ◌&&◌, ◌||◌, eqb-true, eqb}
use mathlib.Core.Bool.{and_self, or_self, and-false, and-true, or-true, or-false, and-not_self, or-not_self, not-not}
use Rattle.bit.specs.Bits.{kin_signs, kin_tests, kin_of, by_kin, beside, not_e, not_b, and_b, or_b, xor_b, eq_b}
use Rattle.bit.specs.declared.Expr.{Expr}
use Rattle.bit.specs.declared.Kin.{Kin}
use Rattle.bit.specs.declared.Kin.TheVariants.{Same, Opposite, Unrelated}
use Rattle.bit.specs.declared.Bit.{Bit}
use Rattle.bit.specs.declared.Bit.TheVariants.{Zero, One, Unknown, Expr as Sym}
use Rattle.sound.specs.Sound.{Valuation, ◌xor◌, value_e, Agree}

not_xor : (i r : Bool) → not (i xor r) ≡ not i xor r
not_xor true true = refl
not_xor true false = refl
not_xor false true = refl
not_xor false false = refl

pub xor_false : (v : Bool) → v xor false ≡ v
xor_false true = refl
xor_false false = refl

pub xor_true : (v : Bool) → v xor true ≡ not v
xor_true true = refl
xor_true false = refl

xor_self : (v : Bool) → v xor v ≡ false
xor_self true = refl
xor_self false = refl

xor_not : (v : Bool) → v xor not v ≡ true
xor_not true = refl
xor_not false = refl

-- what a kinship says of the two values
abbrev Related : Kin → Bool → Bool → Type 0
Related Same v w = w ≡ v
Related Opposite v w = w ≡ not v
Related Unrelated v w = Unit {0}

signs : (i j r : Bool) → Related (kin_signs i j) (i xor r) (j xor r)
signs true true r = refl
signs true false true = refl
signs true false false = refl
signs false true r = refl
signs false false r = refl

module _ (ρ : Valuation) where
  related : (a b : Expr) → Related (kin_of a b) (value_e ρ a) (value_e ρ b)
  related a b = go (eqb a.id.0 b.id.0) refl (eqb a.offset b.offset) refl
    where
      go : (s : Bool) → eqb a.id.0 b.id.0 ≡ s → (t : Bool) → eqb a.offset b.offset ≡ t
          → Related (kin_tests s t a.invert b.invert) (value_e ρ a) (value_e ρ b)
      go false p t q = tt
      go true p false q = tt
      go true p true q = rw (eqb-true a.id.0 b.id.0 p, eqb-true a.offset b.offset q) (signs a.invert b.invert (ρ b.id.0 b.offset))

  by_kin_lem : (k : Kin) (s p : Bit) (v w r : Bool) → Related k v w → (w ≡ v → Agree ρ s r) → (w ≡ not v → Agree ρ p r) → Agree ρ (by_kin k s p) r
  by_kin_lem Same s p v w r h hs hp = hs h
  by_kin_lem Opposite s p v w r h hs hp = hp h
  by_kin_lem Unrelated s p v w r h hs hp = tt

  by_beside : (y : Bit) (e : Expr) (z o s p : Bit) (w r : Bool) → Agree ρ y w → (w ≡ false → Agree ρ z r) → (w ≡ true → Agree ρ o r)
      → (w ≡ value_e ρ e → Agree ρ s r) → (w ≡ not (value_e ρ e) → Agree ρ p r) → Agree ρ (beside y e z o s p) r
  by_beside Zero e z o s p w r h hz ho hs hp = hz h
  by_beside One e z o s p w r h hz ho hs hp = ho h
  by_beside Unknown e z o s p w r h hz ho hs hp = tt
  by_beside (Sym b) e z o s p w r h hz ho hs hp =
      by_kin_lem (kin_of e b) s p (value_e ρ e) (value_e ρ b) r (related e b) (λ q. hs (h ∙ q)) (λ q. hp (h ∙ q))

  pub sound_not : (x : Bit) (v : Bool) → Agree ρ x v → Agree ρ (not_b x) (not v)
  unfolding not_b
  sound_not Zero v h = ap not h
  sound_not One v h = ap not h
  sound_not Unknown v h = tt
  sound_not (Sym e) v h = ap not h ∙ not_xor e.invert (ρ e.id.0 e.offset)

  pub sound_and : (x y : Bit) (v w : Bool) → Agree ρ x v → Agree ρ y w → Agree ρ (and_b x y) (v && w)
  unfolding and_b
  sound_and Zero y v w h k = rw h
  sound_and One y v w h k = rw h k
  sound_and Unknown Zero v w h k = rw k (and-false v)
  sound_and Unknown One v w h k = tt
  sound_and Unknown Unknown v w h k = tt
  sound_and Unknown (Sym b) v w h k = tt
  sound_and (Sym a) y v w h k =
      by_beside y a Zero (Sym a) (Sym a) Zero w (v && w) k (λ q. rw q (and-false v)) (λ q. rw q (and-true v ∙ h)) (λ q. rw (h, q) (and_self (value_e ρ a))) (λ q. rw (h, q) (and-not_self (value_e ρ a)))

  pub sound_or : (x y : Bit) (v w : Bool) → Agree ρ x v → Agree ρ y w → Agree ρ (or_b x y) (v || w)
  unfolding or_b
  sound_or Zero y v w h k = rw h k
  sound_or One y v w h k = rw h
  sound_or Unknown Zero v w h k = tt
  sound_or Unknown One v w h k = rw k (or-true v)
  sound_or Unknown Unknown v w h k = tt
  sound_or Unknown (Sym b) v w h k = tt
  sound_or (Sym a) y v w h k =
      by_beside y a (Sym a) One (Sym a) One w (v || w) k (λ q. rw q (or-false v ∙ h)) (λ q. rw q (or-true v)) (λ q. rw (h, q) (or_self (value_e ρ a))) (λ q. rw (h, q) (or-not_self (value_e ρ a)))

  pub sound_xor : (x y : Bit) (v w : Bool) → Agree ρ x v → Agree ρ y w → Agree ρ (xor_b x y) (v xor w)
  unfolding xor_b
  sound_xor Zero y v w h k = rw h k
  sound_xor One y v w h k = rw h (sound_not y w k)
  sound_xor Unknown y v w h k = tt
  sound_xor (Sym a) y v w h k =
      by_beside y a (Sym a) (Sym (not_e a)) Zero One w (v xor w) k (λ q. rw q (xor_false v ∙ h))
      (λ q. rw q (xor_true v ∙ ap not h ∙ not_xor a.invert (ρ a.id.0 a.offset))) (λ q. rw (h, q) (xor_self (value_e ρ a))) (λ q. rw (h, q) (xor_not (value_e ρ a)))

  pub sound_eq : (x y : Bit) (v w : Bool) → Agree ρ x v → Agree ρ y w → Agree ρ (eq_b x y) (not (v xor w))
  unfolding eq_b
  sound_eq Zero y v w h k = rw h (sound_not y w k)
  sound_eq One y v w h k = rw (h, not-not w) k
  sound_eq Unknown y v w h k = tt
  sound_eq (Sym a) y v w h k =
      by_beside y a (Sym (not_e a)) (Sym a) One Zero w (not (v xor w)) k (λ q. rw q (ap not (xor_false v ∙ h) ∙ not_xor a.invert (ρ a.id.0 a.offset)))
      (λ q. rw q (ap not (xor_true v) ∙ not-not v ∙ h)) (λ q. rw (h, q) (ap not (xor_self (value_e ρ a)))) (λ q. rw (h, q) (ap not (xor_not (value_e ρ a))))
