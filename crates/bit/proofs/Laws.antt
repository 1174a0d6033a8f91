-- The laws of the operations, over all four cases. Assumes nothing.
use Rattle.std.proofs.Common.{ℕ, ◌≡◌, refl, sym, ◌∙◌, ap, Bool, true, false, not, eq-eqb, ne_eqb, eqb-true, eqb}
use borrow.Author.Tests.{eqb-false}
use Rattle.bit.specs.Bits.{kin_signs, kin_tests, kin_of, by_kin, not_e, not_b, and_b, or_b, xor_b, eq_b}
use Rattle.bit.specs.declared.Expr.{Expr}
use Rattle.bit.specs.declared.Kin.{Kin}
use Rattle.bit.specs.declared.Kin.TheVariants.{Same, Opposite, Unrelated}
use Rattle.bit.specs.declared.Bit.{Bit}
use Rattle.bit.specs.declared.Bit.TheVariants.{Zero, One, Unknown, Expr as Sym}

-- kinship
eqb_comm : (m n : ℕ) → eqb m n ≡ eqb n m
eqb_comm m n = go (eqb m n) refl
  where
    go : (t : Bool) → eqb m n ≡ t → eqb m n ≡ eqb n m
    go true p = p ∙ sym (eq-eqb n m (sym (eqb-true m n p)))
    go false p = p ∙ sym (ne_eqb n m (λ q. eqb-false m n p (sym q)))

signs_comm : (i j : Bool) → kin_signs i j ≡ kin_signs j i
signs_comm true true = refl
signs_comm true false = refl
signs_comm false true = refl
signs_comm false false = refl

signs_not : (i j : Bool) → kin_signs (not i) (not j) ≡ kin_signs i j
signs_not true true = refl
signs_not true false = refl
signs_not false true = refl
signs_not false false = refl

twice_not : (i : Bool) → not (not i) ≡ i
twice_not true = refl
twice_not false = refl

tests_map : (s t i j k l : Bool) → kin_signs i j ≡ kin_signs k l → kin_tests s t i j ≡ kin_tests s t k l
tests_map false t i j k l h = refl
tests_map true false i j k l h = refl
tests_map true true i j k l h = h

pub kin_comm : (a b : Expr) → kin_of a b ≡ kin_of b a
kin_comm a b = rw (eqb_comm a.id.0 b.id.0, eqb_comm a.offset b.offset) (tests_map (eqb b.id.0 a.id.0) (eqb b.offset a.offset) a.invert b.invert b.invert a.invert (signs_comm a.invert b.invert))

pub kin_not : (a b : Expr) → kin_of (not_e a) (not_e b) ≡ kin_of a b
kin_not a b = tests_map (eqb a.id.0 b.id.0) (eqb a.offset b.offset) (not a.invert) (not b.invert) a.invert b.invert (signs_not a.invert b.invert)

kin_self : (a : Expr) → kin_of a a ≡ Same
kin_self a = rw (eq-eqb a.id.0 a.id.0 refl, eq-eqb a.offset a.offset refl) (go a.invert)
  where
    go : (i : Bool) → kin_signs i i ≡ Same
    go true = refl
    go false = refl

-- the same expression is equal
abbrev SameIs : Kin → Expr → Expr → Type 0
SameIs Same a b = a ≡ b
SameIs Opposite a b = Unit {0}
SameIs Unrelated a b = Unit {0}

signs_same : (i j : Bool) (a b : Expr) → a.invert ≡ i → b.invert ≡ j → a.id.0 ≡ b.id.0 → a.offset ≡ b.offset → SameIs (kin_signs i j) a b
signs_same true true a b p q r s = λ t. record { id = record { 0 = r t }; offset = s t; invert = (p ∙ sym q) t }
signs_same true false a b p q r s = tt
signs_same false true a b p q r s = tt
signs_same false false a b p q r s = λ t. record { id = record { 0 = r t }; offset = s t; invert = (p ∙ sym q) t }

pub same_is : (a b : Expr) → SameIs (kin_of a b) a b
same_is a b = go (eqb a.id.0 b.id.0) refl (eqb a.offset b.offset) refl
  where
    go : (s : Bool) → eqb a.id.0 b.id.0 ≡ s → (t : Bool) → eqb a.offset b.offset ≡ t → SameIs (kin_tests s t a.invert b.invert) a b
    go false p t q = tt
    go true p false q = tt
    go true p true q = signs_same a.invert b.invert a b refl refl (eqb-true _ _ p) (eqb-true _ _ q)

same_either : (k : Kin) (a b : Expr) (o : Bit) → SameIs k a b → by_kin k (Sym a) o ≡ by_kin k (Sym b) o
same_either Same a b o h = ap Sym h
same_either Opposite a b o h = refl
same_either Unrelated a b o h = refl

not_kin : (k : Kin) (s o : Bit) → not_b (by_kin k s o) ≡ by_kin k (not_b s) (not_b o)
unfolding not_b
not_kin Same s o = refl
not_kin Opposite s o = refl
not_kin Unrelated s o = refl

-- conjunction, disjunction and exclusive or commute
pub and_comm : (x y : Bit) → and_b x y ≡ and_b y x
unfolding and_b
and_comm Zero Zero = refl
and_comm Zero One = refl
and_comm Zero Unknown = refl
and_comm Zero (Sym b) = refl
and_comm One Zero = refl
and_comm One One = refl
and_comm One Unknown = refl
and_comm One (Sym b) = refl
and_comm Unknown Zero = refl
and_comm Unknown One = refl
and_comm Unknown Unknown = refl
and_comm Unknown (Sym b) = refl
and_comm (Sym a) Zero = refl
and_comm (Sym a) One = refl
and_comm (Sym a) Unknown = refl
and_comm (Sym a) (Sym b) = rw (kin_comm b a) (same_either (kin_of a b) a b Zero (same_is a b))

pub xor_comm : (x y : Bit) → xor_b x y ≡ xor_b y x
unfolding xor_b not_b
xor_comm Zero Zero = refl
xor_comm Zero One = refl
xor_comm Zero Unknown = refl
xor_comm Zero (Sym b) = refl
xor_comm One Zero = refl
xor_comm One One = refl
xor_comm One Unknown = refl
xor_comm One (Sym b) = refl
xor_comm Unknown Zero = refl
xor_comm Unknown One = refl
xor_comm Unknown Unknown = refl
xor_comm Unknown (Sym b) = refl
xor_comm (Sym a) Zero = refl
xor_comm (Sym a) One = refl
xor_comm (Sym a) Unknown = refl
xor_comm (Sym a) (Sym b) = ap (λ (k : Kin). by_kin k Zero One) (kin_comm a b)

-- not twice, and De Morgan
not_not_E : (e : Expr) → not_e (not_e e) ≡ e
not_not_E e = λ t. record { id = e.id; offset = e.offset; invert = twice_not e.invert t }

pub not_not : (x : Bit) → not_b (not_b x) ≡ x
unfolding not_b
not_not Zero = refl
not_not One = refl
not_not Unknown = refl
not_not (Sym e) = ap Sym (not_not_E e)

pub not_and : (x y : Bit) → not_b (and_b x y) ≡ or_b (not_b x) (not_b y)
unfolding not_b and_b or_b
not_and Zero y = refl
not_and One y = refl
not_and Unknown Zero = refl
not_and Unknown One = refl
not_and Unknown Unknown = refl
not_and Unknown (Sym b) = refl
not_and (Sym a) Zero = refl
not_and (Sym a) One = refl
not_and (Sym a) Unknown = refl
not_and (Sym a) (Sym b) = not_kin (kin_of a b) (Sym a) Zero ∙ ap (λ (k : Kin). by_kin k (Sym (not_e a)) One) (sym (kin_not a b))

-- equality is the inverse of exclusive or
pub eq_not_xor : (x y : Bit) → eq_b x y ≡ not_b (xor_b x y)
unfolding eq_b not_b xor_b
eq_not_xor Zero y = refl
eq_not_xor One y = sym (not_not y)
eq_not_xor Unknown y = refl
eq_not_xor (Sym a) Zero = refl
eq_not_xor (Sym a) One = sym (ap Sym (not_not_E a))
eq_not_xor (Sym a) Unknown = refl
eq_not_xor (Sym a) (Sym b) = sym (not_kin (kin_of a b) Zero One)

-- a bit with itself: case (2), unknown with unknown, stays unknown
pub and_self : (x : Bit) → and_b x x ≡ x
unfolding and_b
and_self Zero = refl
and_self One = refl
and_self Unknown = refl
and_self (Sym a) = ap (λ (k : Kin). by_kin k (Sym a) Zero) (kin_self a)

-- disjunction is the dual of conjunction, so its laws follow
pub or_dual : (x y : Bit) → or_b x y ≡ not_b (and_b (not_b x) (not_b y))
or_dual x y = sym (not_and (not_b x) (not_b y) ∙ rw (not_not x, not_not y))

pub or_comm : (x y : Bit) → or_b x y ≡ or_b y x
or_comm x y = or_dual x y ∙ ap not_b (and_comm (not_b x) (not_b y)) ∙ sym (or_dual y x)

pub not_or : (x y : Bit) → not_b (or_b x y) ≡ and_b (not_b x) (not_b y)
not_or x y = ap not_b (or_dual x y) ∙ not_not _

pub or_self : (x : Bit) → or_b x x ≡ x
or_self x = or_dual x x ∙ ap not_b (and_self (not_b x)) ∙ not_not x
