-- What a test of ids or labels that passed tells, and a search among a list's ids.
use Rattle.std.proofs.Common.{◌≡◌, refl, sym, ap, ℕ, ℤ, Bool, true, false, List, [], ◌∷◌}
use Rattle.std.specs.List.{list_any}
use Rattle.std.proofs.lemmas.Bool.Decides.{Decides-int_eq, Decides-eqb}
use Rattle.pcode.specs.Var.{same_id, same_label}
use Rattle.pcode.specs.Block.{has_id}
use Rattle.pcode.specs.declared.var.VarId.{VarId}
use Rattle.pcode.specs.declared.var.PcodeLabel.{PcodeLabel}

-- two tests that pass together are the same
pub iff : (x y : Bool) → (x ≡ true → y ≡ true) → (y ≡ true → x ≡ true) → x ≡ y
iff true y f g = sym (f refl)
iff false true f g = g refl
iff false false f g = refl

made : ℤ → VarId
made z = record { 0 = z }

-- a test of ids that passed
pub same_id_true : (a b : VarId) → same_id a b ≡ true → a ≡ b
unfolding made
same_id_true a b e = ap made ((Decides-int_eq a.0 b.0).0 e)

pub same_id_refl : (a : VarId) → same_id a a ≡ true
same_id_refl a = (Decides-int_eq a.0 a.0).1 refl

labelled : ℕ → PcodeLabel
labelled n = record { 0 = n }

pub same_label_true : (a b : PcodeLabel) → same_label a b ≡ true → a ≡ b
unfolding labelled
same_label_true a b e = ap labelled ((Decides-eqb a.0 b.0).0 e)

pub same_label_refl : (a : PcodeLabel) → same_label a a ≡ true
same_label_refl a = (Decides-eqb a.0 a.0).1 refl

-- the library's search is the one of specs/
pub has_id_any : (l : List VarId) (id : VarId) → list_any (λ x. same_id x id) l ≡ has_id l id
unfolding has_id
has_id_any [] id = refl
has_id_any (x ∷ l) id = rw (has_id_any l id)
