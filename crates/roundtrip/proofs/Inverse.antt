-- What a reading that went well tells of its steps.
use Rattle.std.proofs.Common.{◌≡◌, refl, Bool, true, false, Option, None, Some}
use Rattle.pcode.specs.Var.{pick}
use Rattle.fields.specs.Decimals.{on_value}

-- what is bad is no value
pub bad_good : {B : Type 0} (v : B) → ◌≡◌ {A = Option B} None (Some v) → ⊥
bad_good v e = cc

module _ {A : Type 0} (bad r : A) (no : bad ≡ r → ⊥) where
  -- a test that passed
  pub passed : (t : Bool) (x : A) → pick t x bad ≡ r → (t ≡ true) × (x ≡ r)
  passed true x e = (refl, e)
  passed false x e = absurd (no e)

  -- a test for what is bad
  pub not_bad : (t : Bool) (x : A) → pick t bad x ≡ r → (t ≡ false) × (x ≡ r)
  not_bad true x e = absurd (no e)
  not_bad false x e = (refl, e)

  -- a value that was read
  pub on_value_lem : {B : Type 0} (p : Option B) (good : B → A) → on_value p bad good ≡ r → (v : B) × (p ≡ Some v) × (good v ≡ r)
  on_value_lem None good e = absurd (no e)
  on_value_lem (Some v) good e = (v, refl, e)
