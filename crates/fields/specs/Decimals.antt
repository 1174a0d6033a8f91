-- Decimals: digits without leading zeros, up to a limit.
use Rattle.std.specs.Prelude.{ℕ, ◌+◌, ◌*◌, ◌-◌, List, [], ◌∷◌, Option, Some, None, eqb, leb, ltb}
use Rattle.pcode.specs.Var.{pick}

-- a value with one digit more, where it stays within the limit
unfoldable pub step_of : ℕ → ℕ → ℕ → Option ℕ
step_of limit v b =
    pick (ltb b 48) None
    (pick (ltb 57 b) None
    (pick (leb (10 * v + (b - 48)) limit) (Some (10 * v + (b - 48))) None))

-- what follows a value that was read, or did not come about
abbrev pub on_value {ℓ} : {A : Type ℓ} {B : Type 0} → Option B → A → (B → A) → A
on_value None bad good = bad
on_value (Some v) bad good = good v

-- the value of the digits that follow a value v
unfoldable pub digits_of : ℕ → ℕ → List ℕ → Option ℕ
digits_of limit v [] = Some v
digits_of limit v (b ∷ s) = on_value (step_of limit v b) None (λ w. digits_of limit w s)

-- decimal, no leading zeros: at least one digit, and at most the limit
unfoldable pub decimal_of : ℕ → List ℕ → Option ℕ
decimal_of limit [] = None
decimal_of limit (b ∷ []) = digits_of limit 0 (b ∷ [])
decimal_of limit (b ∷ c ∷ s) = pick (eqb b 48) None (digits_of limit 0 (b ∷ c ∷ s))
