-- The labels that statements branch to. Assumes nothing.
use Rattle.std.proofs.Common.{◌≡◌, ℕ, zero, suc, ◌<◌, ◌||◌, List, [], ◌∷◌, ◌++◌, nat_eq, length, get_or, set, take, drop, refl, ap, arith}
use Rattle.pcode.specs.declared.block.Stmt.{Stmt}
use Rattle.std.specs.List.{list_any}
use Rattle.const_step.specs.Labels.{target_of, targets_of, has_target}

-- a target is among some, by the library's test
pub has_any : (js : List ℕ) (t : ℕ) → list_any (λ y. nat_eq y t) js ≡ has_target js t
unfolding has_target
has_any [] t = refl
has_any (j ∷ js) t = ap (λ b. nat_eq j t || b) (has_any js t)

-- one target more
pub targets_turn : (ss : List Stmt) (out : List ℕ) (i : ℕ) (d : Stmt) → i < length ss → i < length out
    → set (targets_of (take i ss) ++ drop i out) i (target_of (get_or ss i d)) ≡ targets_of (take (suc i) ss) ++ drop (suc i) out
targets_turn [] out i d h k = absurd (omega (arith, h))
targets_turn (s ∷ ss) [] i d h k = absurd (omega (arith, k))
targets_turn (s ∷ ss) (o ∷ out) zero d h k = refl
targets_turn (s ∷ ss) (o ∷ out) (suc i) d h k = ap (λ l. target_of s ∷ l) (targets_turn ss out i d (omega (arith, h)) (omega (arith, k)))
