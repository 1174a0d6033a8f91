-- Equality of symbolic bits agrees with equality of the numbers.
use Rattle.std.proofs.Common.{ℕ, zero, suc, ◌+◌, ◌*◌, ◌≡◌, refl, sym, ◌∙◌, Bool, true, false, not, ◌&&◌, List, [], ◌∷◌, arith, eqb-true, eq-eqb, ne_eqb, eqb, length}
use mathlib.Core.Bool.{and-false, and-true, and_assoc}
use borrow.Author.Tests.{eqb-false}
use Rattle.bit.specs.Bits.{one_if, eq_b}
use Rattle.bit.specs.declared.Bit.{Bit}
use Rattle.bit.specs.declared.Bit.TheVariants.{Zero, One, Unknown, Expr as Sym}
use Rattle.bit_vec.specs.Lists.{eq_done, eq_step, eq_from, eq_bits}
use Rattle.sound.specs.Sound.{Valuation, ◌xor◌, Agree, Agrees, num}
use Rattle.sound.proofs.Ops.{sound_eq}

-- every place equal
abbrev same_v : List Bool → List Bool → Bool
same_v [] ws = true
same_v (v ∷ vs) [] = true
same_v (v ∷ vs) (w ∷ ws) = not (v xor w) && same_v vs ws

-- what is known after n undecided places with d the last of them, where t says whether all were equal
abbrev SoFar : Valuation → ℕ → Bit → Bool → Type 0
SoFar ρ zero d t = (t ≡ true) × (d ≡ One)
SoFar ρ (suc zero) d t = Agree ρ d t
SoFar ρ (suc (suc n)) d t = Unit {0}

module _ (ρ : Valuation) where
  done : (n : ℕ) (d : Bit) (t : Bool) → SoFar ρ n d t → Agree ρ (eq_done n d) t
  done zero d t h = rw h.1 h.0
  done (suc zero) d t h = h
  done (suc (suc n)) d t h = tt

  -- one more undecided place
  more : (n : ℕ) (d e : Bit) (t s : Bool) → SoFar ρ n d t → Agree ρ e s → SoFar ρ (suc n) e (t && s)
  more zero d e t s h k = rw h.0 k
  more (suc zero) d e t s h k = tt
  more (suc (suc n)) d e t s h k = tt

  step : (e : Bit) (r : ℕ → Bit → Bit) (n : ℕ) (d : Bit) (t s q : Bool) → Agree ρ e s → SoFar ρ n d t
      → ((m : ℕ) (x : Bit) (u : Bool) → SoFar ρ m x u → Agree ρ (r m x) (u && q)) → Agree ρ (eq_step e r n d) (t && (s && q))
  step Zero r n d t s q h k f = rw h (and-false t)
  step One r n d t s q h k f = rw h (f n d t k)
  step Unknown r n d t s q h k f = rw (← and_assoc t s q) (f (suc n) Unknown (t && s) (more n d Unknown t s k h))
  step (Sym x) r n d t s q h k f = rw (← and_assoc t s q) (f (suc n) (Sym x) (t && s) (more n d (Sym x) t s k h))

  sound_from : (xs ys : List Bit) (vs ws : List Bool) → Agrees ρ xs vs → Agrees ρ ys ws → (n : ℕ) (d : Bit) (t : Bool) → SoFar ρ n d t
      → Agree ρ (eq_from xs ys n d) (t && same_v vs ws)
  sound_from [] ys [] ws hx hy n d t h = rw (and-true t) (done n d t h)
  sound_from [] ys (v ∷ vs) ws hx hy n d t h = absurd hx
  sound_from (x ∷ xs) ys [] ws hx hy n d t h = absurd hx
  sound_from (x ∷ xs) [] (v ∷ vs) [] hx hy n d t h = rw (and-true t) (done n d t h)
  sound_from (x ∷ xs) [] (v ∷ vs) (w ∷ ws) hx hy n d t h = absurd hy
  sound_from (x ∷ xs) (y ∷ ys) (v ∷ vs) [] hx hy n d t h = absurd hy
  sound_from (x ∷ xs) (y ∷ ys) (v ∷ vs) (w ∷ ws) hx hy n d t h =
      step (eq_b x y) (eq_from xs ys) n d t (not (v xor w)) (same_v vs ws) (sound_eq ρ x y v w hx.0 hy.0) h
      (sound_from xs ys vs ws hx.1 hy.1)

tests : (a b c d : ℕ) → (a ≡ b → c ≡ d) → (c ≡ d → a ≡ b) → eqb a b ≡ eqb c d
tests a b c d f g = go (eqb a b) refl
  where
    go : (s : Bool) → eqb a b ≡ s → eqb a b ≡ eqb c d
    go true p = p ∙ sym (eq-eqb c d (f (eqb-true a b p)))
    go false p = p ∙ sym (ne_eqb c d (λ q. eqb-false a b p (g q)))

same_head : (v w : Bool) (a b : ℕ) (s : Bool) → s ≡ eqb a b → (not (v xor w) && s) ≡ eqb (one_if v + 2 * a) (one_if w + 2 * b)
same_head true true a b s h = h ∙ tests a b (1 + 2 * a) (1 + 2 * b) (λ q. omega arith) (λ q. omega arith)
same_head true false a b s h = sym (ne_eqb (1 + 2 * a) (0 + 2 * b) (λ q. omega arith))
same_head false true a b s h = sym (ne_eqb (0 + 2 * a) (1 + 2 * b) (λ q. omega arith))
same_head false false a b s h = h ∙ tests a b (0 + 2 * a) (0 + 2 * b) (λ q. omega arith) (λ q. omega arith)

same_num : (vs ws : List Bool) → length vs ≡ length ws → same_v vs ws ≡ eqb (num vs) (num ws)
same_num [] [] e = refl
same_num [] (w ∷ ws) e = absurd (omega (arith, e))
same_num (v ∷ vs) [] e = absurd (omega (arith, e))
same_num (v ∷ vs) (w ∷ ws) e = same_head v w (num vs) (num ws) (same_v vs ws) (same_num vs ws (omega arith))

pub sound_equal : (ρ : Valuation) (xs ys : List Bit) (vs ws : List Bool) → Agrees ρ xs vs → Agrees ρ ys ws → length vs ≡ length ws
    → Agree ρ (eq_bits xs ys) (eqb (num vs) (num ws))
sound_equal ρ xs ys vs ws hx hy e = rw (← same_num vs ws e) (sound_from ρ xs ys vs ws hx hy 0 One true (refl, refl))
