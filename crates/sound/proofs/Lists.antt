-- What carries bits about keeps agreement, and so does a walk over two lists.
use Rattle.std.proofs.Common.{ℕ, zero, suc, ◌/◌, ◌%◌, ◌≡◌, refl, ap, Bool, true, false, not, List, [], ◌∷◌, ◌++◌, map, arith, eqb, length, take, drop, get_or, replicate}
use Rattle.bit.specs.Bits.{not_b, pick}
use Rattle.bit.specs.declared.Bit.{Bit}
use Rattle.bit.specs.declared.Bit.TheVariants.{Zero, One, Unknown}
use Rattle.bit_vec.specs.Lists.{scan, scanned}
use Rattle.bit_vec.specs.Moves.{fit, last_of, truth, digits}
use Rattle.meaning.specs.Meaning.{one_if}
use Rattle.sound.specs.Sound.{Valuation, Agree, Agrees, low}
use Rattle.sound.proofs.Ops.{sound_not}

-- two lists of truth values walked together with a state: what is put at each place, and the last state
abbrev pub walk : {S : Type 0} → (S → Bool → Bool → Bool) → (S → Bool → Bool → S) → S → List Bool → List Bool → List Bool
walk f g s [] ws = []
walk f g s (v ∷ vs) [] = []
walk f g s (v ∷ vs) (w ∷ ws) = f s v w ∷ walk f g (g s v w) vs ws

abbrev pub walked : {S : Type 0} → (S → Bool → Bool → S) → S → List Bool → List Bool → S
walked g s [] ws = s
walked g s (v ∷ vs) [] = s
walked g s (v ∷ vs) (w ∷ ws) = walked g (g s v w) vs ws

pub length_walk : {S : Type 0} (f : S → Bool → Bool → Bool) (g : S → Bool → Bool → S) (s : S) (vs ws : List Bool) → length vs ≡ length ws → length (walk f g s vs ws) ≡ length vs
length_walk f g s [] ws e = refl
length_walk f g s (v ∷ vs) [] e = absurd (omega (arith, e))
length_walk f g s (v ∷ vs) (w ∷ ws) e = ap suc (length_walk f g (g s v w) vs ws (omega arith))

module _ (ρ : Valuation) where
  pub same_length : (xs : List Bit) (vs : List Bool) → Agrees ρ xs vs → length xs ≡ length vs
  same_length [] [] h = refl
  same_length [] (v ∷ vs) h = absurd h
  same_length (x ∷ xs) [] h = absurd h
  same_length (x ∷ xs) (v ∷ vs) h = ap suc (same_length xs vs h.1)

  pub filled : (n : ℕ) (z : Bit) (u : Bool) → Agree ρ z u → Agrees ρ (replicate n z) (replicate n u)
  filled zero z u h = tt
  filled (suc n) z u h = (h, filled n z u h)

  pub zeros : (n : ℕ) → Agrees ρ (replicate n Zero) (low n 0)
  zeros zero = tt
  zeros (suc n) = (refl, zeros n)

  pub unknowns : (n : ℕ) (zs : List Bool) → length zs ≡ n → Agrees ρ (replicate n Unknown) zs
  unknowns zero [] e = tt
  unknowns zero (z ∷ zs) e = absurd (omega (arith, e))
  unknowns (suc n) [] e = absurd (omega (arith, e))
  unknowns (suc n) (z ∷ zs) e = (tt, unknowns n zs (omega arith))

  pub append : (xs ys : List Bit) (vs ws : List Bool) → Agrees ρ xs vs → Agrees ρ ys ws → Agrees ρ (xs ++ ys) (vs ++ ws)
  append [] ys [] ws h k = k
  append [] ys (v ∷ vs) ws h k = absurd h
  append (x ∷ xs) ys [] ws h k = absurd h
  append (x ∷ xs) ys (v ∷ vs) ws h k = (h.0, append xs ys vs ws h.1 k)

  pub taken : (n : ℕ) (xs : List Bit) (vs : List Bool) → Agrees ρ xs vs → Agrees ρ (take n xs) (take n vs)
  taken zero xs vs h = tt
  taken (suc n) [] [] h = tt
  taken (suc n) [] (v ∷ vs) h = absurd h
  taken (suc n) (x ∷ xs) [] h = absurd h
  taken (suc n) (x ∷ xs) (v ∷ vs) h = (h.0, taken n xs vs h.1)

  pub dropped : (n : ℕ) (xs : List Bit) (vs : List Bool) → Agrees ρ xs vs → Agrees ρ (drop n xs) (drop n vs)
  dropped zero xs vs h = h
  dropped (suc n) [] [] h = tt
  dropped (suc n) [] (v ∷ vs) h = absurd h
  dropped (suc n) (x ∷ xs) [] h = absurd h
  dropped (suc n) (x ∷ xs) (v ∷ vs) h = dropped n xs vs h.1

  pub fitted : (z : Bit) (u : Bool) (n : ℕ) (xs : List Bit) (vs : List Bool) → Agree ρ z u → Agrees ρ xs vs → Agrees ρ (fit z n xs) (fit u n vs)
  fitted z u zero xs vs k h = tt
  fitted z u (suc n) [] [] k h = (k, fitted z u n [] [] k h)
  fitted z u (suc n) [] (v ∷ vs) k h = absurd h
  fitted z u (suc n) (x ∷ xs) [] k h = absurd h
  fitted z u (suc n) (x ∷ xs) (v ∷ vs) k h = (h.0, fitted z u n xs vs k h.1)

  pub last : (z : Bit) (u : Bool) (xs : List Bit) (vs : List Bool) → Agree ρ z u → Agrees ρ xs vs → Agree ρ (last_of z xs) (last_of u vs)
  last z u [] [] k h = k
  last z u [] (v ∷ vs) k h = absurd h
  last z u (x ∷ xs) [] k h = absurd h
  last z u (x ∷ xs) (v ∷ vs) k h = last x v xs vs h.0 h.1

  pub first : (xs : List Bit) (vs : List Bool) → Agrees ρ xs vs → Agree ρ (get_or xs 0 Zero) (get_or vs 0 false)
  first [] [] h = refl
  first [] (v ∷ vs) h = absurd h
  first (x ∷ xs) [] h = absurd h
  first (x ∷ xs) (v ∷ vs) h = h.0

  pub flipped : (xs : List Bit) (vs : List Bool) → Agrees ρ xs vs → Agrees ρ (map not_b xs) (map not vs)
  flipped [] [] h = tt
  flipped [] (v ∷ vs) h = absurd h
  flipped (x ∷ xs) [] h = absurd h
  flipped (x ∷ xs) (v ∷ vs) h = (sound_not ρ x v h.0, flipped xs vs h.1)

  -- a truth value: bit 0, the rest zero
  pub sound_truth : (n : ℕ) (b : Bit) (t : Bool) → Agree ρ b t → Agrees ρ (truth n b) (low n (one_if t))
  sound_truth zero b t h = tt
  sound_truth (suc n) b true h = (h, zeros n)
  sound_truth (suc n) b false h = (h, zeros n)

  -- a number's bits
  sound_digit : (v : ℕ) (t : Bool) → Agree ρ (pick t One Zero) t
  sound_digit v true = refl
  sound_digit v false = refl

  pub sound_digits : (n v : ℕ) → Agrees ρ (digits n v) (low n v)
  sound_digits zero v = tt
  sound_digits (suc n) v = (sound_digit v (eqb (v % 2) 1), sound_digits n (v / 2))

  -- a walk agrees, with states that are related by R
  module _ {S T : Type 0} (R : S → T → Type 0) (g : S → Bit → Bit → S) (q : T → Bool → Bool → T)
      (hg : (s : S) (t : T) (x y : Bit) (v w : Bool) → R s t → Agree ρ x v → Agree ρ y w → R (g s x y) (q t v w)) where
    pub sound_scan : (f : S → Bit → Bit → Bit) (p : T → Bool → Bool → Bool)
        → ((s : S) (t : T) (x y : Bit) (v w : Bool) → R s t → Agree ρ x v → Agree ρ y w → Agree ρ (f s x y) (p t v w))
        → (s : S) (t : T) (xs ys : List Bit) (vs ws : List Bool) → R s t → Agrees ρ xs vs → Agrees ρ ys ws → Agrees ρ (scan f g s xs ys) (walk p q t vs ws)
    sound_scan f p hf s t [] ys [] ws r hx hy = tt
    sound_scan f p hf s t [] ys (v ∷ vs) ws r hx hy = absurd hx
    sound_scan f p hf s t (x ∷ xs) ys [] ws r hx hy = absurd hx
    sound_scan f p hf s t (x ∷ xs) [] (v ∷ vs) [] r hx hy = tt
    sound_scan f p hf s t (x ∷ xs) [] (v ∷ vs) (w ∷ ws) r hx hy = absurd hy
    sound_scan f p hf s t (x ∷ xs) (y ∷ ys) (v ∷ vs) [] r hx hy = absurd hy
    sound_scan f p hf s t (x ∷ xs) (y ∷ ys) (v ∷ vs) (w ∷ ws) r hx hy =
        (hf s t x y v w r hx.0 hy.0, sound_scan f p hf (g s x y) (q t v w) xs ys vs ws (hg s t x y v w r hx.0 hy.0) hx.1 hy.1)

    pub sound_scanned : (s : S) (t : T) (xs ys : List Bit) (vs ws : List Bool) → R s t → Agrees ρ xs vs → Agrees ρ ys ws → R (scanned g s xs ys) (walked q t vs ws)
    sound_scanned s t [] ys [] ws r hx hy = r
    sound_scanned s t [] ys (v ∷ vs) ws r hx hy = absurd hx
    sound_scanned s t (x ∷ xs) ys [] ws r hx hy = absurd hx
    sound_scanned s t (x ∷ xs) [] (v ∷ vs) [] r hx hy = r
    sound_scanned s t (x ∷ xs) [] (v ∷ vs) (w ∷ ws) r hx hy = absurd hy
    sound_scanned s t (x ∷ xs) (y ∷ ys) (v ∷ vs) [] r hx hy = absurd hy
    sound_scanned s t (x ∷ xs) (y ∷ ys) (v ∷ vs) (w ∷ ws) r hx hy =
        sound_scanned (g s x y) (q t v w) xs ys vs ws (hg s t x y v w r hx.0 hy.0) hx.1 hy.1
