-- Shifts by a symbolic amount agree with the shifts of numbers: the amount's constant and its least value, then the moves.
use Rattle.std.proofs.Common.{ℕ, zero, suc, ◌+◌, ◌*◌, ◌-◌, ◌/◌, ◌%◌, ◌^◌, ◌≤◌, ◌<◌, ◌≡◌, refl, sym, ◌∙◌, ap, ap₂, Bool, true, false, not, List, [], ◌∷◌, ◌++◌, map, append_assoc, append-nil, mul-div_cancel, mul-zero, mul_comm, add-zero, zero-add, arith, leb-true, leb-false, leb, pow_pos, length, take, drop, replicate, length-drop, take-take, drop-drop, Option, Some, None}
use mathlib.Core.List.{map-append}
use native.Mathlib.Nat.{mod-le, mul-mod_left}
use lib.Pow.{mod-pow-add}
use lib.ListN.{length-replicate, length-map, replicate-append-replicate}
use lib.Seq.{take-append-add, drop-append-le}
use Rattle.bit.specs.Bits.{one_if, pick}
use Rattle.bit.specs.declared.Bit.{Bit}
use Rattle.bit.specs.declared.Bit.TheVariants.{Zero, One, Unknown, Expr as Sym}
use Rattle.bit_vec.specs.Known.{cons_k, const_from, const_of, one_of, least, shift_by, shift_of, left_of, right_of}
use Rattle.bit_vec.specs.Moves.{up, down, last_of}
use Rattle.bit_vec.proofs.Shifted.{const_least}
use Rattle.bit_vec.proofs.Moved.{fit_cut}
use Rattle.bit_vec.proofs.Lengths.{length_up, length_down}
use Rattle.pcode.specs.Var.{pick as choose}
use Rattle.meaning.specs.Meaning.{sign, shift_left, shift_right}
use Rattle.sound.specs.Sound.{Valuation, Agree, Agrees, num, low}
use Rattle.sound.proofs.Numbers.{num_false, num_append, num_drop, num_flip, num_low, low_fit, low_num, sign_last}
use Rattle.sound.proofs.Lists.{same_length, filled, unknowns, append, taken, dropped, last}

-- a constant, where it is known, is k
abbrev pub ConstIs : Option ℕ → ℕ → Type 0
ConstIs (Some n) k = n ≡ k
ConstIs None k = Unit {0}

module _ (ρ : Valuation) where
  one_le : (x : Bit) (v : Bool) → Agree ρ x v → one_of x ≤ one_if v
  one_le Zero v h = omega arith
  one_le One v h = rw h (omega arith)
  one_le Unknown v h = omega arith
  one_le (Sym e) v h = omega arith

  -- the least amount is not above the amount
  pub least_le : (xs : List Bit) (vs : List Bool) → Agrees ρ xs vs → least xs ≤ num vs
  least_le [] [] h = omega arith
  least_le [] (v ∷ vs) h = absurd h
  least_le (x ∷ xs) [] h = absurd h
  least_le (x ∷ xs) (v ∷ vs) h =
      let m : least (x ∷ xs) ≤ 2 * least xs + one_of x = mod-le (2 * least xs + one_of x) (2 ^ 64) in
      omega (arith, least_le xs vs h.1, one_le x v h.0)

  const_cons : (x : Bit) (v : Bool) (c : Option ℕ) (k : ℕ) → Agree ρ x v → ConstIs c k → ConstIs (cons_k x c) (one_if v + 2 * k)
  const_cons Zero v (Some n) k h e = rw h (omega arith)
  const_cons Zero v None k h e = tt
  const_cons One v (Some n) k h e = rw h (omega arith)
  const_cons One v None k h e = tt
  const_cons Unknown v c k h e = tt
  const_cons (Sym x) v c k h e = tt

  const_from_lem : (xs : List Bit) (vs : List Bool) → Agrees ρ xs vs → ConstIs (const_from xs) (num vs)
  const_from_lem [] [] h = refl
  const_from_lem [] (v ∷ vs) h = absurd h
  const_from_lem (x ∷ xs) [] h = absurd h
  const_from_lem (x ∷ xs) (v ∷ vs) h = const_cons x v (const_from xs) (num vs) h.0 (const_from_lem xs vs h.1)

  pub const_num : (xs : List Bit) (vs : List Bool) → Agrees ρ xs vs → ConstIs (const_of xs) (num vs)
  const_num xs vs h = go (leb (length xs) 64)
    where
      go : (t : Bool) → ConstIs (pick t (const_from xs) None) (num vs)
      go true = const_from_lem xs vs h
      go false = tt

-- a shift by k of truth values: by the length or more, all u
abbrev shift_v : (ℕ → List Bool → List Bool) → Bool → ℕ → List Bool → List Bool
shift_v move u k vs = pick (leb (length vs) k) (replicate (length vs) u) (move k vs)

-- a move in two steps is one
up_up : {A : Type 0} (z : A) (m j : ℕ) (xs : List A) → m + j ≤ length xs → up z m (up z j xs) ≡ up z (m + j) xs
up_up z m j xs h =
    let n : length (up z j xs) ≡ length xs = length_up z j xs (omega arith) in
    let q : length xs - m ≡ length (replicate j z) + (length xs - (m + j)) = omega (arith, length-replicate j z) in
    let t : take (length (up z j xs) - m) (up z j xs) ≡ replicate j z ++ take (length xs - (m + j)) xs =
    ap (λ (k : ℕ). take (k - m) (up z j xs)) n ∙ ap (λ (k : ℕ). take k (up z j xs)) q
    ∙ take-append-add (replicate j z) (take (length xs - j) xs) (length xs - (m + j)) ∙ ap (λ l. replicate j z ++ l) (take-take (length xs - (m + j)) (length xs - j) xs (omega arith)) in
    ap (λ l. replicate m z ++ l) t ∙ sym (append_assoc (replicate m z) (replicate j z) (take (length xs - (m + j)) xs))
    ∙ ap (λ l. l ++ take (length xs - (m + j)) xs) (replicate-append-replicate m j z)

down_down : {A : Type 0} (z : A) (m j : ℕ) (xs : List A) → m + j ≤ length xs → down z m (down z j xs) ≡ down z (m + j) xs
down_down z m j xs h =
    let l : m ≤ length (drop j xs) = omega (arith, length-drop j xs) in
    let c : j + m ≡ m + j = omega arith in
    ap (λ r. r ++ replicate m z) (drop-append-le m (drop j xs) (replicate j z) l ∙ ap (λ r. r ++ replicate j z) (drop-drop m j xs))
    ∙ append_assoc (drop (j + m) xs) (replicate j z) (replicate m z)
    ∙ ap₂ (λ (k : ℕ) r. drop k xs ++ r) c (replicate-append-replicate j m z ∙ ap (λ (k : ℕ). replicate k z) c)

-- moves by at most the length: on bits and on truth values, u coming in
record Mover (ρ : Valuation) (move : ℕ → List Bit → List Bit) (shift : ℕ → List Bool → List Bool) (u : Bool) : Type 0 where
  moves : (k : ℕ) (xs : List Bit) (vs : List Bool) → Agrees ρ xs vs → Agrees ρ (move k xs) (shift k vs)
  keeps : (k : ℕ) (vs : List Bool) → k ≤ length vs → length (shift k vs) ≡ length vs
  twofold : (m j : ℕ) (vs : List Bool) → m + j ≤ length vs → shift m (shift j vs) ≡ shift (m + j) vs
  full : (vs : List Bool) → shift (length vs) vs ≡ replicate (length vs) u

pub up_agrees : (ρ : Valuation) (k : ℕ) (xs : List Bit) (vs : List Bool) → Agrees ρ xs vs → Agrees ρ (up Zero k xs) (up false k vs)
up_agrees ρ k xs vs h =
    rw (same_length ρ xs vs h)
    (append ρ (replicate k Zero) (take (length vs - k) xs) (replicate k false) (take (length vs - k) vs) (filled ρ k Zero false refl) (taken ρ (length vs - k) xs vs h))

up_mover : (ρ : Valuation) → Mover ρ (up Zero) (up false) false
up_mover ρ = record {
  moves = up_agrees ρ;
  keeps = λ k vs h. length_up false k vs h;
  twofold = λ m j vs h. up_up false m j vs h;
  full = λ vs. let z : length vs - length vs ≡ 0 = omega arith in rw z (append-nil (replicate (length vs) false));
}

gone : {A : Type 0} (vs : List A) → drop (length vs) vs ≡ []
gone [] = refl
gone (v ∷ vs) = gone vs

down_mover : (ρ : Valuation) (z : Bit) (u : Bool) → Agree ρ z u → Mover ρ (down z) (down u) u
down_mover ρ z u a = record {
  moves = λ k xs vs h. append ρ (drop k xs) (replicate k z) (drop k vs) (replicate k u) (dropped ρ k xs vs h) (filled ρ k z u a);
  keeps = λ k vs h. length_down u k vs h;
  twofold = λ m j vs h. down_down u m j vs h;
  full = λ vs. ap (λ l. l ++ replicate (length vs) u) (gone vs);
}

-- a shift by a symbolic amount agrees
module _ (ρ : Valuation) (move : ℕ → List Bit → List Bit) (shift : ℕ → List Bool → List Bool) (z : Bit) (u : Bool) (hz : Agree ρ z u) (M : Mover ρ move shift u)
    (xs sh : List Bit) (vs ws : List Bool) (hx : Agrees ρ xs vs) (hs : Agrees ρ sh ws) where
  -- m of the k places that are moved in are known
  partly : (m k : ℕ) → m ≤ k → k ≤ length vs → Agrees ρ (move m (replicate (length xs) Unknown)) (shift k vs)
  partly m k h l =
      let q : m + (k - m) ≡ k = omega arith in
      let e : length (shift (k - m) vs) ≡ length xs = M.keeps (k - m) vs (omega arith) ∙ sym (same_length ρ xs vs hx) in
      rw (ap (λ (n : ℕ). shift n vs) (sym q) ∙ sym (M.twofold m (k - m) vs (omega arith)))
      (M.moves m (replicate (length xs) Unknown) (shift (k - m) vs) (unknowns ρ (length xs) (shift (k - m) vs) e))

  below : (c : Option ℕ) → c ≡ const_of sh → ConstIs c (num ws) → least sh < length xs → (t : Bool) → leb (length vs) (num ws) ≡ t
      → Agrees ρ (shift_by move Unknown c (least sh) xs) (pick t (replicate (length vs) u) (shift (num ws) vs))
  below (Some k) q i l true p =
      let f : k ≡ least sh = const_least sh k (sym q) in
      absurd (omega (arith, leb-true (length vs) (num ws) p, same_length ρ xs vs hx))
  below (Some k) q i l false p = rw (← i) (M.moves k xs vs hx)
  below None q i l true p =
      rw (← M.full vs) (partly (least sh) (length vs) (omega (arith, same_length ρ xs vs hx)) (omega arith))
  below None q i l false p =
      let g : num ws < length vs = leb-false (length vs) (num ws) p in
      partly (least sh) (num ws) (least_le ρ sh ws hs) (omega arith)

  sound_shift : Agrees ρ (shift_of move z Unknown xs sh) (shift_v shift u (num ws) vs)
  sound_shift = go (leb (length xs) (least sh)) refl (leb (length vs) (num ws)) refl
    where
      go : (s : Bool) → leb (length xs) (least sh) ≡ s → (t : Bool) → leb (length vs) (num ws) ≡ t
          → Agrees ρ (pick s (replicate (length xs) z) (shift_by move Unknown (const_of sh) (least sh) xs)) (pick t (replicate (length vs) u) (shift (num ws) vs))
      go true p true q = rw (same_length ρ xs vs hx) (filled ρ (length vs) z u hz)
      go true p false q =
          let g : length xs ≤ least sh = leb-true (length xs) (least sh) p in
          let k : num ws < length vs = leb-false (length vs) (num ws) q in
          absurd (omega (arith, least_le ρ sh ws hs, same_length ρ xs vs hx))
      go false p t q = below (const_of sh) refl (const_num ρ sh ws hs) (leb-false (length xs) (least sh) p) t q

-- a shift keeps the length
length_shift : (shift : ℕ → List Bool → List Bool) (u : Bool) (k : ℕ) (vs : List Bool) → (k ≤ length vs → length (shift k vs) ≡ length vs) → length (shift_v shift u k vs) ≡ length vs
length_shift shift u k vs h = go (leb (length vs) k) refl
  where
    go : (t : Bool) → leb (length vs) k ≡ t → length (pick t (replicate (length vs) u) (shift k vs)) ≡ length vs
    go true p = length-replicate (length vs) u
    go false p = let l : k < length vs = leb-false (length vs) k p in h (omega arith)

-- up is a product, down a quotient, by a power of two
pub num_up : (k : ℕ) (vs : List Bool) → k ≤ length vs → num (up false k vs) ≡ (num vs * 2 ^ k) % 2 ^ length vs
num_up k vs h =
    let q : length vs ≡ (length vs - k) + k = omega arith in
    let t : num (take (length vs - k) vs) ≡ num vs % 2 ^ (length vs - k) =
    ap num (sym (fit_cut false (length vs - k) vs (omega arith)) ∙ sym (low_fit (length vs - k) vs)) ∙ num_low (length vs - k) (num vs) in
    let l : num (up false k vs) ≡ (num vs % 2 ^ (length vs - k)) * 2 ^ k =
    num_append (replicate k false) (take (length vs - k) vs) ∙ ap₂ (λ (a b : ℕ). a + b) (num_false k) (ap₂ (λ (a b : ℕ). 2 ^ a * b) (length-replicate k false) t)
    ∙ zero-add (2 ^ k * (num vs % 2 ^ (length vs - k))) ∙ mul_comm (2 ^ k) (num vs % 2 ^ (length vs - k)) in
    let r : (num vs * 2 ^ k) % 2 ^ ((length vs - k) + k) ≡ (num vs % 2 ^ (length vs - k)) * 2 ^ k =
    mod-pow-add (num vs * 2 ^ k) (length vs - k) k
    ∙ ap₂ (λ (a b : ℕ). (a % 2 ^ (length vs - k)) * 2 ^ k + b) (mul-div_cancel (num vs) (pow_pos k)) (mul-mod_left (num vs) (2 ^ k)) ∙ add-zero ((num vs % 2 ^ (length vs - k)) * 2 ^ k) in
    l ∙ sym r ∙ ap (λ (n : ℕ). (num vs * 2 ^ k) % 2 ^ n) (sym q)

num_down : (k : ℕ) (vs : List Bool) → num (down false k vs) ≡ num vs / 2 ^ k
num_down k vs =
    num_append (drop k vs) (replicate k false) ∙ ap (λ (n : ℕ). num (drop k vs) + 2 ^ length (drop k vs) * n) (num_false k)
    ∙ ap (λ (n : ℕ). num (drop k vs) + n) (mul-zero (2 ^ length (drop k vs))) ∙ add-zero (num (drop k vs)) ∙ num_drop k vs

num_left : (k : ℕ) (vs : List Bool) → shift_left (length vs) (num vs) k ≡ num (shift_v (up false) false k vs)
num_left k vs = go (leb (length vs) k) refl
  where
    go : (t : Bool) → leb (length vs) k ≡ t → choose t 0 ((num vs * 2 ^ k) % 2 ^ length vs) ≡ num (pick t (replicate (length vs) false) (up false k vs))
    go true p = sym (num_false (length vs))
    go false p = let l : k < length vs = leb-false (length vs) k p in sym (num_up k vs (omega arith))

num_right : (k : ℕ) (vs : List Bool) → shift_right (length vs) (num vs) k ≡ num (shift_v (down false) false k vs)
num_right k vs = go (leb (length vs) k)
  where
    go : (t : Bool) → choose t 0 (num vs / 2 ^ k) ≡ num (pick t (replicate (length vs) false) (down false k vs))
    go true = sym (num_false (length vs))
    go false = sym (num_down k vs)

-- a right shift with true coming in flips the bits, shifts, and flips them back
not_not : (vs : List Bool) → map not (map not vs) ≡ vs
not_not [] = refl
not_not (true ∷ vs) = ap (λ (l : List Bool). true ∷ l) (not_not vs)
not_not (false ∷ vs) = ap (λ (l : List Bool). false ∷ l) (not_not vs)

not_drop : (k : ℕ) (vs : List Bool) → map not (drop k (map not vs)) ≡ drop k vs
not_drop zero vs = not_not vs
not_drop (suc k) [] = refl
not_drop (suc k) (v ∷ vs) = not_drop k vs

not_false : (k : ℕ) → map not (replicate k false) ≡ replicate k true
not_false zero = refl
not_false (suc k) = ap (λ (l : List Bool). true ∷ l) (not_false k)

not_shift : (k : ℕ) (vs : List Bool) → shift_v (down true) true k vs ≡ map not (shift_v (down false) false k (map not vs))
not_shift k vs =
    ap (λ (n : ℕ). pick (leb n k) (replicate n true) (down true k vs)) (sym (length-map vs not)) ∙ go (length (map not vs)) (leb (length (map not vs)) k)
  where
    go : (n : ℕ) (t : Bool) → pick t (replicate n true) (down true k vs) ≡ map not (pick t (replicate n false) (down false k (map not vs)))
    go n true = sym (not_false n)
    go n false = sym (map-append not (drop k (map not vs)) (replicate k false) ∙ ap₂ (λ (a b : List Bool). a ++ b) (not_drop k vs) (not_false k))

num_signed : (k : ℕ) (vs : List Bool) → 2 ^ length vs - 1 - shift_right (length vs) (2 ^ length vs - 1 - num vs) k ≡ num (shift_v (down true) true k vs)
num_signed k vs =
    let n : length (map not vs) ≡ length vs = length-map vs not in
    let l : length (shift_v (down false) false k (map not vs)) ≡ length vs = length_shift (down false) false k (map not vs) (length_down false k (map not vs)) ∙ n in
    let r : shift_right (length vs) (2 ^ length vs - 1 - num vs) k ≡ num (shift_v (down false) false k (map not vs)) =
    ap₂ (λ (a b : ℕ). shift_right a b k) (sym n) (sym (num_flip vs)) ∙ num_right k (map not vs) in
    ap₂ (λ (a b : ℕ). 2 ^ a - 1 - b) (sym l) r ∙ sym (num_flip (shift_v (down false) false k (map not vs))) ∙ ap num (sym (not_shift k vs))

module _ (ρ : Valuation) (xs sh : List Bit) (vs ws : List Bool) (hx : Agrees ρ xs vs) (hs : Agrees ρ sh ws) where
  pub sound_left : Agrees ρ (left_of Zero Unknown xs sh) (low (length vs) (shift_left (length vs) (num vs) (num ws)))
  sound_left =
      rw (low_num (length vs) (shift_left (length vs) (num vs) (num ws)) (shift_v (up false) false (num ws) vs) (length_shift (up false) false (num ws) vs (length_up false (num ws) vs)) (num_left (num ws) vs))
      (sound_shift ρ (up Zero) (up false) Zero false refl (up_mover ρ) xs sh vs ws hx hs)

  -- down, with u coming in, where k is its number
  right : (z : Bit) (u : Bool) → Agree ρ z u → (k : ℕ) → k ≡ num (shift_v (down u) u (num ws) vs) → Agrees ρ (right_of z Unknown xs sh) (low (length vs) k)
  right z u h k e =
      rw (low_num (length vs) k (shift_v (down u) u (num ws) vs) (length_shift (down u) u (num ws) vs (length_down u (num ws) vs)) e)
      (sound_shift ρ (down z) (down u) z u h (down_mover ρ z u h) xs sh vs ws hx hs)

  pub sound_right : Agrees ρ (right_of Zero Unknown xs sh) (low (length vs) (shift_right (length vs) (num vs) (num ws)))
  sound_right = right Zero false refl (shift_right (length vs) (num vs) (num ws)) (num_right (num ws) vs)

  pub sound_signed_right : Agrees ρ (right_of (last_of Zero xs) Unknown xs sh)
      (low (length vs) (choose (sign (length vs) (num vs)) (2 ^ length vs - 1 - shift_right (length vs) (2 ^ length vs - 1 - num vs) (num ws)) (shift_right (length vs) (num vs) (num ws))))
  sound_signed_right = go (sign (length vs) (num vs)) (rw (sign_last vs) (last ρ Zero false xs vs refl hx))
    where
      go : (u : Bool) → Agree ρ (last_of Zero xs) u
          → Agrees ρ (right_of (last_of Zero xs) Unknown xs sh)
          (low (length vs) (choose u (2 ^ length vs - 1 - shift_right (length vs) (2 ^ length vs - 1 - num vs) (num ws)) (shift_right (length vs) (num vs) (num ws))))
      go true h = right (last_of Zero xs) true h (2 ^ length vs - 1 - shift_right (length vs) (2 ^ length vs - 1 - num vs) (num ws)) (num_signed (num ws) vs)
      go false h = right (last_of Zero xs) false h (shift_right (length vs) (num vs) (num ws)) (num_right (num ws) vs)
