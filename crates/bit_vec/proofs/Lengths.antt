-- How long each result is, for those who cite the definitions. Assumes nothing.
use Rattle.std.proofs.Common.{ℕ, zero, suc, ◌-◌, ◌≤◌, ◌<◌, ◌≡◌, refl, ◌∙◌, ap, Bool, true, false, List, [], ◌∷◌, arith, leb-false, leb, length, take, drop, replicate, length-append, length-drop, length-take-le, Option, Some, None}
use lib.ListN.{length-replicate}
use Rattle.bit.specs.Bits.{pick}
use Rattle.bit.specs.declared.Bit.{Bit}
use Rattle.bit.specs.declared.Bit.TheVariants.{Zero}
use Rattle.bit_vec.specs.declared.ripple.Ripple.{Ripple}
use Rattle.bit_vec.specs.declared.ripple.Place.{Place}
use Rattle.bit_vec.specs.Lists.{scan, scanned, carry_b, place_step, ripple_carry, last_place}
use Rattle.bit_vec.specs.Moves.{up, down, rotate_left, truth}
use Rattle.bit_vec.specs.Known.{const_of, least, shift_by, shift_of}
use Rattle.bit_vec.proofs.Shifted.{const_least}

-- a walk of two lists of one length
pub length_scan : {S : Type 0} (f : S → Bit → Bit → Bit) (g : S → Bit → Bit → S) (s : S) (xs ys : List Bit) → length xs ≡ length ys → length (scan f g s xs ys) ≡ length xs
length_scan f g s [] ys e = refl
length_scan f g s (x ∷ xs) [] e = absurd (omega (arith, e))
length_scan f g s (x ∷ xs) (y ∷ ys) e = ap suc (length_scan f g (g s x y) xs ys (omega arith))

-- moves by no more than the width
module _ {A : Type 0} (z : A) (k : ℕ) (xs : List A) (h : k ≤ length xs) where
  pub length_up : length (up z k xs) ≡ length xs
  length_up = length-append (replicate k z) (take (length xs - k) xs) ∙ rw (length-replicate k z, length-take-le (length xs - k) xs (omega arith)) (omega arith)

  pub length_down : length (down z k xs) ≡ length xs
  length_down = length-append (drop k xs) (replicate k z) ∙ rw (length-replicate k z, length-drop k xs) (omega arith)

pub length_rotate : {A : Type 0} (s : ℕ) (xs : List A) → s ≤ length xs → length (rotate_left s xs) ≡ length xs
length_rotate s xs h = length-append (drop s xs) (take s xs) ∙ rw (length-drop s xs, length-take-le s xs h) (omega arith)

-- a shift by an amount, of a move that keeps the length
module _ {A : Type 0} (move : ℕ → List A → List A) (z u : A) (keeps : (k : ℕ) (xs : List A) → k ≤ length xs → length (move k xs) ≡ length xs) where
  by : (xs : List A) (c : Option ℕ) (m : ℕ) → ((k : ℕ) → c ≡ Some k → k ≡ m) → m < length xs → length (shift_by move u c m xs) ≡ length xs
  by xs (Some k) m e h = keeps k xs (omega (arith, e k refl))
  by xs None m e h = keeps m (replicate (length xs) u) (rw (length-replicate (length xs) u) (omega arith)) ∙ length-replicate (length xs) u

  pub length_shift : (xs : List A) (sh : List Bit) → length (shift_of move z u xs sh) ≡ length xs
  length_shift xs sh = go (leb (length xs) (least sh)) refl
    where
      go : (t : Bool) → leb (length xs) (least sh) ≡ t → length (pick t (replicate (length xs) z) (shift_by move u (const_of sh) (least sh) xs)) ≡ length xs
      go true p = length-replicate (length xs) z
      go false p = by xs (const_of sh) (least sh) (const_least sh) (leb-false (length xs) (least sh) p)

pub length_truth : (n : ℕ) (b : Bit) → length (truth n b) ≡ n
length_truth zero b = refl
length_truth (suc n) b = ap suc (length-replicate n Zero)

-- the last carry or borrow, by either walk
carry_from : (op : Ripple) (p : Place) (xs ys : List Bit) → scanned (carry_b op) p.carry xs ys ≡ (scanned (place_step op) p xs ys).carry
carry_from op p [] ys = refl
carry_from op p (x ∷ xs) [] = refl
carry_from op p (x ∷ xs) (y ∷ ys) = carry_from op (place_step op p x y) xs ys

pub carry_last : (op : Ripple) (xs ys : List Bit) → ripple_carry op xs ys ≡ (last_place op xs ys).carry
carry_last op xs ys = carry_from op (record { carry = Zero; digit = Zero }) xs ys
