-- The loops over a slice from the lowest place up: what is stored so far, and what is to come, make the whole. Assumes nothing.
use Rattle.std.proofs.Common.{ℕ, suc, ◌+◌, ◌≤◌, ◌<◌, ◌≡◌, refl, sym, ◌∙◌, ap, List, [], ◌∷◌, ◌++◌, append_assoc, append-nil, add-one, arith, length, take, drop, get_or, set, length-set, drop_of_length-le, take-suc-set, drop-set-lt, drop-cons, take_all}
use Rattle.bit.specs.Bits.{bit_of}
use Rattle.bit.specs.declared.Bit.{Bit}
use Rattle.bit_vec.specs.Lists.{bits, codes, scan, scanned}

-- below i the places are stored, from i up they are as they were, and `rest` is what is still to be stored
pub record Stored (out₀ whole rest out : List ℕ) (i : ℕ) : Type 0 where
  pub long : length out ≡ length out₀
  pub within : i ≤ length out₀
  pub cells : take i out ++ rest ≡ whole
  pub later : drop i out ≡ drop i out₀

pub begin : (out whole : List ℕ) → Stored out whole whole out 0
begin out whole = record { long = refl; within = omega arith; cells = refl; later = refl }

-- one turn stores the first of what is to come
pub turn : (out₀ whole r s out : List ℕ) (i v : ℕ) → Stored out₀ whole r out i → i < length out → r ≡ v ∷ s
    → Stored out₀ whole s (set out i v) (i + 1)
turn out₀ whole r s out i v w h e =
    record {
      long = length-set out i v ∙ w.long;
      within = omega (arith, w.long);
      cells = rw (add-one, take-suc-set out i v h, append_assoc) (rw e at w.cells);
      later =
          rw (add-one, drop-set-lt (suc i) out i v (omega arith))
          (ap (λ (l : List ℕ). drop 1 l) (sym (drop-cons out i 0 h) ∙ w.later ∙ drop-cons out₀ i 0 (omega (arith, w.long))));
    }

pub finish : (out₀ whole r out : List ℕ) (i : ℕ) → Stored out₀ whole r out i → length out ≤ i → r ≡ [] → out ≡ whole
finish out₀ whole r out i w h e = sym (append-nil out) ∙ rw (e, take_all i out h) at w.cells

-- what stands at a place that is still to come
pub here : (out₀ whole r out : List ℕ) (i : ℕ) → Stored out₀ whole r out i → i < length out → get_or out i 0 ≡ get_or out₀ i 0
here out₀ whole r out i w h =
    ap (λ (l : List ℕ). get_or l 0 0) (sym (drop-cons out i 0 h) ∙ w.later ∙ drop-cons out₀ i 0 (omega (arith, w.long)))

-- where the whole is known place by place
module _ (out₀ whole : List ℕ) (same : length whole ≡ length out₀) where
  pub place_turn : (out : List ℕ) (i v : ℕ) → Stored out₀ whole (drop i whole) out i → i < length out → v ≡ get_or whole i 0
      → Stored out₀ whole (drop (i + 1) whole) (set out i v) (i + 1)
  place_turn out i v w h e =
      turn out₀ whole _ _ out i v w h (drop-cons whole i 0 (omega (arith, w.long)) ∙ rw (e, add-one i))

  pub place_done : (out : List ℕ) (i : ℕ) → Stored out₀ whole (drop i whole) out i → length out ≤ i → out ≡ whole
  place_done out i w h =
      let l : length whole ≤ i = omega (arith, w.long) in
      finish out₀ whole _ out i w h (drop_of_length-le whole l)

-- two slices walked together with a state, and no store
pub walk : {S : Type 0} (g : S → Bit → Bit → S) (s : S) (a b : List ℕ) (i : ℕ) → i < length a → length a ≡ length b
    → scanned g (g s (bit_of (get_or a i 0)) (bit_of (get_or b i 0))) (bits (drop (i + 1) a)) (bits (drop (i + 1) b)) ≡ scanned g s (bits (drop i a)) (bits (drop i b))
walk g s a b i h e = rw (add-one i, drop-cons a i 0 h, drop-cons b i 0 (omega arith))

pub walk_end : {S : Type 0} (g : S → Bit → Bit → S) (s : S) (a b : List ℕ) (i : ℕ) → length a ≤ i → scanned g s (bits (drop i a)) (bits (drop i b)) ≡ s
walk_end g s a b i h = rw (drop_of_length-le a h)

-- the same with a store of one code a turn
module _ {S : Type 0} (f : S → Bit → Bit → Bit) (g : S → Bit → Bit → S) where
  abbrev pub to_come : S → List ℕ → List ℕ → ℕ → List ℕ
  to_come s a b i = codes (scan f g s (bits (drop i a)) (bits (drop i b)))

  pub record Walked (s₀ : S) (out₀ b : List ℕ) (s : S) (out : List ℕ) (i : ℕ) : Type 0 where
    pub stored : Stored out₀ (to_come s₀ out₀ b 0) (to_come s out₀ b i) out i
    pub state : scanned g s (bits (drop i out₀)) (bits (drop i b)) ≡ scanned g s₀ (bits out₀) (bits b)
