-- Every such operation is sound on the numbers that stand for bits too: moves carry numbers about, and what is written agrees once read.
use Rattle.std.proofs.Common.{ℕ, zero, suc, ◌+◌, ◌*◌, ◌-◌, ◌/◌, ◌%◌, ◌<◌, ◌≡◌, refl, sym, ◌∙◌, ap, ap₂, subst, Bool, true, false, List, [], ◌∷◌, ◌++◌, map, map-id, arith, eqb-true, eq-eqb, ne_eqb, le-ltb, eqb, leb, length, take, drop, get_or, replicate, Option, Some, None, Err}
use mathlib.Core.List.{map-append}
use lib.ListN.{length-map}
use Rattle.bit.specs.Bits.{one_if, pick, not_b, bit_of, code_of, code_e}
use Rattle.bit.specs.declared.Expr.{Expr}
use Rattle.bit.specs.declared.Bit.{Bit}
use Rattle.bit.specs.declared.Bit.TheVariants.{Zero, One, Unknown, Expr as Sym}
use Rattle.bit.proofs.Codes.{Small, round, small_bit}
use Rattle.bit_vec.specs.Lists.{bits, codes, zip_bits, logic_b, ripple_bits}
use Rattle.bit_vec.specs.Moves.{fit, last_of, up, down, digits, truth}
use Rattle.bit_vec.specs.Known.{const_of, least, shift_by, shift_of, count_ones, leading_zeros, trailing_zeros, left_of, right_of}
use Rattle.bit_vec.specs.declared.logic.Logic.TheVariants as Logic
use Rattle.bit_vec.specs.declared.ripple.Ripple.TheVariants.{Add, Sub}
use Rattle.bit_vec.proofs.Moved.{sign_bit}
use Rattle.eval.specs.Held.{plain, coded, read_all, truth_of}
use Rattle.eval.specs.Eval.{number_or, mul_by_ones, mul_by, mul_of, compare_b, bool_b, family_of, outcome_of, done}
use Rattle.eval.specs.declared.EvalError.TheVariants.{BadSizes}
use Rattle.eval.specs.Sizes.{fits_bits}
use Rattle.meaning.specs.Meaning.{meaning}
use Rattle.pcode.specs.Rules.{size_rule}
use Rattle.pcode.specs.declared.op.OneOp.{OneOp}
use Rattle.pcode.specs.declared.op.OneOp.TheVariants.{Copy, ZeroExtend, SignExtend, IntNot, IntNegate, IntCountOnes, IntCountLeadingZeroes, BoolNot}
use Rattle.pcode.specs.declared.op.TwoOp.{TwoOp}
use Rattle.pcode.specs.declared.op.TwoOp.TheVariants.{IntAdd, IntSub, IntXor, IntOr, IntAnd, IntMul}
use Rattle.pcode.specs.declared.op.ShiftOp.{ShiftOp}
use Rattle.pcode.specs.declared.op.ShiftOp.TheVariants.{IntLeft, IntRight, IntSignedRight}
use Rattle.pcode.specs.declared.op.Op.{Op}
use Rattle.pcode.specs.declared.op.Op.TheVariants.{Trap, InstructionMarker, PcodeLabel, PcodeBranch, Branch, Load, Store, Call, Select, Subpiece, Opaque, Float, One as OneOf, Two, Divide, Shift, Rotate, Compare, Bool as BoolOf}
use Rattle.sound.specs.Sound.{Valuation, ◌xor◌, Agree, Agrees, num, low, computes, SoundCoded}
use Rattle.sound.proofs.Numbers.{small}
use Rattle.sound.proofs.Families.{sound, never}

-- a valuation by what an expression's number stands for
abbrev as_coded : Valuation → Valuation
as_coded ρ i o = ρ ((i + o / 256) % 4294967296) (o % 256)

odd_code : (k : ℕ) (v : Bool) → eqb ((2 * k + one_if v) % 2) 1 ≡ v
odd_code k true = eq-eqb ((2 * k + 1) % 2) 1 (omega arith)
odd_code k false = ne_eqb ((2 * k + 0) % 2) 1 (omega arith)

module _ (ρ : Valuation) where
  expr_written : (e : Expr) (v : Bool) → Agree (as_coded ρ) (Sym e) v → Agree ρ (bit_of (code_e e)) v
  unfolding bit_of
  expr_written e v h =
      let n : ℕ = code_e e in
      let s : one_if e.invert < 2 = small e.invert in
      let k : ℕ = 256 * e.id.0 + e.offset in
      let m : n - 4 ≡ 2 * k + one_if e.invert = omega arith in
      let i : (n - 4) / 512 % 4294967296 ≡ (e.id.0 + e.offset / 256) % 4294967296 = omega arith in
      let o : (n - 4) / 2 % 256 ≡ e.offset % 256 = omega arith in
      let t : eqb ((n - 4) % 2) 1 ≡ e.invert = rw m (odd_code k e.invert) in
      rw (ne_eqb n 0 (omega arith), ne_eqb n 1 (omega arith), le-ltb n 4 (omega arith)) (h ∙ sym (ap₂ (λ (x y : Bool). x xor y) t (ap₂ ρ i o)))

  written : (b : Bit) (v : Bool) → Agree (as_coded ρ) b v → Agree ρ (bit_of (code_of b)) v
  unfolding bit_of code_of
  written Zero v h = h
  written One v h = h
  written Unknown v h = h
  written (Sym e) v h = expr_written e v h

  pub all_written : (xs : List Bit) (vs : List Bool) → Agrees (as_coded ρ) xs vs → Agrees ρ (bits (codes xs)) vs
  all_written [] [] h = tt
  all_written [] (v ∷ vs) h = absurd h
  all_written (x ∷ xs) [] h = absurd h
  all_written (x ∷ xs) (v ∷ vs) h = (written x v h.0, all_written xs vs h.1)

  small_read : (b : Bit) (v : Bool) → Small b → Agree ρ b v → Agree (as_coded ρ) b v
  small_read Zero v s h = h
  small_read One v s h = h
  small_read Unknown v s h = h
  small_read (Sym e) v s h =
      let a : e.id.0 < 4294967296 = s.0 in
      let b : e.offset < 256 = s.1 in
      let i : e.id.0 ≡ (e.id.0 + e.offset / 256) % 4294967296 = omega arith in
      let o : e.offset ≡ e.offset % 256 = omega arith in
      h ∙ ap (λ (x : Bool). e.invert xor x) (ap₂ ρ i o)

  pub all_read : (ns : List ℕ) (vs : List Bool) → Agrees ρ (bits ns) vs → Agrees (as_coded ρ) (bits ns) vs
  all_read [] [] h = tt
  all_read [] (v ∷ vs) h = absurd h
  all_read (n ∷ ns) [] h = absurd h
  all_read (n ∷ ns) (v ∷ vs) h = (small_read (bit_of n) v (small_bit n) h.0, all_read ns vs h.1)

-- moves do not look at what they carry
module _ {A B : Type 0} (f : A → B) where
  map_replicate : (n : ℕ) (z : A) → map f (replicate n z) ≡ replicate n (f z)
  map_replicate zero z = refl
  map_replicate (suc n) z = ap (λ (l : List B). f z ∷ l) (map_replicate n z)

  map_take : (n : ℕ) (xs : List A) → map f (take n xs) ≡ take n (map f xs)
  map_take zero xs = refl
  map_take (suc n) [] = refl
  map_take (suc n) (x ∷ xs) = ap (λ (l : List B). f x ∷ l) (map_take n xs)

  map_drop : (n : ℕ) (xs : List A) → map f (drop n xs) ≡ drop n (map f xs)
  map_drop zero xs = refl
  map_drop (suc n) [] = refl
  map_drop (suc n) (x ∷ xs) = map_drop n xs

  map_fit : (z : A) (n : ℕ) (xs : List A) → map f (fit z n xs) ≡ fit (f z) n (map f xs)
  map_fit z zero xs = refl
  map_fit z (suc n) [] = ap (λ (l : List B). f z ∷ l) (map_fit z n [])
  map_fit z (suc n) (x ∷ xs) = ap (λ (l : List B). f x ∷ l) (map_fit z n xs)

  map_up : (z : A) (k : ℕ) (xs : List A) → map f (up z k xs) ≡ up (f z) k (map f xs)
  map_up z k xs =
      map-append f (replicate k z) (take (length xs - k) xs)
      ∙ ap₂ (λ (p q : List B). p ++ q) (map_replicate k z) (map_take (length xs - k) xs ∙ ap (λ (n : ℕ). take (n - k) (map f xs)) (sym (length-map xs f)))

  map_down : (z : A) (k : ℕ) (xs : List A) → map f (down z k xs) ≡ down (f z) k (map f xs)
  map_down z k xs = map-append f (drop k xs) (replicate k z) ∙ ap₂ (λ (p q : List B). p ++ q) (map_drop k xs) (map_replicate k z)

  map_shift : (g : ℕ → List A → List A) (h : ℕ → List B → List B) (z u : A) (xs : List A) (sh : List Bit) → ((k : ℕ) (ys : List A) → map f (g k ys) ≡ h k (map f ys))
      → map f (shift_of g z u xs sh) ≡ shift_of h (f z) (f u) (map f xs) sh
  map_shift g h z u xs sh q =
      ap (λ (n : ℕ). map f (pick (leb n (least sh)) (replicate n z) (shift_by g u (const_of sh) (least sh) xs))) (sym (length-map xs f))
      ∙ go (leb (length (map f xs)) (least sh)) (const_of sh)
    where
      go : (t : Bool) (c : Option ℕ) → map f (pick t (replicate (length (map f xs)) z) (shift_by g u c (least sh) xs)) ≡ pick t (replicate (length (map f xs)) (f z)) (shift_by h (f u) c (least sh) (map f xs))
      go true c = map_replicate (length (map f xs)) z
      go false (Some k) = q k xs
      go false None = q (least sh) (replicate (length xs) u) ∙ ap (h (least sh)) (map_replicate (length xs) u ∙ ap (λ (n : ℕ). replicate n (f u)) (sym (length-map xs f)))

zero_back : bit_of (code_of Zero) ≡ Zero
zero_back = round Zero tt

unknown_back : bit_of (code_of Unknown) ≡ Unknown
unknown_back = round Unknown tt

digit_back : (t : Bool) → bit_of (code_of (pick t One Zero)) ≡ pick t One Zero
digit_back true = round One tt
digit_back false = zero_back

digits_back : (n v : ℕ) → bits (codes (digits n v)) ≡ digits n v
digits_back zero v = refl
digits_back (suc n) v = ap₂ (λ (x : Bit) (l : List Bit). x ∷ l) (digit_back (eqb (v % 2) 1)) (digits_back n (v / 2))

filled_back : (n : ℕ) (b : Bit) → bit_of (code_of b) ≡ b → bits (replicate n (code_of b)) ≡ replicate n b
filled_back n b e = map_replicate bit_of n (code_of b) ∙ ap (replicate n) e

lowest_back : (a : List ℕ) → bit_of (get_or a 0 (code_of Zero)) ≡ get_or (bits a) 0 Zero
lowest_back [] = zero_back
lowest_back (x ∷ a) = refl

-- shifts, extensions and products read as they are on bits
fit_back : (n : ℕ) (a : List ℕ) → bits (fit (code_of Zero) n a) ≡ fit Zero n (bits a)
fit_back n a = map_fit bit_of (code_of Zero) n a ∙ ap (λ (z : Bit). fit z n (bits a)) zero_back

up_back : (k : ℕ) (a : List ℕ) → bits (up (code_of Zero) k a) ≡ up Zero k (bits a)
up_back k a = map_up bit_of (code_of Zero) k a ∙ ap (λ (z : Bit). up z k (bits a)) zero_back

left_back : (a : List ℕ) (sh : List Bit) → bits (left_of (code_of Zero) (code_of Unknown) a sh) ≡ left_of Zero Unknown (bits a) sh
left_back a sh =
    map_shift bit_of (up (code_of Zero)) (up (bit_of (code_of Zero))) (code_of Zero) (code_of Unknown) a sh (map_up bit_of (code_of Zero))
    ∙ ap₂ (λ (z u : Bit). left_of z u (bits a) sh) zero_back unknown_back

right_back : (z : ℕ) (b : Bit) (a : List ℕ) (sh : List Bit) → bit_of z ≡ b → bits (right_of z (code_of Unknown) a sh) ≡ right_of b Unknown (bits a) sh
right_back z b a sh e =
    map_shift bit_of (down z) (down (bit_of z)) z (code_of Unknown) a sh (map_down bit_of z) ∙ ap₂ (λ (z u : Bit). right_of z u (bits a) sh) e unknown_back

ones_back : (c : Option ℕ) (k n : ℕ) (b : List ℕ) → bits (mul_by_ones coded c k b n) ≡ mul_by_ones plain c k (bits b) n
ones_back (Some zero) k n b = filled_back n Zero zero_back
ones_back (Some (suc zero)) k n b = up_back k b
ones_back (Some (suc (suc m))) k n b = filled_back n Unknown unknown_back
ones_back None k n b = filled_back n Unknown unknown_back

mul_back : (c d : Option ℕ) (a b : List ℕ) (n : ℕ) → bits (mul_by coded c d a b n) ≡ mul_by plain c d (bits a) (bits b) n
mul_back (Some x) (Some y) a b n = digits_back n (x * y) ∙ sym (map-id (digits n (x * y)))
mul_back (Some x) None a b n = rw (map-id (bits a)) (ones_back (count_ones (bits a)) (trailing_zeros (bits a)) n b)
mul_back None (Some y) a b n = rw (map-id (bits b)) (ones_back (count_ones (bits b)) (trailing_zeros (bits b)) n a)
mul_back None None a b n = filled_back n Unknown unknown_back

number_back : (c : Option ℕ) (n : ℕ) → bits (number_or coded c n) ≡ number_or plain c n
number_back (Some v) n = digits_back n v ∙ sym (map-id (digits n v))
number_back None n = filled_back n Unknown unknown_back

-- what is proved on bits holds on numbers: where they read as those bits, and where they are those bits' codes
module _ (op : Op) (e : computes op ≡ true) (ρ : Valuation) (a b old : List ℕ) (vs ws : List Bool) (f : fits_bits (size_rule op) (length a) (length b) (length old) ≡ true)
    (hx : Agrees ρ (bits a) vs) (hy : Agrees ρ (bits b) ws) where
  on_bits : (σ : Valuation) → Agrees σ (bits a) vs → Agrees σ (bits b) ws
      → Agrees σ (family_of plain op (bits a) (bits b) (bits old)).cells (low (length old) (meaning op (length a) (length old) (num vs) (num ws)))
  on_bits σ kx ky =
      let q : low (length (bits old)) (meaning op (length (bits a)) (length (bits old)) (num vs) (num ws)) ≡ low (length old) (meaning op (length a) (length old) (num vs) (num ws)) =
      ap₂ (λ (o w : ℕ). low o (meaning op w o (num vs) (num ws))) (length-map old bit_of) (length-map a bit_of) in
      let g : fits_bits (size_rule op) (length (bits a)) (length (bits b)) (length (bits old)) ≡ true =
      ap₂ (λ (x y : ℕ). fits_bits (size_rule op) x y (length (bits old))) (length-map a bit_of) (length-map b bit_of) ∙ ap (λ (o : ℕ). fits_bits (size_rule op) (length a) (length b) o) (length-map old bit_of) ∙ f in
      subst (λ (l : List Bool). Agrees σ (family_of plain op (bits a) (bits b) (bits old)).cells l) q (sound op e σ (bits a) (bits b) (bits old) vs ws g kx ky)

  empty : (l : List ℕ) → length l ≡ 0 → (m : ℕ) → Agrees ρ (bits l) (low (length l) m)
  empty [] q m = tt
  empty (x ∷ l) q m = absurd (omega (arith, q))

  -- without an output nothing is evaluated
  evaluated : Agrees ρ (bits (family_of coded op a b old).cells) (low (length old) (meaning op (length a) (length old) (num vs) (num ws)))
      → Agrees ρ (bits (outcome_of coded op a b old).cells) (low (length old) (meaning op (length a) (length old) (num vs) (num ws)))
  evaluated h = go (eqb (length old) 0) refl (fits_bits (size_rule op) (length a) (length b) (length old)) f
    where
      go : (t : Bool) → eqb (length old) 0 ≡ t → (s : Bool) → s ≡ true
          → Agrees ρ (bits (pick t (done old) (pick s (family_of coded op a b old) (record { answer = Err BadSizes; cells = old }))).cells) (low (length old) (meaning op (length a) (length old) (num vs) (num ws)))
      go true p s q = empty old (eqb-true (length old) 0 p) (meaning op (length a) (length old) (num vs) (num ws))
      go false p true q = h
      go false p false q = never q

  by_reading : bits (family_of coded op a b old).cells ≡ (family_of plain op (bits a) (bits b) (bits old)).cells
      → Agrees ρ (bits (outcome_of coded op a b old).cells) (low (length old) (meaning op (length a) (length old) (num vs) (num ws)))
  by_reading q =
      evaluated (subst (λ (l : List Bit). Agrees ρ l (low (length old) (meaning op (length a) (length old) (num vs) (num ws)))) (sym q) (on_bits ρ hx hy))

  by_writing : codes (family_of plain op (bits a) (bits b) (bits old)).cells ≡ (family_of coded op a b old).cells
      → Agrees ρ (bits (outcome_of coded op a b old).cells) (low (length old) (meaning op (length a) (length old) (num vs) (num ws)))
  by_writing q =
      evaluated (subst (λ (l : List ℕ). Agrees ρ (bits l) (low (length old) (meaning op (length a) (length old) (num vs) (num ws)))) q
      (all_written ρ (family_of plain op (bits a) (bits b) (bits old)).cells (low (length old) (meaning op (length a) (length old) (num vs) (num ws)))
      (on_bits (as_coded ρ) (all_read ρ a vs hx) (all_read ρ b ws hy))))

-- the output's size, and a truth value, in numbers and in bits
truth_codes : (x y : Bit) (old : List ℕ) → x ≡ y → codes (truth_of plain x (length (bits old))) ≡ truth_of coded y (length old)
truth_codes x y old q = ap codes (map-id (truth (length (bits old)) x)) ∙ ap₂ (λ (n : ℕ) (b : Bit). codes (truth n b)) (length-map old bit_of) q

-- the theorem on numbers
sound_coded_one : (k : OneOp) → SoundCoded (OneOf k)
sound_coded_one Copy ρ a b old vs ws f hx hy = by_reading (OneOf Copy) refl ρ a b old vs ws f hx hy refl
sound_coded_one ZeroExtend ρ a b old vs ws f hx hy =
    by_reading (OneOf ZeroExtend) refl ρ a b old vs ws f hx hy (fit_back (length old) a ∙ ap (λ (n : ℕ). fit Zero n (bits a)) (sym (length-map old bit_of)))
sound_coded_one SignExtend ρ a b old vs ws f hx hy =
    by_reading (OneOf SignExtend) refl ρ a b old vs ws f hx hy
    (map_fit bit_of (last_of (code_of Zero) a) (length old) a ∙ ap₂ (λ (z : Bit) (n : ℕ). fit z n (bits a)) (sign_bit a) (sym (length-map old bit_of)))
sound_coded_one IntNot ρ a b old vs ws f hx hy =
    by_writing (OneOf IntNot) refl ρ a b old vs ws f hx hy (ap codes (map-id (map not_b (read_all plain (bits a))) ∙ ap (map not_b) (map-id (bits a))))
sound_coded_one IntNegate ρ a b old vs ws f hx hy =
    by_writing (OneOf IntNegate) refl ρ a b old vs ws f hx hy
    (ap codes
    (map-id (ripple_bits Sub (replicate (length (bits old)) Zero) (read_all plain (bits a)))
    ∙ ap₂ (λ (n : ℕ) (l : List Bit). ripple_bits Sub (replicate n Zero) l) (length-map old bit_of) (map-id (bits a))))
sound_coded_one IntCountOnes ρ a b old vs ws f hx hy =
    by_reading (OneOf IntCountOnes) refl ρ a b old vs ws f hx hy
    (number_back (count_ones (bits a)) (length old) ∙ ap₂ (λ (l : List Bit) (n : ℕ). number_or plain (count_ones l) n) (sym (map-id (bits a))) (sym (length-map old bit_of)))
sound_coded_one IntCountLeadingZeroes ρ a b old vs ws f hx hy =
    by_reading (OneOf IntCountLeadingZeroes) refl ρ a b old vs ws f hx hy
    (number_back (leading_zeros (bits a)) (length old) ∙ ap₂ (λ (l : List Bit) (n : ℕ). number_or plain (leading_zeros l) n) (sym (map-id (bits a))) (sym (length-map old bit_of)))
sound_coded_one BoolNot ρ a b old vs ws f hx hy =
    by_writing (OneOf BoolNot) refl ρ a b old vs ws f hx hy
    (truth_codes (not_b (get_or (bits a) 0 Zero)) (not_b (bit_of (get_or a 0 (code_of Zero)))) old (ap not_b (sym (lowest_back a))))

-- two lists of bits, by an operation of the same length
pair_codes : (g : List Bit → List Bit → List Bit) (a b : List ℕ) → codes (map (λ (x : Bit). x) (g (read_all plain (bits a)) (read_all plain (bits b)))) ≡ codes (g (bits a) (bits b))
pair_codes g a b = ap codes (map-id (g (read_all plain (bits a)) (read_all plain (bits b))) ∙ ap₂ g (map-id (bits a)) (map-id (bits b)))

sound_coded_two : (k : TwoOp) → SoundCoded (Two k)
sound_coded_two IntAdd ρ a b old vs ws f hx hy = by_writing (Two IntAdd) refl ρ a b old vs ws f hx hy (pair_codes (ripple_bits Add) a b)
sound_coded_two IntSub ρ a b old vs ws f hx hy = by_writing (Two IntSub) refl ρ a b old vs ws f hx hy (pair_codes (ripple_bits Sub) a b)
sound_coded_two IntXor ρ a b old vs ws f hx hy = by_writing (Two IntXor) refl ρ a b old vs ws f hx hy (pair_codes (zip_bits (logic_b Logic.Xor)) a b)
sound_coded_two IntOr ρ a b old vs ws f hx hy = by_writing (Two IntOr) refl ρ a b old vs ws f hx hy (pair_codes (zip_bits (logic_b Logic.Or)) a b)
sound_coded_two IntAnd ρ a b old vs ws f hx hy = by_writing (Two IntAnd) refl ρ a b old vs ws f hx hy (pair_codes (zip_bits (logic_b Logic.And)) a b)
sound_coded_two IntMul ρ a b old vs ws f hx hy =
    by_reading (Two IntMul) refl ρ a b old vs ws f hx hy
    (mul_back (const_of (bits a)) (const_of (bits b)) a b (length old)
    ∙ ap₂ (λ (x y : List Bit). mul_by plain (const_of x) (const_of y) (bits a) (bits b) (length old)) (sym (map-id (bits a))) (sym (map-id (bits b)))
    ∙ ap (λ (n : ℕ). mul_of plain (bits a) (bits b) n) (sym (length-map old bit_of)))

sound_coded_shift : (k : ShiftOp) → SoundCoded (Shift k)
sound_coded_shift IntLeft ρ a b old vs ws f hx hy =
    by_reading (Shift IntLeft) refl ρ a b old vs ws f hx hy (left_back a (bits b) ∙ ap (left_of Zero Unknown (bits a)) (sym (map-id (bits b))))
sound_coded_shift IntRight ρ a b old vs ws f hx hy =
    by_reading (Shift IntRight) refl ρ a b old vs ws f hx hy (right_back (code_of Zero) Zero a (bits b) zero_back ∙ ap (right_of Zero Unknown (bits a)) (sym (map-id (bits b))))
sound_coded_shift IntSignedRight ρ a b old vs ws f hx hy =
    by_reading (Shift IntSignedRight) refl ρ a b old vs ws f hx hy
    (right_back (last_of (code_of Zero) a) (last_of Zero (bits a)) a (bits b) (sign_bit a) ∙ ap (right_of (last_of Zero (bits a)) Unknown (bits a)) (sym (map-id (bits b))))

pub sound_coded : (op : Op) → computes op ≡ true → SoundCoded op
sound_coded (Subpiece k) e ρ a b old vs ws f hx hy =
    by_reading (Subpiece k) refl ρ a b old vs ws f hx hy
    (fit_back (length old) (drop (8 * k) a) ∙ ap₂ (λ (n : ℕ) (l : List Bit). fit Zero n l) (sym (length-map old bit_of)) (map_drop bit_of (8 * k) a))
sound_coded (OneOf k) e ρ a b old vs ws f hx hy = sound_coded_one k ρ a b old vs ws f hx hy
sound_coded (Two k) e ρ a b old vs ws f hx hy = sound_coded_two k ρ a b old vs ws f hx hy
sound_coded (Shift k) e ρ a b old vs ws f hx hy = sound_coded_shift k ρ a b old vs ws f hx hy
sound_coded (Compare k) e ρ a b old vs ws f hx hy =
    by_writing (Compare k) refl ρ a b old vs ws f hx hy
    (truth_codes (compare_b k (read_all plain (bits a)) (read_all plain (bits b))) (compare_b k (bits a) (bits b)) old (ap₂ (compare_b k) (map-id (bits a)) (map-id (bits b))))
sound_coded (BoolOf k) e ρ a b old vs ws f hx hy =
    by_writing (BoolOf k) refl ρ a b old vs ws f hx hy
    (truth_codes (bool_b k (get_or (bits a) 0 Zero) (get_or (bits b) 0 Zero)) (bool_b k (bit_of (get_or a 0 (code_of Zero))) (bit_of (get_or b 0 (code_of Zero)))) old
    (ap₂ (bool_b k) (sym (lowest_back a)) (sym (lowest_back b))))
sound_coded (Trap t) e ρ a b old vs ws f hx hy = never e
sound_coded InstructionMarker e ρ a b old vs ws f hx hy = never e
sound_coded (PcodeLabel l) e ρ a b old vs ws f hx hy = never e
sound_coded (PcodeBranch l) e ρ a b old vs ws f hx hy = never e
sound_coded (Branch n) e ρ a b old vs ws f hx hy = never e
sound_coded (Load n) e ρ a b old vs ws f hx hy = never e
sound_coded (Store n) e ρ a b old vs ws f hx hy = never e
sound_coded (Call k n) e ρ a b old vs ws f hx hy = never e
sound_coded (Select n) e ρ a b old vs ws f hx hy = never e
sound_coded (Opaque k) e ρ a b old vs ws f hx hy = never e
sound_coded (Float k) e ρ a b old vs ws f hx hy = never e
sound_coded (Divide k) e ρ a b old vs ws f hx hy = never e
sound_coded (Rotate k) e ρ a b old vs ws f hx hy = never e
