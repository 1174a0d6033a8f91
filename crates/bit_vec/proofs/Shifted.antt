-- Shifts and rotates: what their parts of the output come to, and each way out of a shift by an amount. Assumes nothing.
use Rattle.std.proofs.Common.{ℕ, ◌+◌, ◌-◌, ◌≤◌, min, ◌≡◌, refl, sym, ◌∙◌, ap, Bool, true, false, List, ◌++◌, append-nil, arith, leb-true, leb, length, take, drop, replicate, length-drop, length-append, drop_of_length-le, length-take-le, take_at, drop_at, take_all, Some, None}
use borrow.Rule.Slice.PartMut.{mid_of, put_mid}
use lib.ListN.{length-replicate, replicate-append-replicate}
use Rattle.bit.specs.Bits.{pick}
use Rattle.bit.specs.declared.Bit.{Bit}
use Rattle.bit_vec.specs.Moves.{fit, up, down}
use Rattle.bit_vec.specs.Known.{const_from, const_of, least}
use Rattle.bit_vec.proofs.Moved.{fit_cut, fit_extend, fit_parts}
use Rattle.bit_vec.proofs.Fold.{Good, const_good}

-- a tail that is lent is the tail
pub tail : (k : ℕ) (a : List ℕ) → take (length a - k) (drop k a) ≡ drop k a
tail k a = take_all (length a - k) (drop k a) (simp length-drop (omega arith))

-- a list whose tail was lent and came back as m
module _ (out m : List ℕ) (k : ℕ) (h : k ≤ length out) where
  pub put_high : put_mid k (length out - k) out m ≡ take k out ++ m
  put_high =
      let l : length (drop k out) ≤ length out - k = simp length-drop (omega arith) in
      rw (drop_of_length-le (drop k out) l, append-nil m)

  pub put_low : take k (put_mid k (length out - k) out m) ≡ take k out
  put_low = ap (take k) put_high ∙ take_at (take k out) m k (length-take-le k out h)

  put_tail : drop k (put_mid k (length out - k) out m) ≡ m
  put_tail = ap (drop k) put_high ∙ drop_at (take k out) m k (length-take-le k out h)

  pub put_length : k ≡ length (take k (put_mid k (length out - k) out m))
  put_length = sym (ap length put_low ∙ length-take-le k out h)

mid_length : (k : ℕ) (out : List ℕ) → length (mid_of k (length out - k) out) ≡ length out - k
mid_length k out = ap length (tail k out) ∙ length-drop k out

-- a copy of what fits, and a fill above
pub copy_law : (out a m f : List ℕ) (n z : ℕ) → n ≡ min (length out) (length a) → m ≡ take n a
    → f ≡ replicate (length (mid_of n (length (m ++ drop n out) - n) (m ++ drop n out))) z
    → put_mid n (length (m ++ drop n out) - n) (m ++ drop n out) f ≡ fit z (length out) a
copy_law out a m f n z e hm hf =
    let lm : length m ≡ n = ap length hm ∙ length-take-le n a (omega arith) in
    let u : List ℕ = m ++ drop n out in
    let lu : length u ≡ length out = length-append m (drop n out) ∙ rw (length-drop n out) (omega arith) in
    let fe : f ≡ replicate (length out - n) z = hf ∙ ap (λ (j : ℕ). replicate j z) (mid_length n u ∙ ap (λ (j : ℕ). j - n) lu) in
    put_high u f n (omega arith) ∙ ap (λ (l : List ℕ). l ++ f) (take_at m (drop n out) n lm) ∙ rw (hm, fe) (fit_parts z (length out) a n e)

-- up, from a copy above and a fill below
pub up_law : (out a f m : List ℕ) (k z : ℕ) → length a ≡ length out → k ≤ length out → m ≡ fit z (length (mid_of k (length out - k) out)) a
    → f ≡ replicate (length (take k (put_mid k (length out - k) out m))) z → f ++ drop k (put_mid k (length out - k) out m) ≡ up z k a
up_law out a f m k z e h hm hf =
    let l : length out - k ≡ length a - k = omega arith in
    let me : m ≡ take (length a - k) a = hm ∙ ap (λ (n : ℕ). fit z n a) (mid_length k out ∙ l) ∙ fit_cut z (length a - k) a (omega arith) in
    let fe : f ≡ replicate k z = hf ∙ ap (λ (n : ℕ). replicate n z) (sym (put_length out m k h)) in
    rw (put_tail out m k h, fe) (ap (λ (t : List ℕ). replicate k z ++ t) me)

-- down, from one copy
pub down_law : (out a f : List ℕ) (k z : ℕ) → length a ≡ length out → k ≤ length out → f ≡ fit z (length out) (take (length a - k) (drop k a)) → f ≡ down z k a
down_law out a f k z e h hf =
    let q : length out ≡ length (drop k a) + k = rw (length-drop k a) (omega arith) in
    hf ∙ rw (tail k a, q) (fit_extend z k (drop k a))

-- parts of a repeat
take_replicate : (n j a : ℕ) → j ≤ n → take j (replicate n a) ≡ replicate j a
take_replicate n j a h =
    let q : j + (n - j) ≡ n = omega arith in
    ap (λ (t : ℕ). take j (replicate t a)) (sym q) ∙ ap (take j) (sym (replicate-append-replicate j (n - j) a)) ∙ take_at (replicate j a) (replicate (n - j) a) j (length-replicate j a)

drop_replicate : (n j a : ℕ) → j ≤ n → drop j (replicate n a) ≡ replicate (n - j) a
drop_replicate n j a h =
    let q : j + (n - j) ≡ n = omega arith in
    ap (λ (t : ℕ). drop j (replicate t a)) (sym q) ∙ ap (drop j) (sym (replicate-append-replicate j (n - j) a)) ∙ drop_at (replicate j a) (replicate (n - j) a) j (length-replicate j a)

module _ (out u f : List ℕ) (m y z : ℕ) (h : m ≤ length out) (hu : u ≡ replicate (length out) y) where
  lu : length u ≡ length out
  lu = ap length hu ∙ length-replicate (length out) y

  -- a fill of the highest m places
  pub high_law : f ≡ replicate (length (mid_of (length out - m) (length u - (length out - m)) u)) z
      → put_mid (length out - m) (length u - (length out - m)) u f ≡ down z m (replicate (length out) y)
  high_law hf =
      let n : ℕ = length out - m in
      let hn : n ≤ length u = omega (arith, lu) in
      let q : length u - n ≡ m = omega (arith, lu) in
      let fe : f ≡ replicate m z = hf ∙ ap (λ (j : ℕ). replicate j z) (mid_length n u ∙ q) in
      put_high u f n hn
      ∙ rw (hu, take_replicate (length out) n y (omega arith), drop_replicate (length out) m y h) (ap (λ (t : List ℕ). replicate n y ++ t) fe)

-- a known constant is the least amount
pub const_least : (xs : List Bit) (k : ℕ) → const_of xs ≡ Some k → k ≡ least xs
const_least xs k = go (leb (length xs) 64) refl
  where
    go : (t : Bool) → leb (length xs) 64 ≡ t → pick t (const_from xs) None ≡ Some k → k ≡ least xs
    go true p e =
        let g : Good (Some k) (least xs) _ = rw e at (const_good xs (leb-true _ _ p)) in
        g.0
    go false p e = absurd (let z : ◌≡◌ {A = ℕ} 0 1 = cc in omega arith)
