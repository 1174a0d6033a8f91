-- One more place of a count.
use Rattle.std.proofs.Common.{ℕ, zero, suc, ◌+◌, ◌-◌, ◌/◌, ◌%◌, ◌^◌, ◌<◌, ◌≤◌, arith, ◌≡◌, refl, ap, ◌∙◌, true, false, leb, lit<}
use Rattle.meaning.specs.Meaning.{count_ones, leading_zeros}
use Rattle.wide.specs.declared.Wide.{Wide}
use Rattle.wide.specs.Value.{value_of}
use Rattle.wide.proofs.Halves.{cut_low}

pub ones_more : (w i v : ℕ) → i < w → count_ones (w - i) v ≡ v % 2 + count_ones (w - (i + 1)) (v / 2)
unfolding count_ones
ones_more w i v h = let e : w - i ≡ suc (w - (i + 1)) = omega arith in ap (λ (n : ℕ). count_ones n v) e

pub none_left : (w i v : ℕ) → w ≤ i → count_ones (w - i) v ≡ 0
unfolding count_ones
none_left w i v h = let e : w - i ≡ zero = omega arith in ap (λ (n : ℕ). count_ones n v) e

-- the lowest bit stands in the low half
pub low_bit : (x : Wide) → value_of x % 2 ≡ x.lo % 2
unfolding value_of
low_bit x = cut_low (2 ^ 64) (lit< tt) x.lo x.hi 2 (2 ^ 63) refl

module _ (i v : ℕ) (h : 0 < i) where
  split : i ≡ suc (i - 1)
  split = omega arith

  pub zeros_end : leb (2 ^ (i - 1)) v ≡ true → leading_zeros i v ≡ 0
  unfolding leading_zeros
  zeros_end e = ap (λ (n : ℕ). leading_zeros n v) split ∙ simp e

  pub zeros_more : leb (2 ^ (i - 1)) v ≡ false → leading_zeros i v ≡ 1 + leading_zeros (i - 1) v
  unfolding leading_zeros
  zeros_more e = ap (λ (n : ℕ). leading_zeros n v) split ∙ simp e (omega arith)

pub no_zeros : (v : ℕ) → leading_zeros 0 v ≡ 0
unfolding leading_zeros
no_zeros v = refl
