-- Numbers at a width inside 128 bits: cuts of cuts, masks, differences that wrap and that do not, order tests.
use Rattle.std.proofs.Common.{ℕ, ◌+◌, ◌*◌, ◌-◌, ◌/◌, ◌%◌, ◌^◌, ◌<◌, ◌≤◌, arith, mod-eq_of_lt, ◌≡◌, refl, sym, ap, ◌∙◌, Bool, true, false, not, ltb, leb, pow-add, pow_pos, ltb-true, ltb-false, leb-true, le-leb}
use native.Mathlib.Nat.{mod-add-mod, add-mod_right, mod-eq-sub-mod, sub-zero, div-le_self}
use Prim.Native.Nat.{zero-le}
use lib.Pow.{mod-mod-pow, not_mod}
use borrow.Author.Tests.{lt-leb}
use Rattle.pcode.specs.Var.{pick}
use Rattle.meaning.specs.Meaning.{shift_right}
use Rattle.wide.specs.declared.Wide.{Wide}
use Rattle.wide.specs.Value.{value_of}

-- two tests that pass together are the same
pub iff : (x y : Bool) → (x ≡ true → y ≡ true) → (y ≡ true → x ≡ true) → x ≡ y
iff true y f g = sym (f refl)
iff false true f g = g refl
iff false false f g = refl

up_to : (w : ℕ) → w ≤ 128 → 2 ^ 128 ≡ 2 ^ ((128 - w) + w)
up_to w h = let e : 128 ≡ (128 - w) + w = omega arith in ap (λ (n : ℕ). 2 ^ n) e

pub cut_cut : (n w : ℕ) → w ≤ 128 → n % 2 ^ 128 % 2 ^ w ≡ n % 2 ^ w
cut_cut n w h = ap (λ (m : ℕ). n % m % 2 ^ w) (up_to w h) ∙ mod-mod-pow n (128 - w) w

pub all_cut : (w : ℕ) → w ≤ 128 → (2 ^ 128 - 1) % 2 ^ w ≡ 2 ^ w - 1
all_cut w h = ap (λ (m : ℕ). (m - 1) % 2 ^ w) (up_to w h) ∙ ap (λ (m : ℕ). m % 2 ^ w) (sym (sub-zero (2 ^ ((128 - w) + w) - 1))) ∙ not_mod {a = 0} (128 - w) w (pow_pos w) ∙ sub-zero (2 ^ w - 1)

-- a difference modulo M, where nothing wraps
pub exact : (M r a b : ℕ) → r < M → a < M → b ≤ a → (r + b) % M ≡ a → r ≡ a - b
exact M r a b hr ha hb e = pick_side (ltb (r + b) M) refl where
  pick_side : (t : Bool) → ltb (r + b) M ≡ t → r ≡ a - b
  pick_side true t = let q = mod-eq_of_lt (ltb-true (r + b) M t) in omega arith
  pick_side false t =
      let l = ltb-false (r + b) M t in
      let q = mod-eq-sub-mod l in
      let s : r + b - M < M = omega arith in
      let u = mod-eq_of_lt s in
      omega arith

-- a difference modulo M, cut to a width whose power P divides M
pub wraps : (M P r a b : ℕ) → ((n : ℕ) → n % M % P ≡ n % P) → b ≤ P → (r + b) % M ≡ a → r % P ≡ (a + (P - b)) % P
wraps M P r a b cuts h e =
    let s : r + b + (P - b) ≡ r + P = omega arith in
    sym (sym (mod-add-mod a P (P - b)) ∙ ap (λ (n : ℕ). (n % P + (P - b)) % P) (sym e) ∙ ap (λ (n : ℕ). (n + (P - b)) % P) (cuts (r + b))
    ∙ mod-add-mod (r + b) P (P - b) ∙ ap (λ (n : ℕ). n % P) s ∙ add-mod_right r P)

pub not_less : (a b : ℕ) → not (ltb a b) ≡ leb b a
not_less a b = by (ltb a b) refl where
  by : (t : Bool) → ltb a b ≡ t → not t ≡ leb b a
  by true e = sym (lt-leb b a (ltb-true a b e))
  by false e = sym (le-leb b a (ltb-false a b e))

pub doubled : (p a : ℕ) → leb p a ≡ leb (2 * p) (2 * a)
doubled p a = iff (leb p a) (leb (2 * p) (2 * a)) (λ t. le-leb (2 * p) (2 * a) (let l = leb-true p a t in omega arith)) (λ t. le-leb p a (let l = leb-true (2 * p) (2 * a) t in omega arith))

pub power_suc : (w : ℕ) → 0 < w → 2 ^ w ≡ 2 * 2 ^ (w - 1)
power_suc w h = let e : w ≡ 1 + (w - 1) = omega arith in ap (λ (n : ℕ). 2 ^ n) e ∙ pow-add 2 1 (w - 1)

-- a small number lies in the low half
pub low_half : (x : Wide) (w : ℕ) → w ≤ 128 → value_of x < w → x.lo ≡ value_of x
unfolding value_of
low_half x w h g = omega arith

pub even_power : (w : ℕ) → 0 < w → 2 ^ w ≡ 2 ^ (w - 1) + 2 ^ (w - 1)
even_power w h = let e = power_suc w h in omega arith

-- a negative number with the bits above it set
pub extended : (a A W M : ℕ) → a < W → W ≤ A → A ≤ M → (a + (A - 1 - (W - 1))) % M ≡ a + (A - W)
extended a A W M ha hw hm = let e : A - 1 - (W - 1) ≡ A - W = omega arith in ap (λ (n : ℕ). (a + n) % M) e ∙ mod-eq_of_lt (omega arith)

-- a number shifted right is no larger
pub shifted_le : (w a b : ℕ) → shift_right w a b ≤ a
shifted_le w a b = by (leb w b) refl where
  by : (t : Bool) → leb w b ≡ t → pick t 0 (a / 2 ^ b) ≤ a
  by true e = zero-le
  by false e = div-le_self a (2 ^ b)
