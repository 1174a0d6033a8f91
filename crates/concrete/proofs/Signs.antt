-- Signed comparisons and overflows by the signs of numbers below P, an even number: P = Q + Q.
use Rattle.std.proofs.Common.{ℕ, zero, suc, ◌+◌, ◌*◌, ◌-◌, ◌%◌, ◌^◌, ◌<◌, ◌≤◌, arith, mod-eq_of_lt, ◌≡◌, refl, sym, ap, ◌∙◌, Bool, true, false, not, ltb, leb, ℤ, pos, negsuc, neg_ℤ, ◌+ℤ◌, ◌-ℤ◌, ltb-true, ltb-false, leb-true, leb-false, le-leb, lt-ltb, le-ltb}
use native.Mathlib.Nat.{mod-eq-sub-mod}
use mathlib.Core.Bool.{beq}
use lib.IntN.{sub_ℕ}
use lib.Signed.{lt_z, le_z, mag}
use Rattle.pcode.specs.Var.{pick}
use Rattle.meaning.specs.Meaning.{sign, signed, in_range}
use Rattle.concrete.specs.Fits.{Both}
use Rattle.concrete.proofs.Widths.{iff, not_less, even_power}

-- at most is not above
pub not_above : (x y : ℤ) → not (lt_z y x) ≡ le_z x y
not_above (pos a) (pos b) = not_less b a
not_above (pos a) (negsuc b) = refl
not_above (negsuc a) (pos b) = refl
not_above (negsuc a) (negsuc b) = not_less a b

-- the carry shows in the wrapped sum
pub carries : (P a b : ℕ) → a < P → b < P → ltb ((a + b) % P) a ≡ leb P (a + b)
carries P a b ha hb = by (leb P (a + b)) refl where
  by : (t : Bool) → leb P (a + b) ≡ t → ltb ((a + b) % P) a ≡ t
  by true e =
      let l = leb-true P (a + b) e in
      let m = mod-eq-sub-mod l in
      let s : a + b - P < P = omega arith in
      let u = mod-eq_of_lt s in
      lt-ltb ((a + b) % P) a (omega arith)
  by false e =
      let l = leb-false P (a + b) e in
      let m = mod-eq_of_lt l in
      le-ltb ((a + b) % P) a (omega arith)

-- an integer read off a number below P
abbrev pub at : ℕ → ℕ → ℤ
at P a = pick (leb P (2 * a)) (negsuc (P - 1 - a)) (pos a)

abbrev pub fits : ℕ → ℤ → Bool
fits P z = ltb (2 * mag z) P

-- a difference of two numbers up to half of P fits
between : (P m n : ℕ) → 2 * m ≤ P → 2 * n ≤ P → 0 < n → fits P (sub_ℕ m n) ≡ true
between P m n hm hn h = by (ltb m n) refl where
  by : (t : Bool) → ltb m n ≡ t → fits P (sub_ℕ m n) ≡ true
  by true e = let l = ltb-true m n e in simp e (lt-ltb (2 * (n - suc m)) P (omega arith))
  by false e = let l = ltb-false m n e in simp e (lt-ltb (2 * (m - n)) P (omega arith))

less_fits : (P m n : ℕ) → 2 * m < P → 2 * n < P → fits P (pos m +ℤ neg_ℤ (pos n)) ≡ true
less_fits P m zero hm hn = lt-ltb (2 * (m + 0)) P (omega arith)
less_fits P m (suc n) hm hn = between P m (suc n) (omega arith) (omega arith) (omega arith)

-- below zero and further down
mag_down : (x b : ℕ) → mag (negsuc x +ℤ neg_ℤ (pos b)) ≡ x + b
mag_down x zero = simp (lt-ltb 0 (suc x) (omega arith)) (omega arith)
mag_down x (suc b) = omega arith

-- less by the signs of two numbers and their unsigned order; the overflow of their sum and of their difference, by their signs and the wrapped result's
abbrev pub signs_less : Bool → Bool → Bool → Bool
signs_less true true l = l
signs_less true false l = true
signs_less false true l = false
signs_less false false l = l

abbrev pub signs_carry : Bool → Bool → Bool → Bool
signs_carry true true s = not s
signs_carry true false s = false
signs_carry false true s = false
signs_carry false false s = s

abbrev pub signs_borrow : Bool → Bool → Bool → Bool
signs_borrow true true s = false
signs_borrow true false s = not s
signs_borrow false true s = s
signs_borrow false false s = false

-- where the two signs are the same, and where they are not
pub less_alike : (x y l : Bool) → beq x y ≡ true → signs_less x y l ≡ l
less_alike true true l e = refl
less_alike true false l e = cc
less_alike false true l e = cc
less_alike false false l e = refl

pub less_unlike : (x y l : Bool) → beq x y ≡ false → signs_less x y l ≡ x
less_unlike true true l e = cc
less_unlike true false l e = refl
less_unlike false true l e = refl
less_unlike false false l e = cc

pub carry_alike : (x y s : Bool) → beq x y ≡ true → signs_carry x y s ≡ not (beq x s)
carry_alike true true true e = refl
carry_alike true true false e = refl
carry_alike true false s e = cc
carry_alike false true s e = cc
carry_alike false false true e = refl
carry_alike false false false e = refl

pub carry_unlike : (x y s : Bool) → beq x y ≡ false → signs_carry x y s ≡ false
carry_unlike true true s e = cc
carry_unlike true false s e = refl
carry_unlike false true s e = refl
carry_unlike false false s e = cc

pub borrow_unlike : (x y s : Bool) → not (beq x y) ≡ true → signs_borrow x y s ≡ not (beq x s)
borrow_unlike true true s e = cc
borrow_unlike true false true e = refl
borrow_unlike true false false e = refl
borrow_unlike false true true e = refl
borrow_unlike false true false e = refl
borrow_unlike false false s e = cc

pub borrow_alike : (x y s : Bool) → not (beq x y) ≡ false → signs_borrow x y s ≡ false
borrow_alike true true s e = refl
borrow_alike true false s e = cc
borrow_alike false true s e = cc
borrow_alike false false s e = refl

module _ (P Q a b : ℕ) (even : P ≡ Q + Q) (ha : a < P) (hb : b < P) where
  neg_neg_less : ltb (P - 1 - b) (P - 1 - a) ≡ ltb a b
  neg_neg_less =
      iff (ltb (P - 1 - b) (P - 1 - a)) (ltb a b) (λ t. lt-ltb a b (let l = ltb-true (P - 1 - b) (P - 1 - a) t in omega arith))
      (λ t. lt-ltb (P - 1 - b) (P - 1 - a) (let l = ltb-true a b t in omega arith))

  -- less, by the two signs and the unsigned order
  pub less_by_lem : (x y : Bool) → leb P (2 * a) ≡ x → leb P (2 * b) ≡ y → lt_z (at P a) (at P b) ≡ signs_less x y (ltb a b)
  less_by_lem true true ea eb = simp (ea, eb) neg_neg_less
  less_by_lem true false ea eb = simp (ea, eb)
  less_by_lem false true ea eb = simp (ea, eb)
  less_by_lem false false ea eb = simp (ea, eb)

  -- a sum below P, one of P or more
  sum_low : a + b < P → leb P (2 * ((a + b) % P)) ≡ leb P (2 * (a + b))
  sum_low h = ap (λ (n : ℕ). leb P (2 * n)) (mod-eq_of_lt h)

  sum_high : P ≤ a + b → a + b - P < P → leb P (2 * ((a + b) % P)) ≡ leb P (2 * (a + b - P))
  sum_high h g = ap (λ (n : ℕ). leb P (2 * n)) (mod-eq-sub-mod h ∙ mod-eq_of_lt g)

  -- the overflow of a sum, by the two signs and the wrapped sum's
  pub carry_by : (x y : Bool) → leb P (2 * a) ≡ x → leb P (2 * b) ≡ y → not (fits P (at P a +ℤ at P b)) ≡ signs_carry x y (leb P (2 * ((a + b) % P)))
  carry_by true true ea eb =
      let la = leb-true P (2 * a) ea in
      let lb = leb-true P (2 * b) eb in
      simp (ea, eb) (ap not (same ∙ sym (sum_high (omega arith) (omega arith)))) where
        same : ltb (2 * suc (P - 1 - a + (P - 1 - b))) P ≡ leb P (2 * (a + b - P))
        same =
            iff (ltb (2 * suc (P - 1 - a + (P - 1 - b))) P) (leb P (2 * (a + b - P)))
            (λ t. le-leb P (2 * (a + b - P)) (let l = ltb-true (2 * suc (P - 1 - a + (P - 1 - b))) P t in let h : suc (P - 1 - a + (P - 1 - b)) < Q = omega arith in omega arith))
            (λ t. lt-ltb (2 * suc (P - 1 - a + (P - 1 - b))) P (let l = leb-true P (2 * (a + b - P)) t in let h : Q ≤ a + b - P = omega arith in omega arith))
  carry_by true false ea eb =
      let la = leb-true P (2 * a) ea in
      let lb = leb-false P (2 * b) eb in
      simp (ea, eb) (ap not (between P b (suc (P - 1 - a)) (omega arith) (omega arith) (omega arith)))
  carry_by false true ea eb =
      let la = leb-false P (2 * a) ea in
      let lb = leb-true P (2 * b) eb in
      simp (ea, eb) (ap not (between P a (suc (P - 1 - b)) (omega arith) (omega arith) (omega arith)))
  carry_by false false ea eb =
      let la = leb-false P (2 * a) ea in
      let lb = leb-false P (2 * b) eb in
      simp (ea, eb) (not_less (2 * (a + b)) P ∙ sym (sum_low (omega arith)))

  -- the overflow of a difference, by the two signs and the wrapped difference's
  pub borrow_by : (x y : Bool) → leb P (2 * a) ≡ x → leb P (2 * b) ≡ y → not (fits P (at P a -ℤ at P b)) ≡ signs_borrow x y (leb P (2 * ((a + (P - b)) % P)))
  borrow_by true true ea eb =
      let la = leb-true P (2 * a) ea in
      let lb = leb-true P (2 * b) eb in
      simp (ea, eb) (ap not (between P (suc (P - 1 - b)) (suc (P - 1 - a)) (omega arith) (omega arith) (omega arith)))
  borrow_by true false ea eb =
      let la = leb-true P (2 * a) ea in
      let lb = leb-false P (2 * b) eb in
      let h : P ≤ a + (P - b) = omega arith in
      let g : a + (P - b) - P < P = omega arith in
      let e : (a + (P - b)) % P ≡ a - b = (let m = mod-eq-sub-mod h in let k = mod-eq_of_lt g in omega arith) in
      simp (ea, eb) (ap not (ap (λ (n : ℕ). ltb (2 * n) P) (mag_down (P - 1 - a) b) ∙ same ∙ ap (λ (n : ℕ). leb P (2 * n)) (sym e))) where
        same : ltb (2 * (P - 1 - a + b)) P ≡ leb P (2 * (a - b))
        same =
            let la = leb-true P (2 * a) ea in
            let lb = leb-false P (2 * b) eb in
            iff (ltb (2 * (P - 1 - a + b)) P) (leb P (2 * (a - b)))
            (λ t. le-leb P (2 * (a - b)) (let l = ltb-true (2 * (P - 1 - a + b)) P t in let h : P - 1 - a + b < Q = omega arith in omega arith))
            (λ t. lt-ltb (2 * (P - 1 - a + b)) P (let l = leb-true P (2 * (a - b)) t in let h : Q ≤ a - b = omega arith in omega arith))
  borrow_by false true ea eb =
      let la = leb-false P (2 * a) ea in
      let lb = leb-true P (2 * b) eb in
      let low : a + (P - b) < P = omega arith in
      let e : a + suc (P - 1 - b) ≡ (a + (P - b)) % P = (let m = mod-eq_of_lt low in omega arith) in
      simp (ea, eb) (not_less (2 * (a + suc (P - 1 - b))) P ∙ ap (λ (n : ℕ). leb P (2 * n)) e)
  borrow_by false false ea eb =
      let la = leb-false P (2 * a) ea in
      let lb = leb-false P (2 * b) eb in
      simp (ea, eb) (ap not (less_fits P a b (omega arith) (omega arith)))

-- the three at a width, as the code's tests of the signs find them
module _ {w a b : ℕ} (h : Both w a b) (x y : Bool) (ea : sign w a ≡ x) (eb : sign w b ≡ y) where
  pub signed_less_lem : lt_z (signed w a) (signed w b) ≡ signs_less x y (ltb a b)
  unfolding signed
  signed_less_lem = less_by_lem (2 ^ w) (2 ^ (w - 1)) a b (even_power w h.some) h.first h.second x y ea eb

  pub signed_carry : not (in_range w (signed w a +ℤ signed w b)) ≡ signs_carry x y (sign w ((a + b) % 2 ^ w))
  unfolding signed
  signed_carry = carry_by (2 ^ w) (2 ^ (w - 1)) a b (even_power w h.some) h.first h.second x y ea eb

  pub signed_borrow : not (in_range w (signed w a -ℤ signed w b)) ≡ signs_borrow x y (sign w ((a + (2 ^ w - b)) % 2 ^ w))
  unfolding signed
  signed_borrow = borrow_by (2 ^ w) (2 ^ (w - 1)) a b (even_power w h.some) h.first h.second x y ea eb
