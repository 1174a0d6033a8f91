-- Decimals: the digits of a number are read as it, and a row that is read as a number is its digits.
use Rattle.std.proofs.Common.{Option, None, Some, ℕ, zero, suc, ◌+◌, ◌*◌, ◌-◌, ◌/◌, ◌%◌, ◌^◌, ◌<◌, ◌≤◌, arith, pow-suc, ◌≡◌, refl, sym, ap, ◌∙◌, Bool, true, false, ◌⊎◌, inl, inr, List, [], ◌∷◌, ◌++◌, append-nil, ne_eqb, lt-ltb, le-ltb, ltb-true, ltb-false, le-leb, eqb, leb, ltb, length, length-append}
use borrow.Author.Tests.{eqb-false}
use lib.Seq.{append_snoc}
use Rattle.pcode.specs.Var.{pick}
use Rattle.fields.specs.Decimals.{step_of, on_value, digits_of, decimal_of}
use Rattle.fields.specs.Parts.{count_of}
use Rattle.print.specs.Texts.{digits_text}
use Rattle.roundtrip.proofs.Parts.{Without}
use Rattle.roundtrip.proofs.Inverse.{bad_good}

-- k digits are enough for a number
abbrev pub Enough : ℕ → ℕ → Type 0
Enough zero v = ⊥
Enough (suc k) v = 10 ≤ v → Enough k (v / 10)

tenth : (m v : ℕ) → v < m * 10 → v / 10 < m
tenth m v h = omega arith

pub enough : (k v : ℕ) → v < 10 ^ suc k → Enough (suc k) v
enough zero v h g = absurd (no h)
  where
    no : v < 10 → ⊥
    no z = omega arith
enough (suc k) v h g = enough k (v / 10) (tenth (10 ^ suc k) v (rw (pow-suc 10 (suc k)) at h))

-- a row of digits
abbrev pub Digits : List ℕ → Type 0
Digits [] = Unit {0}
Digits (x ∷ xs) = (48 ≤ x) × (x ≤ 57) × Digits xs

digits_append : (xs ys : List ℕ) → Digits xs → Digits ys → Digits (xs ++ ys)
digits_append [] ys h k = k
digits_append (x ∷ xs) ys h k = (h.0, h.1, digits_append xs ys h.2 k)

one_digit : (d : ℕ) → d < 10 → Digits ((48 + d) ∷ [])
one_digit d h = (omega arith, omega arith, tt)

pub digits_are : (k v : ℕ) → Digits (digits_text k v)
unfolding digits_text
digits_are zero v = tt
digits_are (suc k) v = go (ltb v 10) refl (digits_are k (v / 10))
  where
    go : (t : Bool) → ltb v 10 ≡ t → Digits (digits_text k (v / 10)) → Digits (pick t ((48 + v) ∷ []) (digits_text k (v / 10) ++ ((48 + v % 10) ∷ [])))
    go true e h = one_digit v (ltb-true v 10 e)
    go false e h = digits_append (digits_text k (v / 10)) ((48 + v % 10) ∷ []) h (one_digit (v % 10) (omega arith))

-- a byte that is no digit does not stand in a row of digits
digits_without : (b : ℕ) → (b < 48) ⊎ (57 < b) → (s : List ℕ) → Digits s → Without b s
unfolding count_of
digits_without b f [] h = refl
digits_without b f (x ∷ s) h = rw (ne_eqb x b (apart f)) (digits_without b f s h.2)
  where
    apart : (b < 48) ⊎ (57 < b) → x ≡ b → ⊥
    apart (inl g) e = omega (arith, h.0)
    apart (inr g) e = omega (arith, h.1)

pub digits_apart : (b k v : ℕ) → (b < 48) ⊎ (57 < b) → Without b (digits_text k v)
digits_apart b k v f = digits_without b f (digits_text k v) (digits_are k v)

pub length_digits : (k v : ℕ) → length (digits_text k v) ≤ k
unfolding digits_text
length_digits zero v = omega arith
length_digits (suc k) v = go (ltb v 10) (length_digits k (v / 10))
  where
    go : (t : Bool) → length (digits_text k (v / 10)) ≤ k → length (pick t ((48 + v) ∷ []) (digits_text k (v / 10) ++ ((48 + v % 10) ∷ []))) ≤ suc k
    go true h = omega arith
    go false h = omega (arith, length-append (digits_text k (v / 10)) ((48 + v % 10) ∷ []))

-- the last digit, and those before it
pub digits_one : (k v : ℕ) → v < 10 → digits_text (suc k) v ≡ (48 + v) ∷ []
unfolding digits_text
digits_one k v h = rw (lt-ltb v 10 h)

pub digits_more : (k v : ℕ) → 10 ≤ v → digits_text (suc k) v ≡ digits_text k (v / 10) ++ ((48 + v % 10) ∷ [])
unfolding digits_text
digits_more k v h = rw (le-ltb v 10 h)

-- digits put after digits
digits_then : (limit : ℕ) (xs ys : List ℕ) (u w : ℕ) → digits_of limit u xs ≡ Some w → digits_of limit u (xs ++ ys) ≡ digits_of limit w ys
unfolding digits_of
digits_then limit [] ys u w e = ap (λ (p : Option ℕ). on_value p None (λ (v : ℕ). digits_of limit v ys)) e
digits_then limit (x ∷ xs) ys u w e₀ = go (step_of limit u x) (digits_then limit xs ys) e₀
  where
    go : (p : Option ℕ) → ((u w : ℕ) → digits_of limit u xs ≡ Some w → digits_of limit u (xs ++ ys) ≡ digits_of limit w ys) →
        on_value p None (λ v. digits_of limit v xs) ≡ Some w → on_value p None (λ v. digits_of limit v (xs ++ ys)) ≡ digits_of limit w ys
    go None f e = ap (λ (p : Option ℕ). on_value p None (λ (v : ℕ). digits_of limit v ys)) e
    go (Some v) f e = f v w e

step_value : (limit u d : ℕ) → d < 10 → 10 * u + d ≤ limit → step_of limit u (48 + d) ≡ Some (10 * u + d)
unfolding step_of
step_value limit u d h g =
    let e : 48 + d - 48 ≡ d = omega arith in
    rw (le-ltb (48 + d) 48 (omega arith), le-ltb 57 (48 + d) (omega arith), e, le-leb (10 * u + d) limit g)

digits_single : (limit u d : ℕ) → d < 10 → 10 * u + d ≤ limit → digits_of limit u ((48 + d) ∷ []) ≡ Some (10 * u + d)
unfolding digits_of
digits_single limit u d h g = rw (step_value limit u d h g)

digits_read : (limit k v : ℕ) → Enough k v → v ≤ limit → digits_of limit 0 (digits_text k v) ≡ Some v
digits_read limit zero v h g = absurd h
digits_read limit (suc k) v h g = go (ltb v 10) refl (digits_read limit k (v / 10))
  where
    go : (t : Bool) → ltb v 10 ≡ t → (Enough k (v / 10) → v / 10 ≤ limit → digits_of limit 0 (digits_text k (v / 10)) ≡ Some (v / 10)) →
        digits_of limit 0 (digits_text (suc k) v) ≡ Some v
    go true e f =
        let q : 10 * 0 + v ≡ v = omega arith in
        rw (digits_one k v (ltb-true v 10 e)) (digits_single limit 0 v (ltb-true v 10 e) (omega arith) ∙ ap Some q)
    go false e f =
        let m : 10 ≤ v = ltb-false v 10 e in
        let q : 10 * (v / 10) + v % 10 ≡ v = omega arith in
        rw (digits_more k v m)
        (digits_then limit (digits_text k (v / 10)) ((48 + v % 10) ∷ []) 0 (v / 10) (f (h m) (omega arith))
        ∙ digits_single limit (v / 10) (v % 10) (omega arith) (omega arith) ∙ ap Some q)

-- a row that starts with no zero
abbrev Leads : List ℕ → Type 0
Leads [] = ⊥
Leads (x ∷ xs) = x ≡ 48 → ⊥

leads_append : (xs ys : List ℕ) → Leads xs → Leads (xs ++ ys)
leads_append [] ys h = absurd h
leads_append (x ∷ xs) ys h = h

leads_digit : (v : ℕ) → 0 < v → 48 + v ≡ 48 → ⊥
leads_digit v h e = omega arith

digits_lead : (k v : ℕ) → Enough k v → 0 < v → Leads (digits_text k v)
unfolding digits_text
digits_lead zero v h g = absurd h
digits_lead (suc k) v h g = go (ltb v 10) refl (digits_lead k (v / 10))
  where
    go : (t : Bool) → ltb v 10 ≡ t → (Enough k (v / 10) → 0 < v / 10 → Leads (digits_text k (v / 10))) →
        Leads (pick t ((48 + v) ∷ []) (digits_text k (v / 10) ++ ((48 + v % 10) ∷ [])))
    go true e f = leads_digit v g
    go false e f = let m : 10 ≤ v = ltb-false v 10 e in leads_append (digits_text k (v / 10)) ((48 + v % 10) ∷ []) (f (h m) (omega arith))

decimal_led : (limit : ℕ) (s : List ℕ) → Leads s → decimal_of limit s ≡ digits_of limit 0 s
unfolding decimal_of
decimal_led limit [] h = absurd h
decimal_led limit (b ∷ []) h = refl
decimal_led limit (b ∷ c ∷ s) h = rw (ne_eqb b 48 h)

-- the digits of a number within the limit are read as it
pub decimal_digits : (limit k v : ℕ) → Enough k v → v ≤ limit → decimal_of limit (digits_text k v) ≡ Some v
unfolding decimal_of
decimal_digits limit zero v h g = absurd h
decimal_digits limit (suc k) zero h g = rw (digits_one k 0 (omega arith)) (digits_single limit 0 0 (omega arith) (omega arith))
decimal_digits limit (suc k) (suc v) h g =
    decimal_led limit (digits_text (suc k) (suc v)) (digits_lead (suc k) (suc v) h (omega arith)) ∙ digits_read limit (suc k) (suc v) h g

-- what a digit that was read tells
record Step (u b w : ℕ) : Type 0 where
  low : 48 ≤ b
  high : b ≤ 57
  value : 10 * u + (b - 48) ≡ w

step_read : (limit u b w : ℕ) → step_of limit u b ≡ Some w → Step u b w
unfolding step_of
step_read limit u b w = go (ltb b 48) (ltb 57 b) (leb (10 * u + (b - 48)) limit) refl refl
  where
    go : (s t z : Bool) → ltb b 48 ≡ s → ltb 57 b ≡ t → pick s None (pick t None (pick z (Some (10 * u + (b - 48))) None)) ≡ Some w → Step u b w
    go true t z h k e = absurd (bad_good w e)
    go false true z h k e = absurd (bad_good w e)
    go false false false h k e = absurd (bad_good w e)
    go false false true h k e = record { low = ltb-false b 48 h; high = ltb-false 57 b k; value = cc }

-- a row's number of digits does not matter where it is enough
same_digits : (j k v : ℕ) → Enough j v → Enough k v → digits_text j v ≡ digits_text k v
unfolding digits_text
same_digits zero k v h g = absurd h
same_digits (suc j) zero v h g = absurd g
same_digits (suc j) (suc k) v h g = go (ltb v 10) refl (same_digits j k (v / 10))
  where
    go : (t : Bool) → ltb v 10 ≡ t → (Enough j (v / 10) → Enough k (v / 10) → digits_text j (v / 10) ≡ digits_text k (v / 10)) →
        pick t ((48 + v) ∷ []) (digits_text j (v / 10) ++ ((48 + v % 10) ∷ [])) ≡ pick t ((48 + v) ∷ []) (digits_text k (v / 10) ++ ((48 + v % 10) ∷ []))
    go true e f = refl
    go false e f = let m : 10 ≤ v = ltb-false v 10 e in ap (λ (l : List ℕ). l ++ ((48 + v % 10) ∷ [])) (f (h m) (g m))

-- one digit more, after digits that lead with no zero
module _ (k u b : ℕ) (h : Enough k u) (g : 0 < u) (low : 48 ≤ b) (high : b ≤ 57) where
  next_enough : (w : ℕ) → 10 * u + (b - 48) ≡ w → Enough (suc k) w
  next_enough w e m = let q : u ≡ w / 10 = omega arith in rw (← q) h

  next_digit : (w : ℕ) → 10 * u + (b - 48) ≡ w → digits_text (suc k) w ≡ digits_text k u ++ (b ∷ [])
  next_digit w e =
      let q : w / 10 ≡ u = omega arith in
      let r : 48 + w % 10 ≡ b = omega arith in
      digits_more k w (omega arith) ∙ rw (q, r)

-- digits that follow those of u, read on from u to v
follow : (limit : ℕ) (s : List ℕ) (k u v n : ℕ) → n ≡ k + length s → Enough k u → 0 < u → digits_of limit u s ≡ Some v →
    (digits_text k u ++ s ≡ digits_text n v) × Enough n v
unfolding digits_of
follow limit [] k u v n a h g e =
    let q : u ≡ v = cc in
    let r : n ≡ k = omega (arith, a) in
    (append-nil (digits_text k u) ∙ rw (q, r), rw (r, ← q) h)
follow limit (b ∷ s) k u v n a h g e₀ = go (step_of limit u b) refl (follow limit s (suc k)) e₀
  where
    go : (p : Option ℕ) → step_of limit u b ≡ p → ((u v n : ℕ) → n ≡ suc k + length s → Enough (suc k) u → 0 < u → digits_of limit u s ≡ Some v →
        (digits_text (suc k) u ++ s ≡ digits_text n v) × Enough n v) →
        on_value p None (λ w. digits_of limit w s) ≡ Some v → (digits_text k u ++ b ∷ s ≡ digits_text n v) × Enough n v
    go None q f e = absurd (bad_good v e)
    go (Some w) q f e =
        let t = step_read limit u b w q in
        let m : 0 < w = omega (arith, t.value) in
        let r = f w v n (omega (arith, a)) (next_enough k u b h g t.low t.high w t.value) m e in
        (sym (append_snoc (digits_text k u) b s) ∙ ap (λ (l : List ℕ). l ++ s) (sym (next_digit k u b h g t.low t.high w t.value)) ∙ r.0, r.1)

-- the first digit
first_digit : (b w : ℕ) → 48 ≤ b → b ≤ 57 → 10 * 0 + (b - 48) ≡ w → (w < 10) × (48 + w ≡ b)
first_digit b w low high e = (omega arith, omega arith)

digits_back : (limit b : ℕ) (s : List ℕ) (v : ℕ) → (b ≡ 48 → ⊥) → digits_of limit 0 (b ∷ s) ≡ Some v →
    (b ∷ s ≡ digits_text (1 + length s) v) × Enough (1 + length s) v
unfolding digits_of
digits_back limit b s v h = go (step_of limit 0 b) refl
  where
    go : (p : Option ℕ) → step_of limit 0 b ≡ p → on_value p None (λ w. digits_of limit w s) ≡ Some v → (b ∷ s ≡ digits_text (1 + length s) v) × Enough (1 + length s) v
    go None q e = absurd (bad_good v e)
    go (Some w) q e =
        let t = step_read limit 0 b w q in
        let d = first_digit b w t.low t.high t.value in
        let m : 0 < w = omega (arith, positive t.low t.value) in
        let r = follow limit s 1 w v (1 + length s) refl (λ i. absurd (ten w d.0 i)) m e in
        (ap (λ (l : List ℕ). l ++ s) (sym (digits_one 0 w d.0 ∙ ap (λ (x : ℕ). x ∷ []) d.1)) ∙ r.0, r.1)
      where
        ten : (x : ℕ) → x < 10 → 10 ≤ x → ⊥
        ten x i j = omega arith

        positive : 48 ≤ b → 10 * 0 + (b - 48) ≡ w → 0 < w
        positive i j = omega (arith, h)

digits_alone : (limit k b v : ℕ) → digits_of limit 0 (b ∷ []) ≡ Some v → b ∷ [] ≡ digits_text (suc k) v
unfolding digits_of
digits_alone limit k b v = go (step_of limit 0 b) refl
  where
    go : (p : Option ℕ) → step_of limit 0 b ≡ p → on_value p None Some ≡ Some v → b ∷ [] ≡ digits_text (suc k) v
    go None q e = absurd (bad_good v e)
    go (Some w) q e =
        let t = step_read limit 0 b w q in
        let r : w ≡ v = cc in
        let d = first_digit b v t.low t.high (t.value ∙ r) in
        ap (λ (x : ℕ). x ∷ []) (sym d.1) ∙ sym (digits_one k v d.0)

-- a decimal that is read as a number is its digits, in a room that is enough
pub decimal_back : (limit k : ℕ) (s : List ℕ) (v : ℕ) → Enough (suc k) v → decimal_of limit s ≡ Some v → s ≡ digits_text (suc k) v
unfolding decimal_of
decimal_back limit k [] v h e = absurd (bad_good v e)
decimal_back limit k (b ∷ []) v h e = digits_alone limit k b v e
decimal_back limit k (b ∷ c ∷ s) v h e₀ = go (eqb b 48) refl e₀
  where
    go : (t : Bool) → eqb b 48 ≡ t → pick t None (digits_of limit 0 (b ∷ c ∷ s)) ≡ Some v → b ∷ c ∷ s ≡ digits_text (suc k) v
    go true q e = absurd (bad_good v e)
    go false q e =
        let r = digits_back limit b (c ∷ s) v (eqb-false b 48 q) e in
        r.0 ∙ same_digits (1 + length (c ∷ s)) (suc k) v r.1 h
