-- The number of a list of truth values, and the lowest bits of a number.
use Rattle.std.proofs.Common.{ℕ, zero, suc, ◌+◌, ◌*◌, ◌-◌, ◌/◌, ◌%◌, ◌^◌, ◌≤◌, ◌<◌, ◌≡◌, refl, sym, ◌∙◌, ap, ap₂, Bool, true, false, not, List, [], ◌∷◌, ◌++◌, map, mul_assoc, pow-suc, mod-eq_of_lt, div-one, zero-add, arith, eq-eqb, ne_eqb, le-leb, leb-true, eqb, leb, pow_pos, length, drop, replicate}
use native.Mathlib.Nat.{pow-succ', mod-one, mod-eq-sub-mod, div-div-eq-div-mul, zero-div}
use borrow.Author.Tests.{lt-leb}
use lib.Arith.{mod-mul}
use Rattle.bit.specs.Bits.{one_if}
use Rattle.bit_vec.specs.Moves.{fit, last_of}
use Rattle.meaning.specs.Meaning.{sign}
use Rattle.concrete.proofs.Widths.{iff}
use Rattle.sound.specs.Sound.{num, low}

pub small : (t : Bool) → one_if t < 2
small true = omega arith
small false = omega arith

pub parity : (n : ℕ) (t : Bool) → n ≡ one_if t → eqb n 1 ≡ t
parity n true h = eq-eqb n 1 h
parity n false h = ne_eqb n 1 (omega arith)

-- P where the test passes, else 0
abbrev pub when : Bool → ℕ → ℕ
when true P = P
when false P = 0

pub when_double : (t : Bool) (P : ℕ) → when t (2 * P) ≡ 2 * when t P
when_double true P = refl
when_double false P = refl

pub num_head : (v : Bool) (n : ℕ) → (one_if v + 2 * n) % 2 ≡ one_if v
num_head v n = omega (arith, small v)

pub num_tail : (v : Bool) (n : ℕ) → (one_if v + 2 * n) / 2 ≡ n
num_tail v n = omega (arith, small v)

pub num_lt : (vs : List Bool) → num vs < 2 ^ length vs
num_lt [] = omega arith
num_lt (v ∷ vs) =
    let p : 2 ^ suc (length vs) ≡ 2 * 2 ^ length vs = pow-succ' 2 (length vs) in
    omega (arith, num_lt vs, small v)

-- cutting or extending with false keeps the low bits
pub low_fit : (n : ℕ) (vs : List Bool) → low n (num vs) ≡ fit false n vs
low_fit zero vs = refl
low_fit (suc n) [] = ap (λ (l : List Bool). false ∷ l) (low_fit n [])
low_fit (suc n) (v ∷ vs) =
    ap₂ (λ (x : Bool) (l : List Bool). x ∷ l) (parity ((one_if v + 2 * num vs) % 2) v (num_head v (num vs)))
    (ap (low n) (num_tail v (num vs)) ∙ low_fit n vs)

pub fit_all : {A : Type 0} (z : A) (n : ℕ) (vs : List A) → length vs ≡ n → fit z n vs ≡ vs
fit_all z zero [] e = refl
fit_all z zero (v ∷ vs) e = absurd (omega (arith, e))
fit_all z (suc n) [] e = absurd (omega (arith, e))
fit_all z (suc n) (v ∷ vs) e = ap (λ l. v ∷ l) (fit_all z n vs (omega arith))

-- the lowest n bits of a number are the list of n bits that has this number
pub low_num : (n k : ℕ) (vs : List Bool) → length vs ≡ n → k ≡ num vs → low n k ≡ vs
low_num n k vs e h = ap (low n) h ∙ low_fit n vs ∙ fit_all false n vs e

pub length_low : (n k : ℕ) → length (low n k) ≡ n
length_low zero k = refl
length_low (suc n) k = ap suc (length_low n (k / 2))

bit : (r : ℕ) → r < 2 → one_if (eqb r 1) ≡ r
bit zero h = refl
bit (suc zero) h = refl
bit (suc (suc r)) h = absurd (omega (arith, h))

-- their number is k modulo 2 to the n
pub num_low : (n k : ℕ) → num (low n k) ≡ k % 2 ^ n
num_low zero k = sym (mod-one k)
num_low (suc n) k =
    let b : k % 2 < 2 = omega arith in
    let p : 2 ^ suc n ≡ 2 ^ n * 2 = pow-suc 2 n in
    let m : k % (2 ^ n * 2) ≡ (k / 2 % 2 ^ n) * 2 + k % 2 = mod-mul k (pow_pos n) (omega arith) in
    let h : one_if (eqb (k % 2) 1) ≡ k % 2 = bit (k % 2) b in
    rw (p, m) (omega (arith, num_low n (k / 2)))

pub low_mod : (n k : ℕ) → low n (k % 2 ^ n) ≡ low n k
low_mod n k = low_num n (k % 2 ^ n) (low n k) (length_low n k) (sym (num_low n k))

-- without the lowest k
pub num_drop : (k : ℕ) (vs : List Bool) → num (drop k vs) ≡ num vs / 2 ^ k
num_drop zero vs = sym (div-one (num vs))
num_drop (suc k) [] = sym (zero-div (2 ^ suc k))
num_drop (suc k) (v ∷ vs) =
    let p : 2 ^ suc k ≡ 2 * 2 ^ k = pow-succ' 2 k in
    num_drop k vs ∙ ap (λ (n : ℕ). n / 2 ^ k) (sym (num_tail v (num vs))) ∙ div-div-eq-div-mul (num (v ∷ vs)) 2 (2 ^ k) ∙ ap (λ (n : ℕ). num (v ∷ vs) / n) (sym p)

-- extended with u
pub num_fit : (u : Bool) (n : ℕ) (vs : List Bool) → length vs ≤ n → num (fit u n vs) ≡ num vs + when u (2 ^ n - 2 ^ length vs)
num_fit true zero [] h = refl
num_fit false zero [] h = refl
num_fit u zero (v ∷ vs) h = absurd (omega (arith, h))
num_fit true (suc n) [] h =
    let p : 2 ^ suc n ≡ 2 * 2 ^ n = pow-succ' 2 n in
    omega (arith, num_fit true n [] (omega arith), pow_pos n)
num_fit false (suc n) [] h = omega (arith, num_fit false n [] (omega arith))
num_fit true (suc n) (v ∷ vs) h =
    let p : 2 ^ suc n ≡ 2 * 2 ^ n = pow-succ' 2 n in
    let q : 2 ^ suc (length vs) ≡ 2 * 2 ^ length vs = pow-succ' 2 (length vs) in
    omega (arith, num_fit true n vs (omega arith))
num_fit false (suc n) (v ∷ vs) h = omega (arith, num_fit false n vs (omega arith))

one_not : (v : Bool) → one_if (not v) + one_if v ≡ 1
one_not true = refl
one_not false = refl

-- every bit flipped
pub num_not : (vs : List Bool) → num (map not vs) + num vs + 1 ≡ 2 ^ length vs
num_not [] = refl
num_not (v ∷ vs) =
    let p : 2 ^ suc (length vs) ≡ 2 * 2 ^ length vs = pow-succ' 2 (length vs) in
    omega (arith, num_not vs, one_not v)

pub num_flip : (vs : List Bool) → num (map not vs) ≡ 2 ^ length vs - 1 - num vs
num_flip vs = omega (arith, num_not vs)

pub num_false : (n : ℕ) → num (replicate n false) ≡ 0
num_false zero = refl
num_false (suc n) = omega (arith, num_false n)

pub num_append : (vs ws : List Bool) → num (vs ++ ws) ≡ num vs + 2 ^ length vs * num ws
num_append [] ws = omega arith
num_append (v ∷ vs) ws =
    let p : 2 ^ suc (length vs) * num ws ≡ 2 * (2 ^ length vs * num ws) = ap (λ (n : ℕ). n * num ws) (pow-succ' 2 (length vs)) ∙ mul_assoc 2 (2 ^ length vs) (num ws) in
    omega (arith, num_append vs ws)

-- the highest bit is the sign
last_sign : (z : Bool) (vs : List Bool) → last_of z vs ≡ leb (2 ^ length vs) (one_if z + 2 * num vs)
last_sign true [] = refl
last_sign false [] = refl
last_sign z (v ∷ vs) =
    let p : 2 ^ suc (length vs) ≡ 2 * 2 ^ length vs = pow-succ' 2 (length vs) in
    let s : one_if z < 2 = small z in
    last_sign v vs
    ∙ iff (leb (2 ^ length vs) (one_if v + 2 * num vs)) (leb (2 ^ suc (length vs)) (one_if z + 2 * num (v ∷ vs)))
    (λ t. le-leb (2 ^ suc (length vs)) (one_if z + 2 * num (v ∷ vs)) (let l = leb-true (2 ^ length vs) (one_if v + 2 * num vs) t in omega arith))
    (λ t. le-leb (2 ^ length vs) (one_if v + 2 * num vs) (let l = leb-true (2 ^ suc (length vs)) (one_if z + 2 * num (v ∷ vs)) t in omega arith))

pub sign_last : (vs : List Bool) → sign (length vs) (num vs) ≡ last_of false vs
sign_last vs = sym (last_sign false vs ∙ ap (leb (2 ^ length vs)) (zero-add (2 * num vs)))

-- d below P with P where t holds: the rest of k modulo P, and whether k is P or more
pub wrapped : (P d k : ℕ) (t : Bool) → d < P → d + when t P ≡ k → (k % P ≡ d) × (leb P k ≡ t)
wrapped P d k true l e =
    let h : P ≤ k = omega arith in
    let m : k % P ≡ (k - P) % P = mod-eq-sub-mod h in
    let q : k - P ≡ d = omega arith in
    (m ∙ ap (λ (n : ℕ). n % P) q ∙ mod-eq_of_lt l, le-leb P k h)
wrapped P d k false l e =
    let q : k ≡ d = omega arith in
    (ap (λ (n : ℕ). n % P) q ∙ mod-eq_of_lt l, lt-leb P k (omega arith))
