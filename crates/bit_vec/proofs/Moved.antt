-- Laws of moves: cutting and extending, the sign, truth values, digits. Assumes nothing.
use Rattle.std.proofs.Common.{ℕ, zero, suc, ◌+◌, ◌-◌, ◌/◌, ◌^◌, ◌≤◌, ◌<◌, min, ◌≡◌, refl, sym, ◌∙◌, ap, subst, List, [], ◌∷◌, ◌++◌, map, arith, length, take, get_or, set, replicate, shr-shr}
use Rattle.std.specs.Option.{unwrap_or}
use Rattle.std.specs.List.{slice_get}
use lib.ListN.{length-map}
use Rattle.bit.specs.Bits.{code_of, bit_of, not_b}
use Rattle.bit.specs.declared.Bit.{Bit}
use Rattle.bit.specs.declared.Bit.TheVariants.{Zero}
use Rattle.bit_vec.specs.Lists.{bits, codes}
use Rattle.bit_vec.specs.Moves.{fit, last_of, truth, digit, digits}

-- a copy, place by place
pub length_fit : {A : Type 0} (z : A) (n : ℕ) (xs : List A) → length (fit z n xs) ≡ n
length_fit z zero xs = refl
length_fit z (suc n) [] = ap suc (length_fit z n [])
length_fit z (suc n) (x ∷ xs) = ap suc (length_fit z n xs)

-- inside, what would stand past the end does not matter
pub get_d_in : (s : List ℕ) (i d : ℕ) → i < length s → get_or s i 0 ≡ get_or s i d
get_d_in [] i d h = absurd (omega (arith, h))
get_d_in (x ∷ s) zero d h = refl
get_d_in (x ∷ s) (suc i) d h = get_d_in s i d (omega arith)

-- the last element, by its place
pub last_at : (z : ℕ) (xs : List ℕ) → 0 < length xs → get_or xs (length xs - 1) z ≡ last_of z xs
last_at z [] h = absurd (omega (arith, h))
last_at z (x ∷ []) h = refl
last_at z (x ∷ (y ∷ ys)) h =
    let q : suc (suc (length ys)) - 1 ≡ suc (suc (length ys) - 1) = omega arith in
    let w : suc (length ys) - 1 < length (y ∷ ys) = omega arith in
    rw q (sym (get_d_in (y ∷ ys) (suc (length ys) - 1) z w) ∙ get_d_in (y ∷ ys) (suc (length ys) - 1) x w ∙ last_at x (y ∷ ys) (omega arith))

pub last_none : (z : ℕ) (xs : List ℕ) → length xs ≤ 0 → z ≡ last_of z xs
last_none z [] h = refl
last_none z (x ∷ xs) h = absurd (omega (arith, h))

-- the sign is the last element
pub last_got : (z : ℕ) (xs : List ℕ) → unwrap_or (slice_get xs (length xs - 1)) z ≡ last_of z xs
last_got z [] = refl
last_got z (x ∷ []) = refl
last_got z (x ∷ (y ∷ ys)) =
    let q : suc (suc (length ys)) - 1 ≡ suc (suc (length ys) - 1) = omega arith in
    rw q (last_got z (y ∷ ys))

-- a truth value
codes_zero : (n : ℕ) → replicate n (code_of Zero) ≡ codes (replicate n Zero)
codes_zero zero = refl
codes_zero (suc n) = ap (λ (l : List ℕ). code_of Zero ∷ l) (codes_zero n)

pub truth_set : (n : ℕ) (b : Bit) → 0 < n → set (replicate n (code_of Zero)) 0 (code_of b) ≡ codes (truth n b)
truth_set zero b h = absurd (omega (arith, h))
truth_set (suc n) b h = ap (λ (l : List ℕ). code_of b ∷ l) (codes_zero n)

-- a number's digits, place by place
pub length_digits : (n v : ℕ) → length (digits n v) ≡ n
length_digits zero v = refl
length_digits (suc n) v = ap suc (length_digits n (v / 2))

pub digits_at : (n v i : ℕ) → i < n → code_of (digit (v / 2 ^ i)) ≡ get_or (codes (digits n v)) i 0
digits_at zero v i h = absurd (omega (arith, h))
digits_at (suc n) v zero h =
    let q : v / 1 ≡ v = omega arith in
    ap (λ (x : ℕ). code_of (digit x)) q
digits_at (suc n) v (suc i) h =
    let q : v / 2 / 2 ^ i ≡ v / 2 ^ (1 + i) = shr-shr v 1 i in
    let s : 1 + i ≡ suc i = omega arith in
    ap (λ (x : ℕ). code_of (digit x)) (sym (q ∙ ap (λ (k : ℕ). v / 2 ^ k) s)) ∙ digits_at n (v / 2) i (omega arith)

pub halved : (v i r : ℕ) → r ≡ v / 2 ^ i → r / 2 ≡ v / 2 ^ (i + 1)
halved v i r e = ap (λ (x : ℕ). x / 2) e ∙ shr-shr v i 1

pub length_number : (n v : ℕ) → length (codes (digits n v)) ≡ n
length_number n v = length-map (digits n v) code_of ∙ length_digits n v

-- an inversion, place by place
pub not_at : (s : List ℕ) (i : ℕ) → i < length s → code_of (not_b (bit_of (get_or s i 0))) ≡ get_or (codes (map not_b (bits s))) i 0
not_at [] i h = absurd (omega (arith, h))
not_at (x ∷ s) zero h = refl
not_at (x ∷ s) (suc i) h = not_at s i (omega arith)

pub length_not : (s : List ℕ) → length (codes (map not_b (bits s))) ≡ length s
length_not s = simp length-map

-- the sign of codes is the code of the sign
pub last_bits : (z : ℕ) (xs : List ℕ) → bit_of (last_of z xs) ≡ last_of (bit_of z) (bits xs)
last_bits z [] = refl
last_bits z (x ∷ xs) = last_bits x xs

zero_round : bit_of (code_of Zero) ≡ Zero
unfolding bit_of code_of
zero_round = refl

pub sign_bit : (xs : List ℕ) → bit_of (last_of (code_of Zero) xs) ≡ last_of Zero (bits xs)
sign_bit xs = last_bits (code_of Zero) xs ∙ ap (λ (z : Bit). last_of z (bits xs)) zero_round

-- cutting and extending
pub fit_cut : {A : Type 0} (z : A) (n : ℕ) (xs : List A) → n ≤ length xs → fit z n xs ≡ take n xs
fit_cut z zero xs h = refl
fit_cut z (suc n) [] h = absurd (omega (arith, h))
fit_cut {A} z (suc n) (x ∷ xs) h = ap {B = List A} (λ (l : List A). x ∷ l) (fit_cut z n xs (omega arith))

fit_nil : {A : Type 0} (z : A) (n : ℕ) → fit z n [] ≡ replicate n z
fit_nil z zero = refl
fit_nil {A} z (suc n) = ap {B = List A} (λ (l : List A). z ∷ l) (fit_nil z n)

pub fit_extend : {A : Type 0} (z : A) (k : ℕ) (xs : List A) → fit z (length xs + k) xs ≡ xs ++ replicate k z
fit_extend z k [] = ap (λ (n : ℕ). fit z n []) (let q : 0 + k ≡ k = omega arith in q) ∙ fit_nil z k
fit_extend {A} z k (x ∷ xs) =
    ap (λ (n : ℕ). fit z n (x ∷ xs)) (let q : suc (length xs) + k ≡ suc (length xs + k) = omega arith in q)
    ∙ ap {B = List A} (λ (l : List A). x ∷ l) (fit_extend z k xs)

-- a copy of what fits, and z in the places above
pub fit_parts : {A : Type 0} (z : A) (n : ℕ) (xs : List A) (k : ℕ) → k ≡ min n (length xs) → take k xs ++ replicate (n - k) z ≡ fit z n xs
fit_parts z zero xs k e =
    let q : k ≡ 0 = omega arith in
    rw q
fit_parts z (suc n) [] k e =
    let q : k ≡ 0 = omega arith in
    let r : suc n - k ≡ suc n = omega arith in
    rw (r, q) (sym (fit_nil z (suc n)))
fit_parts {A} z (suc n) (x ∷ xs) k e =
    let q : k ≡ suc (k - 1) = omega arith in
    let r : suc n - suc (k - 1) ≡ n - (k - 1) = omega arith in
    let h : take (k - 1) xs ++ replicate (n - (k - 1)) z ≡ fit z n xs = fit_parts z n xs (k - 1) (omega arith) in
    subst (λ (j : ℕ). take j (x ∷ xs) ++ replicate (suc n - j) z ≡ fit z (suc n) (x ∷ xs)) (sym q)
    (ap (λ (j : ℕ). (x ∷ take (k - 1) xs) ++ replicate j z) r ∙ ap {B = List A} (λ (l : List A). x ∷ l) h)
