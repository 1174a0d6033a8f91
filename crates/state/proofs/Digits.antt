-- Numbers and their bytes: what a part of a list of bytes stands for, and what two halves' bytes make.
use Rattle.std.proofs.Common.{ℕ, zero, suc, ◌+◌, ◌*◌, ◌-◌, ◌/◌, ◌%◌, ◌^◌, ◌<◌, ◌≤◌, min, arith, add-one, mul_comm, mul_assoc, mul-add, zero-add, suc-add, le_of_suc-le-suc, not-suc-le-zero, div-one, div-lt_iff_lt-mul, lit<, ◌≡◌, refl, sym, ap, ◌∙◌, subst, List, [], ◌∷◌, ◌++◌, append-nil, length, take, drop, get_or, drop_of_length-le, length-append, length-drop, replicate, drop-cons, take_at, take_all, inl, inr}
use native.Mathlib.Nat.{add-mul-div_left, div-div-eq-div-mul, add-mul-mod_self_left, pow-succ', one-le-pow}
use Rattle.std.proofs.lemmas.Bool.{cases_lt}
use borrow.Rule.Slice.PartMut.{put_mid}
use Rattle.std.specs.Int.{w64, from_le_bytes, to_le_bytes, bytes_low_first}
use Rattle.state.specs.Bytes.{num_of, bytes_of}

pub nothing : (xs : List ℕ) → num_of (take 0 xs) ≡ 0
unfolding num_of
nothing xs = refl

-- one byte more, below the others
pub one_more : (xs : List ℕ) (i n : ℕ) → i + n < length xs → num_of (take (suc n) (drop i xs)) ≡ get_or xs i 0 + 256 * num_of (take n (drop (i + 1) xs))
unfolding num_of
one_more xs i n h = rw (add-one, drop-cons xs i 0 (omega arith))

-- the bytes past the lowest k weigh 256^k more
pub split_at : (k m : ℕ) (xs : List ℕ) → k ≤ length xs → num_of (take (k + m) xs) ≡ num_of (take k xs) + 256 ^ k * num_of (take m (drop k xs))
unfolding num_of
split_at zero m xs h = let e = ap (λ (n : ℕ). num_of (take n xs)) (zero-add m) in omega arith
split_at (suc k) m [] h = absurd (not-suc-le-zero h)
split_at (suc k) m (x ∷ xs) h =
    let e = ap (λ (n : ℕ). num_of (take n (x ∷ xs))) (suc-add k m) in
    let f = split_at k m xs (le_of_suc-le-suc h) in
    let g = mul-add 256 (num_of (take k xs)) (256 ^ k * num_of (take m (drop k xs))) in
    let p : 256 ^ suc k * num_of (take m (drop k xs)) ≡ 256 * (256 ^ k * num_of (take m (drop k xs))) =
    ap (λ (n : ℕ). n * num_of (take m (drop k xs))) (pow-succ' 256 k) ∙ mul_assoc 256 (256 ^ k) (num_of (take m (drop k xs))) in
    let q = ap (λ (n : ℕ). 256 * n) f in
    omega arith

-- a part's first eight bytes, and those past them
pub two_halves : (xs : List ℕ) (m lo hi : ℕ) → m ≡ min (length xs) 8 → lo ≡ num_of (take m xs) → hi ≡ num_of (take (length xs - m) (drop m xs)) → lo + 2 ^ 64 * hi ≡ num_of xs
two_halves xs m lo hi e f g =
    let parts = split_at m (length xs - m) xs (omega arith) ∙ ap (λ (n : ℕ). n + 256 ^ m * num_of (take (length xs - m) (drop m xs))) (sym f) ∙ ap (λ (n : ℕ). lo + 256 ^ m * n) (sym g) in
    let all : num_of (take (m + (length xs - m)) xs) ≡ num_of xs = ap num_of (take_all (m + (length xs - m)) xs (omega arith)) in
    elim (cases_lt 8 (length xs)) [
      | inl l ↦
          let q : m ≡ 8 = omega arith in
          sym (sym all ∙ parts ∙ ap (λ (n : ℕ). lo + 256 ^ n * hi) q)
      | inr l ↦
          let q : length xs - m ≡ 0 = omega arith in
          let z : hi ≡ 0 = g ∙ ap (λ (n : ℕ). num_of (take n (drop m xs))) q ∙ nothing (drop m xs) in
          (let r = parts in let e : lo + 256 ^ m * hi ≡ lo = ap (λ (n : ℕ). lo + 256 ^ m * n) z ∙ omega arith in omega (arith, all, z, e, r))
    ]

-- up to n bytes stand for a number below 256^n
pub below : (n : ℕ) (xs : List ℕ) → ((k : ℕ) → get_or xs k 0 < 256) → num_of (take n xs) < 256 ^ n
unfolding num_of
below zero xs h = lit< tt
below (suc n) [] h = one-le-pow (suc n) 256 (lit< tt)
below (suc n) (x ∷ xs) h =
    let f = below n xs (λ k. h (suc k)) in
    let b = h zero in
    let p = pow-succ' 256 n in
    omega arith

-- a number's bytes one by one
pub byte_at : (n v i : ℕ) → i < n → get_or (bytes_of n v) i 0 ≡ v / 256 ^ i % 256
unfolding bytes_of
byte_at zero v i h = absurd (not-suc-le-zero h)
byte_at (suc n) v zero h = ap (λ (m : ℕ). m % 256) (sym (div-one v))
byte_at (suc n) v (suc i) h =
    byte_at n (v / 256) i (le_of_suc-le-suc h) ∙ ap (λ (m : ℕ). m % 256) (div-div-eq-div-mul v 256 (256 ^ i) ∙ ap (λ (m : ℕ). v / m) (sym (pow-succ' 256 i)))

pub bytes_length : (n v : ℕ) → length (bytes_of n v) ≡ n
unfolding bytes_of
bytes_length zero v = refl
bytes_length (suc n) v = ap suc (bytes_length n (v / 256))

-- the bytes of lo + 256^k * hi: lo's, then hi's
pub two_parts : (k n lo hi : ℕ) → lo < 256 ^ k → bytes_of (k + n) (lo + 256 ^ k * hi) ≡ bytes_of k lo ++ bytes_of n hi
unfolding bytes_of
two_parts zero n lo hi h =
    let z : lo ≡ 0 = omega arith in
    let e : lo + 1 * hi ≡ hi = omega arith in
    ap (λ (m : ℕ). bytes_of m (lo + 1 * hi)) (zero-add n) ∙ ap (λ (m : ℕ). bytes_of n m) e
two_parts (suc k) n lo hi h =
    let p = pow-succ' 256 k in
    let q : lo + 256 ^ suc k * hi ≡ lo + 256 * (256 ^ k * hi) = ap (λ (m : ℕ). lo + m) (ap (λ (m : ℕ). m * hi) p ∙ mul_assoc 256 (256 ^ k) hi) in
    let r : lo / 256 < 256 ^ k = (div-lt_iff_lt-mul (lit< tt)).1 (subst (λ (m : ℕ). lo < m) (p ∙ mul_comm 256 (256 ^ k)) h) in
    ap (λ (m : ℕ). bytes_of m (lo + 256 ^ suc k * hi)) (suc-add k n)
    ∙ ap (λ (m : ℕ). m % 256 ∷ bytes_of (k + n) (m / 256)) q
    ∙ ap (λ (m : ℕ). m ∷ bytes_of (k + n) ((lo + 256 * (256 ^ k * hi)) / 256)) (add-mul-mod_self_left lo 256 (256 ^ k * hi))
    ∙ ap (λ (m : ℕ). lo % 256 ∷ bytes_of (k + n) m) (add-mul-div_left lo (256 ^ k * hi) (lit< tt))
    ∙ ap (λ (l : List ℕ). lo % 256 ∷ l) (two_parts k n (lo / 256) hi r)

-- eight bytes as the library reads and writes them
eight : (bs : List ℕ) → length bs ≡ 8 → from_le_bytes w64 bs ≡ num_of bs
unfolding num_of
eight (a ∷ b ∷ c ∷ d ∷ e ∷ f ∷ g ∷ h ∷ []) l = omega arith
eight [] l = absurd (omega arith)
eight (a ∷ []) l = absurd (omega arith)
eight (a ∷ b ∷ []) l = absurd (omega arith)
eight (a ∷ b ∷ c ∷ []) l = absurd (omega arith)
eight (a ∷ b ∷ c ∷ d ∷ []) l = absurd (omega arith)
eight (a ∷ b ∷ c ∷ d ∷ e ∷ []) l = absurd (omega arith)
eight (a ∷ b ∷ c ∷ d ∷ e ∷ f ∷ []) l = absurd (omega arith)
eight (a ∷ b ∷ c ∷ d ∷ e ∷ f ∷ g ∷ []) l = absurd (omega arith)
eight (a ∷ b ∷ c ∷ d ∷ e ∷ f ∷ g ∷ h ∷ i ∷ xs) l = absurd (omega arith)

zeros : (n : ℕ) → num_of (replicate n 0) ≡ 0
unfolding num_of
zeros zero = refl
zeros (suc n) = let e = zeros n in omega arith

drop_zeros : (k n : ℕ) → num_of (drop k (replicate n 0)) ≡ 0
unfolding num_of
drop_zeros zero n = zeros n
drop_zeros (suc k) zero = refl
drop_zeros (suc k) (suc n) = drop_zeros k n

before_zeros : (xs zs : List ℕ) → num_of zs ≡ 0 → num_of (xs ++ zs) ≡ num_of xs
unfolding num_of
before_zeros [] zs h = h
before_zeros (x ∷ xs) zs h = ap (λ (m : ℕ). x + 256 * m) (before_zeros xs zs h)

-- up to eight bytes, laid over zeros
pub padded : (xs ys : List ℕ) (r : ℕ) → r ≡ from_le_bytes w64 (put_mid 0 (length xs) (replicate 8 0) ys) → ys ≡ xs → length xs ≤ 8 → r ≡ num_of xs
padded xs ys r e f h =
    let eights : List ℕ = replicate 8 0 in
    let zs : List ℕ = drop (length xs) eights in
    let long : length (ys ++ zs) ≡ 8 = omega (arith, length-append ys zs, length-drop (length xs) eights, ap length f) in
    e ∙ eight (ys ++ zs) long ∙ before_zeros ys zs (drop_zeros (length xs) 8) ∙ ap num_of f

low_first : (n i v : ℕ) → bytes_low_first i n v ≡ bytes_of n (v / 256 ^ i)
unfolding bytes_of
low_first zero i v = refl
low_first (suc n) zero v = rw (div-one v) (ap (λ (l : List ℕ). v % 256 ∷ l) (low_first n 1 v))
low_first (suc n) (suc i) v = ap (λ (l : List ℕ). v / 256 ^ suc i % 256 ∷ l)
    (low_first n (suc (suc i)) v ∙ ap (bytes_of n) (ap (λ (m : ℕ). v / m) (pow-succ' 256 (suc i) ∙ mul_comm 256 (256 ^ suc i)) ∙ sym (div-div-eq-div-mul v (256 ^ suc i) 256)))

pub written : (v : ℕ) → to_le_bytes w64 v ≡ bytes_of 8 v
written v = low_first 8 0 v ∙ ap (bytes_of 8) (div-one v)

-- two runs of eight laid side by side fill sixteen places
pub laid : (a b z : List ℕ) → length a ≡ 8 → length b ≡ 8 → length z ≡ 8 → put_mid 8 8 (a ++ z) b ≡ a ++ b
laid a b z ha hb hz =
    let long : length (a ++ z) ≡ 16 = omega (arith, length-append a z) in
    let rest : drop 8 (drop 8 (a ++ z)) ≡ [] = drop_of_length-le (drop 8 (a ++ z)) {i = 8} (omega (arith, length-drop 8 (a ++ z))) in
    rw (take_at a z 8 ha, rest, append-nil b) refl
