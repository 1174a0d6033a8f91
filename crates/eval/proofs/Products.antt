-- Laws of multiplication: a number cut twice, a product of known constants, and the trailing zeros. Assumes nothing.
use Rattle.std.proofs.Common.{Option, Some, None, ◌≡◌, ℕ, zero, suc, ◌+◌, ◌*◌, ◌/◌, ◌%◌, ◌^◌, ◌≤◌, Bool, true, false, leb, List, [], ◌∷◌, length, sym, refl, ap, ◌∙◌, arith, leb-true}
use lib.Pow.{mod-mod-pow, field}
use lib.ListN.{length-map}
use Rattle.bit.specs.Bits.{pick, bit_of}
use Rattle.bit.specs.declared.Bit.{Bit}
use Rattle.bit.specs.declared.Bit.TheVariants.{Zero, One, Unknown, Expr as Sym}
use Rattle.bit_vec.specs.Lists.{bits, codes}
use Rattle.bit_vec.specs.Moves.{digit, digits}
use Rattle.bit_vec.specs.Known.{const_from, const_of, trail_k, trailing_zeros}

-- the digits of a number do not see what is cut above them
pub digits_cut : (n m v : ℕ) → n ≤ m → digits n (v % 2 ^ m) ≡ digits n v
digits_cut zero m v h = refl
digits_cut (suc n) zero v h = absurd (omega (arith, h))
digits_cut (suc n) (suc m) v h =
    let q : suc m ≡ m + 1 = omega arith in
    let r : 2 ^ suc m ≡ 2 ^ (m + 1) = ap (λ (k : ℕ). 2 ^ k) q in
    let s : v % 2 ^ (m + 1) % 2 ≡ v % 2 = mod-mod-pow v m 1 in
    let t : v % 2 ^ (m + 1) / 2 ≡ v / 2 % 2 ^ m = field v m 1 in
    rw (r, s, t) (ap (λ (l : List Bit). digit v ∷ l) (digits_cut n m (v / 2) (omega arith)))

-- a known constant has at most 64 bits
const_short : (xs : List Bit) (k : ℕ) → const_of xs ≡ Some k → length xs ≤ 64
const_short xs k = go (leb (length xs) 64) refl
  where
    go : (t : Bool) → leb (length xs) 64 ≡ t → pick t (const_from xs) None ≡ Some k → length xs ≤ 64
    go true p e = leb-true _ _ p
    go false p e = absurd (let z : ◌≡◌ {A = ℕ} 0 1 = cc in omega arith)

-- a product of two known constants, as wide as the first
pub both_known : (a : List ℕ) (c : Option ℕ) (x y n w : ℕ) → c ≡ const_of (bits a) → c ≡ Some x → length a ≡ n → w ≡ x * y % 2 ^ 64
    → codes (digits n w) ≡ codes (digits n (x * y))
both_known a c x y n w e k l q =
    let h : length (bits a) ≤ 64 = const_short (bits a) x (sym e ∙ k) in
    let g : length (bits a) ≡ length a = length-map a bit_of in
    ap codes (ap (digits n) q ∙ digits_cut n 64 (x * y) (omega arith))

-- the trailing zeros are within the list
trail_le : (b : Bit) (i n : ℕ) → i ≤ n → trail_k b i ≤ suc n
trail_le Zero i n h = omega arith
trail_le One i n h = omega arith
trail_le Unknown i n h = omega arith
trail_le (Sym e) i n h = omega arith

pub trailing_within : (xs : List Bit) → trailing_zeros xs ≤ length xs
trailing_within [] = omega arith
trailing_within (x ∷ xs) = trail_le x (trailing_zeros xs) (length xs) (trailing_within xs)

pub trailing_le : (xs : List ℕ) → trailing_zeros (bits xs) ≤ length xs
trailing_le xs = omega (arith, trailing_within (bits xs), length-map xs bit_of)
