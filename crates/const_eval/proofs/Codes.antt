-- Comparing values, new expressions and flags: what stands at each place. Assumes nothing.
use Rattle.std.proofs.Common.{◌≡◌, ℕ, zero, suc, ◌+◌, ◌*◌, ◌<◌, true, List, [], ◌∷◌, length, get_or, refl, ap, arith}
use Rattle.std.proofs.lemmas.List.{ext_get_or}
use Rattle.std.proofs.lemmas.Slice.Eq.{bytes_eq-Decides}
use Rattle.const_eval.specs.Known.{same_codes, fresh_from, fresh_row}
use Rattle.const_eval.specs.State.{flag_of, keep_flags}

-- a value is the same as itself
pub same_refl : (xs : List ℕ) → same_codes xs xs ≡ true
same_refl xs = (bytes_eq-Decides xs xs).1 refl

-- values that are the same are equal
pub same_sound : (xs ys : List ℕ) → same_codes xs ys ≡ true → xs ≡ ys
same_sound xs ys h = (bytes_eq-Decides xs ys).0 h

-- as many new expressions as places
pub fresh_length : (id i n : ℕ) → length (fresh_from id i n) ≡ n
fresh_length id i zero = refl
fresh_length id i (suc n) = ap suc (fresh_length id (suc i) n)

-- the new expression at a place
pub fresh_at : (id i n k : ℕ) → k < n → get_or (fresh_from id i n) k 0 ≡ 4 + 512 * id + 2 * (i + k)
fresh_at id i zero k h = absurd (omega (arith, h))
fresh_at id i (suc n) zero h = omega arith
fresh_at id i (suc n) (suc k) h = omega (arith, fresh_at id (suc i) n k (omega (arith, h)))

-- places that hold the new expressions are they
pub fresh_all : (id n : ℕ) (xs : List ℕ) → length xs ≡ n → ((k : ℕ) → k < n → get_or xs k 0 ≡ 4 + 512 * id + 2 * k) → xs ≡ fresh_from id 0 n
fresh_all id n xs l h =
    ext_get_or 0 xs (fresh_from id 0 n) (omega (arith, l, fresh_length id 0 n))
    (λ k b. let q : k < n = omega (arith, l, b) in omega (arith, h k q, fresh_at id 0 n k q))

-- a row has 128 new expressions
pub row_length : (id : ℕ) → length (fresh_row id) ≡ 128
unfolding fresh_row
row_length id = fresh_length id 0 128

-- as many flags as before
pub keep_length : (us ts : List ℕ) → length (keep_flags us ts) ≡ length us
keep_length [] ts = refl
keep_length (u ∷ us) [] = refl
keep_length (u ∷ us) (t ∷ ts) = ap suc (keep_length us ts)

-- the flag at a place
pub keep_at : (us ts : List ℕ) (k : ℕ) → length us ≡ length ts → k < length us → get_or (keep_flags us ts) k 0 ≡ flag_of (get_or us k 0) (get_or ts k 0)
keep_at [] ts k l h = absurd (omega (arith, h))
keep_at (u ∷ us) [] k l h = absurd (omega (arith, l))
keep_at (u ∷ us) (t ∷ ts) zero l h = refl
keep_at (u ∷ us) (t ∷ ts) (suc k) l h = keep_at us ts k (omega (arith, l)) (omega (arith, h))
