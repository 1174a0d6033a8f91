-- The bits of a variable's bytes and of the number that they are.
use Rattle.std.proofs.Common.{ℕ, zero, suc, ◌+◌, ◌*◌, ◌-◌, ◌/◌, ◌%◌, ◌^◌, ◌≤◌, ◌<◌, arith, div-one, ◌≡◌, refl, sym, ap, ap₂, ◌∙◌, Bool, List, ◌∷◌, ◌++◌, eqb, lit<, pow-add, shr-shr, length, take, drop, take_at}
use lib.Seq.{drop-append-add}
use Rattle.pcode.specs.declared.var.VarId.{VarId}
use Rattle.sound.specs.Sound.{num, low}
use Rattle.sound.proofs.Numbers.{num_low, low_mod, length_low}
use Rattle.alike.proofs.Havoc.{State, num_by}
use Rattle.alike.proofs.Parts.{Bytewise}

-- the lowest bits, then the others
pub low_add : (a m k : ℕ) → low (a + m) k ≡ low a k ++ low m (k / 2 ^ a)
low_add zero m k =
    let z : 0 + m ≡ m = omega arith in
    let d : k / 2 ^ 0 ≡ k = div-one k in
    ap₂ (λ (n j : ℕ). low n j) z (sym d)
low_add (suc a) m k =
    let z : suc a + m ≡ suc (a + m) = omega arith in
    let d : k / 2 / 2 ^ a ≡ k / 2 ^ suc a = shr-shr k 1 a ∙ ap (λ (n : ℕ). k / 2 ^ n) (let q : 1 + a ≡ suc a = omega arith in q) in
    ap (λ (n : ℕ). low n k) z
    ∙ ap (λ (l : List Bool). eqb (k % 2) 1 ∷ l) (low_add a m (k / 2) ∙ ap (λ (j : ℕ). low a (k / 2) ++ low m j) d)

pub low_take : (a n k : ℕ) → a ≤ n → take a (low n k) ≡ low a k
low_take zero n k h = refl
low_take (suc a) zero k h = absurd (omega arith)
low_take (suc a) (suc n) k h = ap (λ (l : List Bool). eqb (k % 2) 1 ∷ l) (low_take a n (k / 2) (omega arith))

pub low_drop : (a n k : ℕ) → a ≤ n → drop a (low n k) ≡ low (n - a) (k / 2 ^ a)
low_drop zero n k h =
    let z : n - 0 ≡ n = omega arith in
    let d : k / 2 ^ 0 ≡ k = div-one k in
    sym (ap₂ (λ (m j : ℕ). low m j) z d)
low_drop (suc a) zero k h = absurd (omega arith)
low_drop (suc a) (suc n) k h =
    let z : n - a ≡ suc n - suc a = omega arith in
    let d : k / 2 / 2 ^ a ≡ k / 2 ^ suc a = shr-shr k 1 a ∙ ap (λ (n : ℕ). k / 2 ^ n) (let q : 1 + a ≡ suc a = omega arith in q) in
    low_drop a n (k / 2) (omega arith) ∙ ap₂ (λ (m j : ℕ). low m j) z d

-- m bits from place a on
pub low_part : (a m n k : ℕ) → a + m ≤ n → take m (drop a (low n k)) ≡ low m (k / 2 ^ a)
low_part a m n k h = ap (take m) (low_drop a n k (omega arith)) ∙ low_take m (n - a) (k / 2 ^ a) (omega arith)

-- the same low bits: the same number below the power
pub low_same : (n x y : ℕ) → low n x ≡ low n y → x % 2 ^ n ≡ y % 2 ^ n
low_same n x y e = sym (num_low n x) ∙ ap num e ∙ num_low n y

-- a number of n bytes
pub num_small : (s : State) (id : VarId) (o n : ℕ) → Bytewise s → num_by s id o n < 2 ^ (8 * n)
unfolding num_by
num_small s id o zero h = lit< tt
num_small s id o (suc n) h =
    let p : 2 ^ (8 * suc n) ≡ 256 * 2 ^ (8 * n) = ap (λ (k : ℕ). 2 ^ k) (let q : 8 * suc n ≡ 8 + 8 * n = omega arith in q) ∙ pow-add 2 8 (8 * n) in
    let b : s id o < 256 = h id o in
    let ih : num_by s id (suc o) n < 2 ^ (8 * n) = num_small s id (suc o) n h in
    omega (arith, p, b, ih)

-- the bits of a number of bytes are the bytes' bits, the lowest byte's first
pub low_bytes : (s : State) (id : VarId) (o n : ℕ) → Bytewise s → low (8 * suc n) (num_by s id o (suc n)) ≡ low 8 (s id o) ++ low (8 * n) (num_by s id (suc o) n)
unfolding num_by
low_bytes s id o n h =
    let b : s id o < 256 = h id o in
    let y : ℕ = num_by s id (suc o) n in
    let x : ℕ = s id o + 256 * y in
    let q : 8 * suc n ≡ 8 + 8 * n = omega arith in
    let d : x / 2 ^ 8 ≡ y = omega arith in
    let m : x % 2 ^ 8 ≡ s id o = omega arith in
    ap (λ (k : ℕ). low k x) q ∙ low_add 8 (8 * n) x
    ∙ ap (λ (j : ℕ). low 8 x ++ low (8 * n) j) d
    ∙ ap (λ (l : List Bool). l ++ low (8 * n) y) (sym (low_mod 8 x) ∙ ap (low 8) m)

-- byte k of them
pub byte_part : (s : State) (id : VarId) (o n k : ℕ) → Bytewise s → k < n → take 8 (drop (8 * k) (low (8 * n) (num_by s id o n))) ≡ low 8 (s id (o + k))
byte_part s id o zero k h l = absurd (omega arith)
byte_part s id o (suc n) zero h l =
    let z : o + 0 ≡ o = omega arith in
    ap (take 8) (low_bytes s id o n h)
    ∙ take_at (low 8 (s id o)) (low (8 * n) (num_by s id (suc o) n)) 8 (length_low 8 (s id o)) ∙ ap (λ (j : ℕ). low 8 (s id j)) (sym z)
byte_part s id o (suc n) (suc k) h l =
    let q : 8 * suc k ≡ length (low 8 (s id o)) + 8 * k = omega (arith, length_low 8 (s id o)) in
    let z : suc o + k ≡ o + suc k = omega arith in
    let r : List Bool = low (8 * n) (num_by s id (suc o) n) in
    ap (λ (l : List Bool). take 8 (drop (8 * suc k) l)) (low_bytes s id o n h)
    ∙ ap (take 8) (ap (λ (j : ℕ). drop j (low 8 (s id o) ++ r)) q ∙ drop-append-add (low 8 (s id o)) r (8 * k))
    ∙ byte_part s id (suc o) n k h (omega arith) ∙ ap (λ (j : ℕ). low 8 (s id j)) z
