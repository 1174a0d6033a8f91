-- Writes by id: the bytes that a number leaves, writes that change nothing, and writes at a widened size.
use Rattle.std.proofs.Common.{ℕ, zero, suc, ◌+◌, ◌*◌, ◌-◌, ◌/◌, ◌%◌, ◌^◌, ◌≤◌, ◌<◌, arith, pow-suc, div-one, ◌≡◌, refl, sym, ap, ap₂, ◌∙◌, subst, Bool, true, false, ◌&&◌, ltb-true, ltb-false, leb-true, ltb, leb, pow-add, shr-shr}
use native.Mathlib.Nat.{div-eq_of_lt, div-div-eq-div-mul, zero-div}
use lib.Pow.{field, mod-mod-pow}
use Rattle.pcode.specs.Var.{same_id}
use Rattle.pcode.specs.declared.var.VarId.{VarId}
use Rattle.pcode.specs.declared.var.VarNode.{VarNode}
use Rattle.pcode.specs.declared.var.Operand.TheVariants.{Var}
use Rattle.std.specs.declared.option.Option.TheVariants as Out
use Rattle.pcode.proofs.Ids.{same_id_true, same_id_refl}
use Rattle.vars.proofs.Rows.{ways}
use Rattle.live_bytes.specs.Bytes.{inside, end_of}
use Rattle.dead_store.specs.Stays.{names}
use Rattle.state.proofs.Digits.{byte_at}
use Rattle.alike.proofs.Havoc.{State, num_by, put_by}
use Rattle.alike.proofs.Parts.{Bytewise, inside_in, put_other}

power : (n : ℕ) → 256 ^ n ≡ 2 ^ (8 * n)
power zero = refl
power (suc n) =
    let p : 2 ^ (8 * suc n) ≡ 256 * 2 ^ (8 * n) = ap (λ (k : ℕ). 2 ^ k) (let q : 8 * suc n ≡ 8 + 8 * n = omega arith in q) ∙ pow-add 2 8 (8 * n) in
    let q : 256 ^ suc n ≡ 256 ^ n * 256 = pow-suc 256 n in
    omega (arith, p, q, power n)

-- byte k of a part is among its bytes
pub inside_out : (v : VarNode) (k : ℕ) → v.offset + v.size ≤ 16 → inside v k ≡ true → (v.offset ≤ k) × (k < v.offset + v.size)
unfolding inside
inside_out v k f e =
    let n : end_of v ≡ v.offset + v.size =
    ways (ltb (v.offset + v.size) 16) (λ t. rw t) (λ t. let l = ltb-false (v.offset + v.size) 16 t in rw t (omega arith)) in
    by (leb v.offset k) (ltb k (end_of v)) refl refl e n
  where
    by : (a b : Bool) → leb v.offset k ≡ a → ltb k (end_of v) ≡ b → (a && b) ≡ true → end_of v ≡ v.offset + v.size → (v.offset ≤ k) × (k < v.offset + v.size)
    by true true p q h n = let l : k < end_of v = ltb-true k (end_of v) q in (leb-true v.offset k p, omega (arith, l, n))
    by true false p q h n = absurd (let z : ◌≡◌ {A = ℕ} 0 1 = cc in omega arith)
    by false b p q h n = absurd (let z : ◌≡◌ {A = ℕ} 0 1 = cc in omega arith)

both_true : (a b : Bool) → (a && b) ≡ true → (a ≡ true) × (b ≡ true)
both_true true b h = (refl, h)
both_true false b h = absurd (let z : ◌≡◌ {A = ℕ} 0 1 = cc in omega arith)

-- a byte that a write names
pub put_byte : (s : State) (v : VarNode) (x k : ℕ) → v.offset + v.size ≤ 16 → v.offset ≤ k → k < v.offset + v.size
    → put_by s (Out.Some v) x v.id k ≡ x / 2 ^ (8 * (k - v.offset)) % 256
unfolding put_by
put_byte s v x k f h g =
    rw (same_id_refl v.id, inside_in v k f h g)
    (byte_at 16 x (k - v.offset) (omega arith) ∙ ap (λ (n : ℕ). x / n % 256) (power (k - v.offset)))

-- a byte that a write does not name
pub put_off : (s : State) (v : VarNode) (x : ℕ) (id : VarId) (k : ℕ) → v.offset + v.size ≤ 16 → (v.id ≡ id → v.offset ≤ k → k < v.offset + v.size → ⊥)
    → put_by s (Out.Some v) x id k ≡ s id k
put_off s v x id k f n =
    ways (names (Var v) id k)
    (λ t. let b = both_true (same_id v.id id) (inside v k) t in let i = inside_out v k f b.1 in absurd (n (same_id_true v.id id b.0) i.0 i.1))
    (put_other s (Out.Some v) x id k)

-- two writes to one place agree where each byte does
pub put_ext : (s t : State) (v w : VarNode) (x y : ℕ) (id : VarId) (k : ℕ) → v.id ≡ w.id → v.offset + v.size ≤ 16 → w.offset + w.size ≤ 16
    → (v.id ≡ id → v.offset ≤ k → k < v.offset + v.size → w.offset ≤ k → k < w.offset + w.size → x / 2 ^ (8 * (k - v.offset)) % 256 ≡ y / 2 ^ (8 * (k - w.offset)) % 256)
    → (v.id ≡ id → v.offset ≤ k → k < v.offset + v.size → (w.offset ≤ k → k < w.offset + w.size → ⊥) → x / 2 ^ (8 * (k - v.offset)) % 256 ≡ t id k)
    → (v.id ≡ id → w.offset ≤ k → k < w.offset + w.size → (v.offset ≤ k → k < v.offset + v.size → ⊥) → s id k ≡ y / 2 ^ (8 * (k - w.offset)) % 256)
    → ((names (Var v) id k ≡ false) → (names (Var w) id k ≡ false) → s id k ≡ t id k)
    → put_by s (Out.Some v) x id k ≡ put_by t (Out.Some w) y id k
put_ext s t v w x y id k e f g both left right none =
    ways (names (Var v) id k)
    (λ a.
    let p = both_true (same_id v.id id) (inside v k) a in
    let i = inside_out v k f p.1 in
    let q : v.id ≡ id = same_id_true v.id id p.0 in
    let l : put_by s (Out.Some v) x id k ≡ x / 2 ^ (8 * (k - v.offset)) % 256 = subst (λ (z : VarId). put_by s (Out.Some v) x z k ≡ x / 2 ^ (8 * (k - v.offset)) % 256) q (put_byte s v x k f i.0 i.1) in
    ways (names (Var w) id k)
    (λ b.
    let p' = both_true (same_id w.id id) (inside w k) b in
    let j = inside_out w k g p'.1 in
    l ∙ both q i.0 i.1 j.0 j.1 ∙ sym (at_w (sym e ∙ q) j.0 j.1))
    (λ b. l ∙ left q i.0 i.1 (λ m n. no_w (sym e ∙ q) b m n) ∙ sym (put_other t (Out.Some w) y id k b)))
    (λ a.
    ways (names (Var w) id k)
    (λ b.
    let p' = both_true (same_id w.id id) (inside w k) b in
    let j = inside_out w k g p'.1 in
    let q : w.id ≡ id = same_id_true w.id id p'.0 in
    put_other s (Out.Some v) x id k a ∙ right (e ∙ q) j.0 j.1 (λ m n. no_v (e ∙ q) a m n) ∙ sym (at_w q j.0 j.1))
    (λ b. put_other s (Out.Some v) x id k a ∙ none a b ∙ sym (put_other t (Out.Some w) y id k b)))
  where
    at_w : w.id ≡ id → w.offset ≤ k → k < w.offset + w.size → put_by t (Out.Some w) y id k ≡ y / 2 ^ (8 * (k - w.offset)) % 256
    at_w q h l = subst (λ (z : VarId). put_by t (Out.Some w) y z k ≡ y / 2 ^ (8 * (k - w.offset)) % 256) q (put_byte t w y k g h l)

    named_in : (u : VarNode) → u.offset + u.size ≤ 16 → u.id ≡ id → u.offset ≤ k → k < u.offset + u.size → names (Var u) id k ≡ true
    named_in u f q h l = subst (λ (z : VarId). names (Var u) z k ≡ true) q (ap₂ (λ (a b : Bool). a && b) (same_id_refl u.id) (inside_in u k f h l))

    no_w : w.id ≡ id → names (Var w) id k ≡ false → w.offset ≤ k → k < w.offset + w.size → ⊥
    no_w q b m n = let z : ◌≡◌ {A = Bool} true false = sym (named_in w g q m n) ∙ b in let y : ◌≡◌ {A = ℕ} 0 1 = cc in omega arith

    no_v : v.id ≡ id → names (Var v) id k ≡ false → v.offset ≤ k → k < v.offset + v.size → ⊥
    no_v q b m n = let z : ◌≡◌ {A = Bool} true false = sym (named_in v f q m n) ∙ b in let y : ◌≡◌ {A = ℕ} 0 1 = cc in omega arith

-- byte i of a number depends on it below the power only
pub byte_mod : (x n i : ℕ) → i < n → x % 2 ^ (8 * n) / 2 ^ (8 * i) % 256 ≡ x / 2 ^ (8 * i) % 256
byte_mod x n i l =
    let j : ℕ = 8 * (n - i - 1) in
    let p : 8 * n ≡ j + 8 + 8 * i = omega arith in
    ap (λ (m : ℕ). x % 2 ^ m / 2 ^ (8 * i) % 256) p
    ∙ ap (λ (m : ℕ). m % 256) (field x (j + 8) (8 * i))
    ∙ mod-mod-pow (x / 2 ^ (8 * i)) j 8

-- past a number's bytes there is nothing
pub byte_past : (x n i : ℕ) → x < 2 ^ (8 * n) → n ≤ i → x / 2 ^ (8 * i) % 256 ≡ 0
byte_past x n i h l =
    let p : 2 ^ (8 * i) ≡ 2 ^ (8 * n) * 2 ^ (8 * i - 8 * n) = ap (λ (m : ℕ). 2 ^ m) (let q : 8 * i ≡ 8 * n + (8 * i - 8 * n) = omega arith in q) ∙ pow-add 2 (8 * n) (8 * i - 8 * n) in
    let d : x / 2 ^ (8 * i) ≡ 0 = ap (λ (m : ℕ). x / m) p ∙ sym (div-div-eq-div-mul x (2 ^ (8 * n)) (2 ^ (8 * i - 8 * n))) ∙ ap (λ (m : ℕ). m / 2 ^ (8 * i - 8 * n)) (div-eq_of_lt h) ∙ zero-div (2 ^ (8 * i - 8 * n)) in
    ap (λ (m : ℕ). m % 256) d

-- a write of a number with the same low bytes
pub put_same : (s : State) (v : VarNode) (x y : ℕ) (id : VarId) (k : ℕ) → v.offset + v.size ≤ 16 → x % 2 ^ (8 * v.size) ≡ y % 2 ^ (8 * v.size)
    → put_by s (Out.Some v) x id k ≡ put_by s (Out.Some v) y id k
put_same s v x y id k f e =
    put_ext s s v v x y id k refl f f
    (λ q a b c d. sym (byte_mod x v.size (k - v.offset) (omega arith)) ∙ ap (λ (m : ℕ). m / 2 ^ (8 * (k - v.offset)) % 256) e ∙ byte_mod y v.size (k - v.offset) (omega arith))
    (λ q a b n. absurd (n a b)) (λ q a b n. absurd (n a b)) (λ a b. refl)

-- byte i of a number of bytes
pub num_byte : (s : State) (id : VarId) (o n i : ℕ) → Bytewise s → i < n → num_by s id o n / 2 ^ (8 * i) % 256 ≡ s id (o + i)
unfolding num_by
num_byte s id o zero i h l = absurd (omega arith)
num_byte s id o (suc n) zero h l =
    let b : s id o < 256 = h id o in
    let y : ℕ = num_by s id (suc o) n in
    let z : o + 0 ≡ o = omega arith in
    let d : (s id o + 256 * y) / 2 ^ 0 ≡ s id o + 256 * y = div-one (s id o + 256 * y) in
    let m : (s id o + 256 * y) % 256 ≡ s id o = omega arith in
    ap (λ (j : ℕ). j % 256) d ∙ m ∙ ap (λ (j : ℕ). s id j) (sym z)
num_byte s id o (suc n) (suc i) h l =
    let b : s id o < 256 = h id o in
    let y : ℕ = num_by s id (suc o) n in
    let x : ℕ = s id o + 256 * y in
    let z : suc o + i ≡ o + suc i = omega arith in
    let q : 8 * suc i ≡ 8 + 8 * i = omega arith in
    let d : x / 2 ^ 8 ≡ y = omega arith in
    ap (λ (j : ℕ). x / 2 ^ j % 256) q ∙ ap (λ (j : ℕ). j % 256) (sym (shr-shr x 8 (8 * i)) ∙ ap (λ (j : ℕ). j / 2 ^ (8 * i)) d)
    ∙ num_byte s id (suc o) n i h (omega arith) ∙ ap (λ (j : ℕ). s id j) z

-- a write of what is there
pub put_still : (s : State) (v : VarNode) (x : ℕ) (id : VarId) (k : ℕ) → Bytewise s → v.offset + v.size ≤ 16 → x % 2 ^ (8 * v.size) ≡ num_by s v.id v.offset v.size
    → put_by s (Out.Some v) x id k ≡ s id k
put_still s v x id k b f e =
    ways (names (Var v) id k)
    (λ t.
    let p = both_true (same_id v.id id) (inside v k) t in
    let i = inside_out v k f p.1 in
    let q : v.id ≡ id = same_id_true v.id id p.0 in
    let j : ℕ = k - v.offset in
    let z : v.offset + j ≡ k = omega (arith, i.0) in
    let m : x / 2 ^ (8 * j) % 256 ≡ s v.id k =
    sym (byte_mod x v.size j (omega (arith, i.0, i.1))) ∙ ap (λ (n : ℕ). n / 2 ^ (8 * j) % 256) e
    ∙ num_byte s v.id v.offset v.size j b (omega (arith, i.0, i.1)) ∙ ap (s v.id) z in
    subst (λ (w : VarId). put_by s (Out.Some v) x w k ≡ s w k) q (put_byte s v x k f i.0 i.1 ∙ m))
    (put_other s (Out.Some v) x id k)

-- a write at a widened size, where the bytes above were zero
pub put_wide : (s : State) (v : VarNode) (w x : ℕ) (id : VarId) (k : ℕ) → v.offset ≡ 0 → v.size ≤ w → w ≤ 16 → x < 2 ^ (8 * v.size)
    → ((j : ℕ) → v.size ≤ j → j < w → s v.id j ≡ 0)
    → put_by s (Out.Some v) x id k ≡ put_by s (Out.Some (record { id = v.id; offset = 0; size = w })) x id k
put_wide s v w x id k z l m b h =
    put_ext s s v (record { id = v.id; offset = 0; size = w }) x x id k refl (omega (arith, z)) (omega arith)
    (λ q a c d e. ap (λ (o : ℕ). x / 2 ^ (8 * (k - o)) % 256) z)
    (λ q a c n. absurd (n (omega arith) (omega (arith, z))))
    (λ q a c n.
    let r : v.size ≤ k = ways (ltb k v.size) (λ t. absurd (let u = ltb-true k v.size t in n (omega (arith, z)) (omega (arith, z, u)))) (λ t. ltb-false k v.size t) in
    subst (λ (i : VarId). s i k ≡ 0) q (h k r (omega arith)) ∙ sym (byte_past x v.size (k - 0) b (omega (arith, r))))
    (λ a c. refl)
