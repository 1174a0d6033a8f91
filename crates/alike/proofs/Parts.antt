-- What reading and writing by id depend on, and leave alone.
use Rattle.std.proofs.Common.{ℕ, zero, suc, ◌+◌, ◌-◌, ◌*◌, ◌≤◌, ◌<◌, arith, mod-lt, ◌≡◌, refl, sym, ap₂, ◌∙◌, Bool, true, false, ◌&&◌, true≢false, ltb, lit<, get_or, lt-ltb, le-leb, ltb-true, ltb-false}
use mathlib.Core.Path.{fun_ext}
use lib.ListN.{get_or-eq_default}
use Rattle.pcode.specs.Var.{pick, as_operand}
use Rattle.pcode.specs.Block.{lasting}
use Rattle.pcode.specs.declared.var.VarId.{VarId}
use Rattle.pcode.specs.declared.var.VarNode.{VarNode}
use Rattle.pcode.specs.declared.var.Operand.{Operand}
use Rattle.pcode.specs.declared.var.Operand.TheVariants.{None, Const, Var}
use Rattle.pcode.specs.Var.{Output}
use Rattle.pcode.specs.declared.block.Marks.{Marks}
use Rattle.pcode.proofs.Ids.{same_id_refl}
use Rattle.vars.proofs.Rows.{ways}
use Rattle.live_bytes.specs.Bytes.{inside, end_of}
use Rattle.dead_store.specs.Stays.{names}
use Rattle.state.specs.Bytes.{bytes_of}
use Rattle.state.proofs.Digits.{byte_at, bytes_length}
use Rattle.alike.proofs.Fits.{InRow}
use Rattle.alike.proofs.Havoc.{State, Set, num_by, value_by, put_by, offset_out, mixed, view}

-- the bytes inside a part that lies in a row
pub inside_in : (v : VarNode) (k : ℕ) → v.offset + v.size ≤ 16 → v.offset ≤ k → k < v.offset + v.size → inside v k ≡ true
unfolding inside
inside_in v k f h g =
    let e : end_of v ≡ v.offset + v.size =
    ways (ltb (v.offset + v.size) 16) (λ t. rw t) (λ t. let l = ltb-false (v.offset + v.size) 16 t in rw t (omega arith)) in
    rw (e, le-leb v.offset k h, lt-ltb k (v.offset + v.size) g)

num_cong : (s t : State) (id : VarId) (o n : ℕ) → ((k : ℕ) → o ≤ k → k < o + n → s id k ≡ t id k) → num_by s id o n ≡ num_by t id o n
unfolding num_by
num_cong s t id o zero h = refl
num_cong s t id o (suc n) h =
    ap₂ (λ (x y : ℕ). x + 256 * y) (h o (omega arith) (omega arith)) (num_cong s t id (suc o) n (λ k p q. h k (omega arith) (omega arith)))

-- two states agree where a test passes
abbrev pub Agree : Set → State → State → Type 0
Agree f s t = (id : VarId) (k : ℕ) → f id k ≡ true → s id k ≡ t id k

-- an operand's value depends on the bytes that it names
pub value_cong : (s t : State) (a : Operand) → InRow a → Agree (names a) s t → value_by s a ≡ value_by t a
value_cong s t None f h = refl
value_cong s t (Const v n) f h = refl
value_cong s t (Var v) f h =
    num_cong s t v.id v.offset v.size
    (λ k p q. h v.id k (ap₂ (λ (x y : Bool). x && y) (same_id_refl v.id) (inside_in v k f p q)))

-- a choice whose ways agree
pub pick-cong {ℓ} : {A : Type ℓ} (b : Bool) {x x' y y' : A} → (b ≡ true → x ≡ x') → (b ≡ false → y ≡ y') → pick b x y ≡ pick b x' y'
pick-cong true f g = f refl
pick-cong false f g = g refl

-- a write leaves the other bytes alone
pub put_other : (s : State) (o : Output) (x : ℕ) (id : VarId) (k : ℕ) → names (as_operand o) id k ≡ false → put_by s o x id k ≡ s id k
unfolding put_by
put_other s o x id k e = rw e

-- two writes of one number agree where the states did, or the write went
pub put_agree : (s t : State) (o : Output) (x : ℕ) (id : VarId) (k : ℕ) → (names (as_operand o) id k ≡ false → s id k ≡ t id k) → put_by s o x id k ≡ put_by t o x id k
unfolding put_by
put_agree s t o x id k h = pick-cong (names (as_operand o) id k) (λ e. refl) h

-- every byte is below 256
abbrev pub Bytewise : State → Type 0
Bytewise s = (id : VarId) (k : ℕ) → s id k < 256

digit : (x k : ℕ) → get_or (bytes_of 16 x) k 0 < 256
digit x k =
    ways (ltb k 16) (λ t. rw (byte_at 16 x k (ltb-true k 16 t)) (mod-lt _ (lit< tt)))
    (λ t. rw (get_or-eq_default (bytes_of 16 x) 0 {n = k} (let h = ltb-false k 16 t in let l = bytes_length 16 x in omega arith)) (lit< tt))

-- so it is after a write
pub put_bytes : (s : State) (o : Output) (x : ℕ) → Bytewise s → Bytewise (put_by s o x)
unfolding put_by
put_bytes s o x h id k = ways (names (as_operand o) id k) (λ t. rw t (digit x (k - offset_out o))) (λ t. rw t (h id k))

-- what a marker leaves, byte by byte
pub mixed_agree : (marks : Marks) (w : Set) (s t u : State) (id : VarId) (k : ℕ) → (lasting marks id ≡ true → s id k ≡ t id k)
    → (lasting marks id ≡ false → w id k ≡ true → u id k ≡ t id k) → (lasting marks id ≡ false → w id k ≡ false → s id k ≡ t id k) → mixed marks w s u id k ≡ t id k
unfolding mixed
mixed_agree marks w s t u id k f g h = by (lasting marks id) (w id k) f g h
  where
    by : (b c : Bool) → (b ≡ true → s id k ≡ t id k) → (b ≡ false → c ≡ true → u id k ≡ t id k) → (b ≡ false → c ≡ false → s id k ≡ t id k)
        → pick b (s id k) (pick c (u id k) (s id k)) ≡ t id k
    by true c f g h = f refl
    by false true f g h = g refl refl
    by false false f g h = h refl refl

pub mixed_same : (marks : Marks) (w : Set) (s : State) → mixed marks w s s ≡ s
mixed_same marks w s = fun_ext λ id. fun_ext λ k. mixed_agree marks w s s s id k (λ e. refl) (λ e f. refl) (λ e f. refl)

-- what an observer sees depends on the lasting bytes
pub view_cong : (marks : Marks) (s t : State) → ((id : VarId) → lasting marks id ≡ true → (k : ℕ) → k < 16 → s id k ≡ t id k) → view marks s ≡ view marks t
unfolding view
view_cong marks s t h = fun_ext λ id. fun_ext λ k. pick-cong (lasting marks id && ltb k 16) (λ e. both id k e) (λ e. refl)
  where
    both : (id : VarId) (k : ℕ) → (lasting marks id && ltb k 16) ≡ true → s id k ≡ t id k
    both id k e = ways (lasting marks id) (λ l. h id l k (ltb-true k 16 (sym (rw l) ∙ e))) (λ l. absurd (true≢false (sym e ∙ rw l)))
