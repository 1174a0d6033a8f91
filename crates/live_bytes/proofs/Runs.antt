-- A search among a variable's bytes.
use Rattle.std.proofs.Common.{ℕ, zero, suc, ◌+◌, ◌≤◌, ◌<◌, arith, ◌≡◌, refl, sym, ap, ◌∙◌, Bool, true, false, not, ◌&&◌, ◌||◌, eqb, leb, ltb, eqb-true, le-ltb, ltb-true, ltb-false}
use borrow.Author.Tests.{lt-leb}
use Rattle.pcode.specs.declared.var.VarNode.{VarNode}
use Rattle.vars.proofs.Rows.{ways}
use Rattle.live_bytes.specs.Bytes.{has, between, end_of, inside, holds, any_below, some_byte, live_in}
use Rattle.live_bytes.proofs.Bits.{has_zero, same_bytes, empty_bytes}

pub end_small : (v : VarNode) → end_of v ≤ 16
end_small v = ways (ltb (v.offset + v.size) 16) (λ e. let h = ltb-true (v.offset + v.size) 16 e in rw e (omega arith)) (λ e. rw e (omega arith))

pub run_none : (o k : ℕ) → between o o k ≡ false
run_none o k = ways (ltb k o) (λ t. let u = ltb-true k o t in rw (lt-leb o k u)) (λ t. ways (leb o k) (λ u. rw (u, t)) (λ u. rw u))

-- some byte
pub any_found : (n : ℕ) (f : ℕ → Bool) (k : ℕ) → k < n → f k ≡ true → any_below n f ≡ true
unfolding any_below
any_found zero f k h e = absurd (omega arith)
any_found (suc n) f k h e =
    ways (f n) (λ t. rw t)
    (λ t. rw t (any_found n f k (let ne : k ≡ n → ⊥ = λ q. (let z : true ≡ false = sym e ∙ ap f q ∙ t in let w : ◌≡◌ {A = ℕ} 0 1 = cc in omega arith) in ways (ltb k n) (λ u. ltb-true k n u) (λ u. let l = ltb-false k n u in absurd (ne (omega arith)))) e))

pub any_none : (n : ℕ) (f : ℕ → Bool) → ((k : ℕ) → k < n → f k ≡ false) → any_below n f ≡ false
unfolding any_below
any_none zero f h = refl
any_none (suc n) f h = rw (h n (omega arith)) (any_none n f (λ k l. h k (omega arith)))

pub any_not : (n : ℕ) (f : ℕ → Bool) (k : ℕ) → any_below n f ≡ false → k < n → f k ≡ false
any_not n f k e h = ways (f k) (λ t. t ∙ (sym (any_found n f k h t) ∙ e)) (λ t. t)

pub any_same : (n : ℕ) (f g : ℕ → Bool) → ((k : ℕ) → f k ≡ g k) → any_below n f ≡ any_below n g
unfolding any_below
any_same zero f g h = refl
any_same (suc n) f g h = rw (h n, any_same n f g h)

-- the bytes inside are those of a run, and below 16
pub inside_run : (v : VarNode) (k : ℕ) → inside v k ≡ between v.offset (end_of v) k
unfolding inside
inside_run v k = refl

pub inside_small : (v : VarNode) (k : ℕ) → inside v k ≡ true → k < 16
inside_small v k e =
    ways (ltb k 16) (λ t. ltb-true k 16 t)
    (λ t.
    let l = ltb-false k 16 t in
    let m = end_small v in
    let f : between v.offset (end_of v) k ≡ false = ways (leb v.offset k) (λ u. rw (u, le-ltb k (end_of v) (omega arith))) (λ u. rw u) in
    absurd (let z : true ≡ false = sym e ∙ inside_run v k ∙ f in let w : ◌≡◌ {A = ℕ} 0 1 = cc in omega arith))

-- a set that holds the bytes of a variable that are in another is empty where there are none
pub some_shared : (v : VarNode) (s x : ℕ) → holds (λ k. inside v k && has s k) x → not (eqb x 0) ≡ some_byte (λ k. inside v k && has s k)
some_shared v s x f =
    ways (eqb x 0)
    (λ t. rw t (sym (any_none 16 _ (λ k h. sym (f k) ∙ ap (λ (n : ℕ). has n k) (eqb-true x 0 t) ∙ has_zero k))))
    (λ t. ways (some_byte (λ k. inside v k && has s k)) (λ u. rw (t, u)) (λ u.
    let none : holds (λ k. false) x = λ k. f k ∙ ways (inside v k)
    (λ i. any_not 16 (λ n. inside v n && has s n) k u (inside_small v k i))
    (λ i. rw i) in
    let z : true ≡ false = sym (empty_bytes x none) ∙ t in cc))

-- what is asked of a variable that persists
module _ (l r m : ℕ) (v : VarNode) (f : holds (λ k. inside v k || has l k) m) where
  pub live_last : (m ≡ l → ⊥) → live_in true l r v ≡ true
  live_last e =
      ways (live_in true l r v) (λ t. t)
      (λ t.
      let all : (k : ℕ) → has m k ≡ has l k = λ k. f k ∙ ways (inside v k)
      (λ i. ways (has l k) (λ j. rw (i, j)) (λ j.
      let z : true ≡ false = sym (rw (i, j)) ∙ any_not 16 (λ n. inside v n && (not (has l n) || has r n)) k t (inside_small v k i) in cc))
      (λ i. rw i) in
      absurd (e (same_bytes m l all)))

  pub live_covered : m ≡ l → live_in true l r v ≡ some_byte (λ k. inside v k && has r k)
  live_covered e =
      any_same 16 _ _ (λ k. ways (inside v k)
      (λ i. let j : has l k ≡ true = ap (λ (n : ℕ). has n k) (sym e) ∙ f k ∙ rw i in rw (i, j))
      (λ i. rw i))
