-- The compaction: one more statement looked at.
use Rattle.std.proofs.Common.{ℕ, zero, suc, ◌+◌, ◌≤◌, ◌<◌, add-one, arith, ◌≡◌, refl, sym, ap, ◌∙◌, Bool, true, false, List, [], ◌∷◌, ◌++◌, append-nil, length, get_or, set, take, drop, length-append}
use Rattle.dead_store.specs.Stays.{judge, dead_of, without}
use Rattle.pcode.specs.Block.{blank_stmts}
use Rattle.vars.proofs.Joining.{put_more}
use Rattle.pcode.specs.declared.var.VarId.{VarId}
use Rattle.pcode.specs.declared.block.Stmt.{Stmt}

-- what the element at i adds
abbrev pub some {ℓ} : {A : Type ℓ} → Bool → A → List A
some true x = []
some false x = x ∷ []

without_none : {A : Type 0} (ks : List Bool) → let none : List A = [] in without ks none ≡ none
unfolding without
without_none [] = refl
without_none (b ∷ ks) = refl

without_more : {A : Type 0} (ks : List Bool) (xs : List A) (d : A) (i : ℕ) → i < length ks → i < length xs
    → without ks (take (suc i) xs) ≡ without ks (take i xs) ++ some (get_or ks i false) (get_or xs i d)
unfolding without
without_more [] xs d i h k = absurd (omega arith)
without_more (b ∷ ks) [] d i h k = absurd (omega arith)
without_more (true ∷ ks) (x ∷ xs) d zero h k = without_none ks
without_more (false ∷ ks) (x ∷ xs) d zero h k = ap (λ l. x ∷ l) (without_none ks)
without_more (true ∷ ks) (x ∷ xs) d (suc i) h k = without_more ks xs d i (omega arith) (omega arith)
without_more (false ∷ ks) (x ∷ xs) d (suc i) h k = ap (λ l. x ∷ l) (without_more ks xs d i (omega arith) (omega arith))

-- flags past the elements don't count
pub without_append : {A : Type 0} (ks ms : List Bool) (xs : List A) → length ks ≡ length xs → without (ks ++ ms) xs ≡ without ks xs
unfolding without
without_append [] ms [] h = without_none ms
without_append [] ms (x ∷ xs) h = absurd (omega arith)
without_append (b ∷ ks) ms [] h = absurd (omega arith)
without_append (true ∷ ks) ms (x ∷ xs) h = without_append ks ms xs (omega arith)
without_append (false ∷ ks) ms (x ∷ xs) h = ap (λ l. x ∷ l) (without_append ks ms xs (omega arith))

module _ {A : Type 0} (ks : List Bool) (xs bl : List A) (d : A) where
  abbrev pub sofar : ℕ → List A
  sofar i = without ks (take i xs)

  -- of the first i elements the k that are not dead stand in out
  pub record Sifted (i k : ℕ) (out : List A) : Type 0 where
    pub small : k ≤ i
    pub count : k ≡ length (sofar i)
    pub body : out ≡ sofar i ++ drop k bl

  pub sifted_none : (out : List A) → out ≡ bl → Sifted 0 0 out
  sifted_none out e = let q : sofar 0 ≡ [] = without_none ks in record { small = omega arith; count = rw q; body = rw q e }

  module _ (i k : ℕ) (out : List A) (h : i < length ks) (g : i < length xs) (w : Sifted i k out) where
    next : (b : Bool) → get_or ks i false ≡ b → sofar (i + 1) ≡ sofar i ++ some b (get_or xs i d)
    next b e = ap sofar (add-one i) ∙ without_more ks xs d i h g ∙ ap (λ (c : Bool). sofar i ++ some c (get_or xs i d)) e

    pub sifted_not : get_or ks i false ≡ true → Sifted (i + 1) k out
    sifted_not e =
        let f : sofar (i + 1) ≡ sofar i = next true e ∙ append-nil (sofar i) in
        record { small = omega (arith, w.small); count = w.count ∙ ap length (sym f); body = w.body ∙ ap (λ (l : List A). l ++ drop k bl) (sym f) }

    pub sifted_put : (x : A) → x ≡ get_or xs i d → k < length bl → get_or ks i false ≡ false → Sifted (i + 1) (k + 1) (set out k x)
    sifted_put x q m e =
        let f : sofar (i + 1) ≡ sofar i ++ (get_or xs i d ∷ []) = next false e in
        record {
          small = omega (arith, w.small);
          count = rw f (omega (arith, w.count, length-append (sofar i) (get_or xs i d ∷ [])));
          body = rw (w.body, q, f, add-one k) (put_more (sofar i) bl (get_or xs i d) d k w.count m);
        }

pub dead_length : (p : VarId → Bool) (ss : List Stmt) → length (dead_of (judge p ss)) ≡ length ss
unfolding judge dead_of
dead_length p [] = refl
dead_length p (s ∷ ss) = ap suc (dead_length p ss)

pub blanks_length : length blank_stmts ≡ 129
unfolding blank_stmts
blanks_length = refl
