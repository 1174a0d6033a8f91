-- Names and codes: a name's code is the one that it is the name of, and a row that has a code is its name.
use Rattle.std.proofs.Common.{ℕ, zero, suc, ◌<◌, not-suc-le-zero, le_of_suc-le-suc, eq-or-lt_of_le, ◌≡◌, refl, ap, ◌∙◌, ◌⊎◌, inl, inr, Bool, true, false, List, [], ◌∷◌, map, eqb-true, eqb, length, get_or}
use Rattle.pcode.specs.Var.{pick}
use Rattle.pcode.specs.Names.{bytes_of, names, name_of, eq_bytes}
use Rattle.fields.specs.Parts.{count_of}
use Rattle.record.specs.Names.{first_named, code_named}
use Rattle.roundtrip.proofs.Parts.{Without}

-- a test that holds of every number below n
abbrev pub every : ℕ → (ℕ → Bool) → Bool
every zero p = true
every (suc n) p = pick (p n) (every n p) false

false_true : false ≡ true → ⊥
false_true e = cc

pub every_at : (n : ℕ) (p : ℕ → Bool) → every n p ≡ true → (k : ℕ) → k < n → p k ≡ true
every_at zero p e k h = absurd (not-suc-le-zero h)
every_at (suc n) p e₀ k h = go (p n) refl e₀ (every_at n p) (eq-or-lt_of_le (le_of_suc-le-suc h))
  where
    go : (t : Bool) → p n ≡ t → pick t (every n p) false ≡ true → (every n p ≡ true → (j : ℕ) → j < n → p j ≡ true) → (k ≡ n) ⊎ (k < n) → p k ≡ true
    go false q e f w = absurd (false_true e)
    go true q e f (inl i) = ap p i ∙ q
    go true q e f (inr i) = f e k i

pub bytes_same : (a b : List ℕ) → eq_bytes a b ≡ true → a ≡ b
bytes_same [] [] e = refl
bytes_same [] (y ∷ b) e = absurd (false_true e)
bytes_same (x ∷ a) [] e = absurd (false_true e)
bytes_same (x ∷ a) (y ∷ b) e₀ = go (eqb x y) refl e₀ (bytes_same a b)
  where
    go : (t : Bool) → eqb x y ≡ t → pick t (eq_bytes a b) false ≡ true → (eq_bytes a b ≡ true → a ≡ b) → x ∷ a ≡ y ∷ b
    go true q e f = ap (λ (z : ℕ). z ∷ a) (eqb-true x y q) ∙ ap (λ (l : List ℕ). y ∷ l) (f e)
    go false q e f = absurd (false_true e)

named_back : (ns : List (List ℕ)) (s : List ℕ) → first_named ns s < length ns → get_or ns (first_named ns s) [] ≡ s
unfolding first_named
named_back [] s h = absurd (not-suc-le-zero h)
named_back (n ∷ ns) s h₀ = go (eq_bytes n s) refl h₀ (named_back ns s)
  where
    go : (t : Bool) → eq_bytes n s ≡ t → pick t zero (suc (first_named ns s)) < suc (length ns) →
        (first_named ns s < length ns → get_or ns (first_named ns s) [] ≡ s) → get_or (n ∷ ns) (pick t zero (suc (first_named ns s))) [] ≡ s
    go true q h f = bytes_same n s q
    go false q h f = f (le_of_suc-le-suc h)

-- a row that has a code is its name
pub code_back : (s : List ℕ) → code_named s < 72 → name_of (code_named s) ≡ s
unfolding name_of code_named
code_back s h = named_back (map bytes_of names) s h

-- each name has its own code
own_code : every 72 (λ k. eqb (code_named (name_of k)) k) ≡ true
unfolding name_of code_named first_named
own_code = refl

pub code_named_lem : (k : ℕ) → k < 72 → code_named (name_of k) ≡ k
code_named_lem k h = eqb-true _ _ (every_at 72 (λ (i : ℕ). eqb (code_named (name_of i)) i) own_code k h)

-- a byte that stands in no name of a list
abbrev nowhere : ℕ → List (List ℕ) → Bool
nowhere b [] = true
nowhere b (n ∷ ns) = pick (eqb (count_of b n) 0) (nowhere b ns) false

each_without : (b : ℕ) (ns : List (List ℕ)) → nowhere b ns ≡ true → (k : ℕ) → Without b (get_or ns k [])
unfolding count_of
each_without b [] e k = refl
each_without b (n ∷ ns) e₀ k = go (eqb (count_of b n) 0) refl e₀ (each_without b ns) k
  where
    go : (t : Bool) → eqb (count_of b n) 0 ≡ t → pick t (nowhere b ns) false ≡ true → (nowhere b ns ≡ true → (k : ℕ) → Without b (get_or ns k [])) →
        (k : ℕ) → Without b (get_or (n ∷ ns) k [])
    go false q e f k = absurd (false_true e)
    go true q e f zero = eqb-true _ _ q
    go true q e f (suc k) = f e k

no_tab : nowhere 9 (map bytes_of names) ≡ true
unfolding count_of
no_tab = refl

no_newline : nowhere 10 (map bytes_of names) ≡ true
unfolding count_of
no_newline = refl

-- neither a tab nor an LF stands in a name
pub name_tab : (k : ℕ) → Without 9 (name_of k)
unfolding name_of
name_tab k = each_without 9 (map bytes_of names) no_tab k

pub name_newline : (k : ℕ) → Without 10 (name_of k)
unfolding name_of
name_newline k = each_without 10 (map bytes_of names) no_newline k
