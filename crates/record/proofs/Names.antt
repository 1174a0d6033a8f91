-- Searching a name, one step at a time, and what `==` says of two rows of bytes.
use Rattle.std.proofs.Common.{ℕ, suc, ◌+◌, ◌<◌, ◌≤◌, add-one, arith, ◌≡◌, refl, Bool, true, false, ◌&&◌, List, [], ◌∷◌, map, eqb, ltb, Some, None, length, get_or, drop, drop_of_length-le, drop-cons}
use Rattle.std.specs.Cmp.Lexicographic.{pointwise}
use Rattle.pcode.specs.Var.{pick}
use Rattle.pcode.specs.Names.{bytes_of, names, name_of, eq_bytes}
use Rattle.record.specs.Names.{first_named, code_named, code_read}

module _ (l : List (List ℕ)) (s : List ℕ) (k : ℕ) where
  named_end : length l ≤ k → first_named (drop k l) s ≡ 0
  unfolding first_named
  named_end h = rw (drop_of_length-le l h)

  module _ (h : k < length l) where
    named_here : eq_bytes (get_or l k []) s ≡ true → first_named (drop k l) s ≡ 0
    unfolding first_named
    named_here e = rw (drop-cons l k [] h, e)

    named_more : eq_bytes (get_or l k []) s ≡ false → first_named (drop k l) s ≡ suc (first_named (drop (k + 1) l) s)
    unfolding first_named
    named_more e = rw (drop-cons l k [] h, e, add-one)

-- what is left of the search from code k on
unfoldable pub code_from : ℕ → List ℕ → ℕ
code_from k s = first_named (drop k (map bytes_of names)) s

pub code_start : (s : List ℕ) → code_named s ≡ 0 + code_from 0 s
unfolding code_named code_from
code_start s = rw (zero_plus (first_named (map bytes_of names) s))
  where
    zero_plus : (n : ℕ) → 0 + n ≡ n
    zero_plus n = omega arith

module _ (k : ℕ) (s : List ℕ) where
  pub code_end : 72 ≤ k → code_from k s ≡ 0
  unfolding code_from
  code_end h = named_end (map bytes_of names) s k h

  module _ (h : k < 72) where
    pub code_here : eq_bytes (name_of k) s ≡ true → code_from k s ≡ 0
    unfolding code_from name_of
    code_here e = named_here (map bytes_of names) s k h e

    pub code_more : eq_bytes (name_of k) s ≡ false → code_from k s ≡ suc (code_from (k + 1) s)
    unfolding code_from name_of
    code_more e = named_more (map bytes_of names) s k h e

-- what `==` of two slices says
pub bytes_are : (a b : List ℕ) → pointwise eqb a b ≡ eq_bytes a b
bytes_are [] [] = refl
bytes_are [] (y ∷ b) = refl
bytes_are (x ∷ a) [] = refl
bytes_are (x ∷ a) (y ∷ b) = rw (bytes_are a b) (here (eqb x y) (eq_bytes a b))
  where
    here : (t u : Bool) → (t && u) ≡ pick t u false
    here true u = refl
    here false u = refl

-- what the code that was read says of the definition
read_is : (n : ℕ) (t : Bool) (k : ℕ) → ltb n 72 ≡ t → pick t (Some n) None ≡ Some k → (n ≡ k) × (ltb k 72 ≡ true)
read_is n true k e h = let q : n ≡ k = cc in (q, rw q at e)
read_is n false k e h = cc

not_read : (n : ℕ) (t : Bool) → ltb n 72 ≡ t → pick t (Some n) None ≡ None → ltb n 72 ≡ false
not_read n true e h = cc
not_read n false e h = e

pub code_some : (s : List ℕ) (k : ℕ) → code_read s ≡ Some k → (code_named s ≡ k) × (ltb k 72 ≡ true)
unfolding code_read
code_some s k h = read_is (code_named s) (ltb (code_named s) 72) k refl h

pub code_none : (s : List ℕ) → code_read s ≡ None → ltb (code_named s) 72 ≡ false
unfolding code_read
code_none s h = not_read (code_named s) (ltb (code_named s) 72) refl h
