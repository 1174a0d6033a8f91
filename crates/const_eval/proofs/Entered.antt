-- One more entry comes first, and the entries below it stay. Assumes nothing.
use Rattle.std.proofs.Common.{ℕ, zero, suc, ◌+◌, ◌*◌, ◌≤◌, ◌<◌, ◌≡◌, refl, sym, ◌∙◌, ap, List, [], ◌∷◌, ◌++◌, arith, add-one, length, take, drop, get_or, take-take, get_or-take, take_at, length-take-le, get_or-append-add}
use lib.Seq.{get_or_at, drop-append-add}
use Rattle.const_eval.specs.declared.place.Place.{Place}
use Rattle.const_eval.specs.Known.{splice}
use Rattle.const_eval.specs.Map.{place_at, entry_at, entries, words_of, Short}

-- a part below n is a part of the first n
cut : (a l n : ℕ) (x : List ℕ) → a + l ≤ n → take l (drop a x) ≡ take l (drop a (take n x))
cut zero l n x h = sym (take-take l n x (omega (arith, h)))
cut (suc a) l zero x h = absurd (omega (arith, h))
cut (suc a) l (suc n) [] h = refl
cut (suc a) l (suc n) (x ∷ xs) h = cut a l n xs (omega (arith, h))

-- words that agree below n make the same entries there
module _ (x y : List ℕ) (n : ℕ) (e : take n x ≡ take n y) where
  get_d_agree : (j : ℕ) → j < n → get_or x j 0 ≡ get_or y j 0
  get_d_agree j h = sym (get_or-take n x j 0 h) ∙ ap (λ (t : List ℕ). get_or t j 0) e ∙ get_or-take n y j 0 h

  part_agree : (a l : ℕ) → a + l ≤ n → take l (drop a x) ≡ take l (drop a y)
  part_agree a l h = cut a l n x h ∙ ap (λ (t : List ℕ). take l (drop a t)) e ∙ sym (cut a l n y h)

  place_agree : (i : ℕ) → 131 * i + 131 ≤ n → place_at x i ≡ place_at y i
  unfolding place_at
  place_agree i h =
      let p : get_or x (131 * i) 0 ≡ get_or y (131 * i) 0 = get_d_agree (131 * i) (omega arith) in
      let q : get_or x (131 * i + 1) 0 ≡ get_or y (131 * i + 1) 0 = get_d_agree (131 * i + 1) (omega arith) in
      let r : get_or x (131 * i + 2) 0 ≡ get_or y (131 * i + 2) 0 = get_d_agree (131 * i + 2) (omega arith) in
      cc

  entry_agree : (i : ℕ) → 131 * i + 131 ≤ n → (place_at y i).size ≤ 16 → entry_at x i ≡ entry_at y i
  unfolding entry_at
  entry_agree i h l =
      let p : place_at x i ≡ place_at y i = place_agree i h in
      let k = 8 * (place_at y i).size in
      let q : take k (drop (131 * i + 3) x) ≡ take k (drop (131 * i + 3) y) = part_agree (131 * i + 3) k (omega arith) in
      cc

  short_place : (i : ℕ) → (entry_at y i).place.size ≤ 16 → (place_at y i).size ≤ 16
  unfolding entry_at
  short_place i h = h

  entries_agree : (i : ℕ) → 131 * i ≤ n → Short (entries y i) → entries x i ≡ entries y i
  entries_agree zero h s = refl
  entries_agree (suc i) h s =
      let p : entry_at x i ≡ entry_at y i = entry_agree i (omega arith) (short_place i s.0) in
      let q : entries x i ≡ entries y i = entries_agree i (omega arith) s.1 in
      cc

place_is : (a b d : ℕ) (p : Place) → a ≡ p.row → b ≡ p.offset → d ≡ p.size → ◌≡◌ {A = Place} (record { row = a; offset = b; size = d }) p
place_is a b d p e f g = ap (λ (t : ℕ). mk t b d) e ∙ ap (λ (t : ℕ). mk p.row t d) f ∙ ap (λ (t : ℕ). mk p.row p.offset t) g
  where
    mk : ℕ → ℕ → ℕ → Place
    mk x y z = record { row = x; offset = y; size = z }

-- the new entry comes first, and the others stay
module _ (m : List ℕ) (n : ℕ) (p : Place) (key : List ℕ) (h : 131 * n + 131 ≤ length m) (l : 8 * p.size ≡ length key) where
  front : length (take (131 * n) m) ≡ 131 * n
  front = length-take-le (131 * n) m (omega arith)

  new_place : place_at (splice (131 * n) (words_of p key) m) n ≡ p
  unfolding place_at
  new_place =
      let m' = splice (131 * n) (words_of p key) m in
      let r = key ++ drop (131 * n + length (words_of p key)) m in
      let w = p.row ∷ (p.offset ∷ (p.size ∷ r)) in
      let a : get_or m' (131 * n) 0 ≡ p.row = get_or_at (take (131 * n) m) p.row (p.offset ∷ (p.size ∷ r)) 0 (131 * n) front in
      let b : get_or m' (131 * n + 1) 0 ≡ p.offset = ap (λ (t : ℕ). get_or m' (t + 1) 0) (sym front) ∙ get_or-append-add (take (131 * n) m) w 1 0 in
      let d : get_or m' (131 * n + 2) 0 ≡ p.size = ap (λ (t : ℕ). get_or m' (t + 2) 0) (sym front) ∙ get_or-append-add (take (131 * n) m) w 2 0 in
      place_is _ _ _ p a b d

  new_key : take (8 * p.size) (drop (131 * n + 3) (splice (131 * n) (words_of p key) m)) ≡ key
  new_key =
      let r = drop (131 * n + length (words_of p key)) m in
      let e : drop (131 * n + 3) (splice (131 * n) (words_of p key) m) ≡ key ++ r = ap (λ (t : ℕ). drop (t + 3) (splice (131 * n) (words_of p key) m)) (sym front) ∙ drop-append-add (take (131 * n) m) (words_of p key ++ r) 3 in
      ap (take (8 * p.size)) e ∙ take_at key r (8 * p.size) (sym l)

  new_entry : entry_at (splice (131 * n) (words_of p key) m) n ≡ record { place = p; key = key }
  unfolding entry_at
  new_entry =
      let e : place_at (splice (131 * n) (words_of p key) m) n ≡ p = new_place in
      let q : take (8 * p.size) (drop (131 * n + 3) (splice (131 * n) (words_of p key) m)) ≡ key = new_key in
      cc

  pub entered_first : Short (entries m n) → entries (splice (131 * n) (words_of p key) m) (n + 1) ≡ record { place = p; key = key } ∷ entries m n
  entered_first s =
      let e : take (131 * n) (splice (131 * n) (words_of p key) m) ≡ take (131 * n) m = take_at (take (131 * n) m) (words_of p key ++ drop (131 * n + length (words_of p key)) m) (131 * n) front in
      let q : entries (splice (131 * n) (words_of p key) m) n ≡ entries m n = entries_agree (splice (131 * n) (words_of p key) m) m (131 * n) e n (omega arith) s in
      let r : entry_at (splice (131 * n) (words_of p key) m) n ≡ record { place = p; key = key } = new_entry in
      rw add-one (cc)
