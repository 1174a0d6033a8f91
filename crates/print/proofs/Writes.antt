-- Writing one text after another is writing both; copying a row is writing it.
use Rattle.std.proofs.Common.{ℕ, zero, suc, ◌+◌, ◌-◌, ◌/◌, ◌%◌, ◌<◌, ◌≤◌, add-one, add-zero, not-suc-le-zero, arith, ◌≡◌, refl, sym, ap, ◌∙◌, List, [], ◌∷◌, ◌++◌, append_assoc, lt-ltb, le-ltb, length, take, drop, set, get_or, take-suc, length-append, length-drop, take-append-drop, length-take-le, take_at, drop-drop}
use lib.Seq.{set_split, drop-append-add}
use Rattle.print.specs.Texts.{Wrote, written, digits_text}

module _ (d : List ℕ) (at : ℕ) where
  pub written_none : written d at [] ≡ d
  unfolding written
  written_none = rw add-zero (take-append-drop at d)

  written_one : (b : ℕ) → at < length d → set d at b ≡ written d at (b ∷ [])
  unfolding written
  written_one b h = set_split d at b h ∙ ap (λ (n : ℕ). take at d ++ (b ∷ drop n d)) (sym (add-one at))

  pub written_length : (xs : List ℕ) → at + length xs ≤ length d → length (written d at xs) ≡ length d
  unfolding written
  written_length xs h =
      simp (length-append, length-take-le at d (omega arith), length-drop) (omega arith)

  join : (xs ys : List ℕ) → at + (length xs + length ys) ≤ length d → written (written d at xs) (at + length xs) ys ≡ written d at (xs ++ ys)
  unfolding written
  join xs ys h =
      let n : length (take at d ++ xs) ≡ at + length xs = simp (length-append, length-take-le at d (omega arith)) in
      let e : take at d ++ (xs ++ drop (at + length xs) d) ≡ (take at d ++ xs) ++ drop (at + length xs) d = sym (append_assoc (take at d) xs (drop (at + length xs) d)) in
      let f : take (at + length xs) (take at d ++ (xs ++ drop (at + length xs) d)) ≡ take at d ++ xs = ap (take (at + length xs)) e ∙ take_at (take at d ++ xs) (drop (at + length xs) d) (at + length xs) n in
      let g : drop (at + length xs + length ys) (take at d ++ (xs ++ drop (at + length xs) d)) ≡ drop (at + length (xs ++ ys)) d =
      ap (drop (at + length xs + length ys)) e
      ∙ ap (λ (k : ℕ). drop (k + length ys) ((take at d ++ xs) ++ drop (at + length xs) d)) (sym n)
      ∙ drop-append-add (take at d ++ xs) (drop (at + length xs) d) (length ys)
      ∙ drop-drop (length ys) (at + length xs) d
      ∙ ap (λ (k : ℕ). drop k d) (ap (λ (k : ℕ). at + length xs + k) refl ∙ sums) in
      ap (λ (l : List ℕ). l ++ (ys ++ drop (at + length xs + length ys) (take at d ++ (xs ++ drop (at + length xs) d)))) f
      ∙ ap (λ (l : List ℕ). (take at d ++ xs) ++ (ys ++ l)) g
      ∙ append_assoc (take at d) xs (ys ++ drop (at + length (xs ++ ys)) d)
      ∙ ap (λ (l : List ℕ). take at d ++ l) (sym (append_assoc xs ys (drop (at + length (xs ++ ys)) d)))
    where
      sums : at + length xs + length ys ≡ at + length (xs ++ ys)
      sums = omega (arith, length-append xs ys)

  pub one : (b : ℕ) → at + 1 ≤ length d → Wrote 1 d at (b ∷ []) (set d at b) (at + 1)
  one b h =
      let e = written_one b (omega arith) in
      record { place = refl; bytes = e; kept = ap length e ∙ written_length (b ∷ []) h; width = omega arith }

-- one text, then another where the first ends
pub then : {k l : ℕ} {d e f : List ℕ} {at p q : ℕ} {xs ys : List ℕ} → at + (k + l) ≤ length d → Wrote k d at xs e p → Wrote l e p ys f q → Wrote (k + l) d at (xs ++ ys) f q
then {k} {l} {d} {e} {f} {at} {p} {q} {xs} {ys} h w v =
    let n : length (xs ++ ys) ≡ length xs + length ys = length-append xs ys in
    record {
      place = omega (arith, w.place, v.place);
      bytes =
          v.bytes
          ∙ ap (λ (x : List ℕ). written x p ys) w.bytes
          ∙ ap (λ (m : ℕ). written (written d at xs) m ys) w.place
          ∙ join d at xs ys (omega (arith, w.place, w.width, v.place, v.width));
      kept = v.kept ∙ w.kept;
      width = omega (arith, w.width, v.width);
    }

-- a text that is the same, within a wider room
pub retold : {k l : ℕ} {d e : List ℕ} {at p : ℕ} {xs ys : List ℕ} → xs ≡ ys → k ≤ l → Wrote k d at xs e p → Wrote l d at ys e p
retold {d = d} {e = e} {at = at} {p = p} {xs = xs} {ys = ys} g h w =
    record {
      place = w.place ∙ ap (λ (l : List ℕ). at + length l) g;
      bytes = w.bytes ∙ ap (written d at) g;
      kept = w.kept;
      width = omega (arith, w.width);
    }

-- nothing written
pub none : (d : List ℕ) (at : ℕ) → Wrote 0 d at [] d at
none d at = record { place = sym (add-zero at); bytes = sym (written_none d at); kept = refl; width = omega arith }

-- byte by byte: the first i bytes of a row are there
module _ (d : List ℕ) (at : ℕ) (s : List ℕ) (i : ℕ) (h : i < length s) (room : at + length s ≤ length d) where
  pub row_more : set (written d at (take i s)) (at + i) (get_or s i 0) ≡ written d at (take (i + 1) s)
  row_more =
      let n : length (take i s) ≡ i = length-take-le i s (omega arith) in
      let m : length (written d at (take i s)) ≡ length d = written_length d at (take i s) (omega arith) in
      written_one (written d at (take i s)) (at + i) (get_or s i 0) (omega arith)
      ∙ ap (λ (k : ℕ). written (written d at (take i s)) (at + k) (get_or s i 0 ∷ [])) (sym n)
      ∙ join d at (take i s) (get_or s i 0 ∷ []) (omega arith)
      ∙ ap (written d at) (sym (take-suc s i 0 h) ∙ ap (λ (k : ℕ). take k s) (sym (add-one i)))

-- the digits, as the code makes them
pub no_digit : (k v : ℕ) → k ≡ 0 → [] ≡ digits_text k v
unfolding digits_text
no_digit k v e = rw e

pub last_digit : (k v : ℕ) → 0 < k → v < 10 → (48 + v) ∷ [] ≡ digits_text k v
unfolding digits_text
last_digit zero v h g = absurd (not-suc-le-zero h)
last_digit (suc k) v h g = rw (lt-ltb v 10 g)

pub more_digits : (k v : ℕ) → 0 < k → 10 ≤ v → digits_text (k - 1) (v / 10) ++ ((48 + v % 10) ∷ []) ≡ digits_text k v
unfolding digits_text
more_digits zero v h g = absurd (not-suc-le-zero h)
more_digits (suc k) v h g = rw (le-ltb v 10 g, less)
  where
    less : suc k - 1 ≡ k
    less = omega arith
