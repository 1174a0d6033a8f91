-- The code's table of names holds the names of specs/, and no name is longer than 21 bytes.
use Rattle.std.proofs.Common.{◌≡◌, ◌≤◌, sym, ℕ, zero, suc, Bool, true, false, List, [], ◌∷◌, map, length, get_or}
use lib.Dec.{T, leb, leb→le}
use lib.ListN.{get_or-map}
use denote.Bor.{Bor}
use Rattle.pcode.specs.Names.{bytes_of, names, name_of}

-- what a row of a table of texts holds
pub row_text : (l : List (Bor (List ℕ))) (k : ℕ) (d : Bor (List ℕ)) → (get_or l k d).now ≡ get_or (map (λ (b : Bor (List ℕ)). b.now) l) k d.now
row_text l k d = sym (get_or-map (λ (b : Bor (List ℕ)). b.now) l k d)

abbrev both : Bool → Bool → Bool
both true b = b
both false b = false

abbrev short : List (List ℕ) → Bool
short [] = true
short (r ∷ rs) = both (leb (length r) 21) (short rs)

both_left : (a b : Bool) → T (both a b) → T a
both_left true b t = tt
both_left false b t = t

both_right : (a b : Bool) → T (both a b) → T b
both_right true b t = t
both_right false b t = absurd t

each_short : (rs : List (List ℕ)) → T (short rs) → (k : ℕ) → length (get_or rs k []) ≤ 21
each_short [] s k = leb→le 0 21 tt
each_short (r ∷ rs) s zero = leb→le _ _ (both_left (leb (length r) 21) (short rs) s)
each_short (r ∷ rs) s (suc k) = each_short rs (both_right (leb (length r) 21) (short rs) s) k

pub length_fits : (k : ℕ) → length (name_of k) ≤ 21
unfolding name_of
length_fits k = each_short (map bytes_of names) tt k
