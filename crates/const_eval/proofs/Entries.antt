-- An entry's value, and the walk over the entries from the newest. Assumes nothing.
use Rattle.std.proofs.Common.{ℕ, suc, ◌+◌, ◌*◌, ◌-◌, ◌≤◌, ◌<◌, ◌≡◌, ◌∙◌, ap, subst, Bool, true, List, arith, take, drop, Some}
use Rattle.pcode.specs.Var.{pick}
use Rattle.const_eval.specs.Known.{same_codes}
use Rattle.const_eval.specs.Map.{place_at, entry_at, entries, find_e, Short}
use Rattle.const_eval.proofs.Parts.{part_is}

-- an entry's value, as the slice that the code compares
pub hit_key : (m : List ℕ) (i n : ℕ) → n ≡ 8 * (place_at m i).size → take (131 * i + 3 + n - (131 * i + 3)) (drop (131 * i + 3) m) ≡ (entry_at m i).key
unfolding entry_at
hit_key m i n e = part_is (131 * i + 3) n m ∙ ap (λ (k : ℕ). take k (drop (131 * i + 3) m)) e

-- one entry of the walk
module _ (key m : List ℕ) (i : ℕ) (p : 0 < i) where
  one : i ≡ suc (i - 1)
  one = omega arith

  pub find_hit : same_codes (entry_at m (i - 1)).key key ≡ true → find_e key (entries m i) ≡ Some (place_at m (i - 1))
  unfolding entry_at
  find_hit e = ap (λ (k : ℕ). find_e key (entries m k)) one ∙ ap (λ (t : Bool). pick t (Some (entry_at m (i - 1)).place) (find_e key (entries m (i - 1)))) e

  short_one : Short (entries m (suc (i - 1))) → ((entry_at m (i - 1)).place.size ≤ 16) × Short (entries m (i - 1))
  short_one h = h

  pub short_head : Short (entries m i) → (place_at m (i - 1)).size ≤ 16
  unfolding entry_at
  short_head h = (short_one (subst (λ (k : ℕ). Short (entries m k)) one h)).0
