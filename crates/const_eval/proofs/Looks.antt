-- What the map gives, and what an answer says. Assumes nothing.
use Rattle.std.proofs.Common.{ℕ, ◌≡◌, refl, subst, Bool, true, false, List, [], ◌∷◌, arith, Option, Some, None}
use Rattle.pcode.specs.Var.{pick}
use Rattle.const_eval.specs.Known.{part_of, same_codes, Within}
use Rattle.const_eval.specs.Map.{Entry, Inside, Short, find_e, if_still, lookup_of}
use Rattle.const_eval.specs.declared.place.Place.{Place}

-- parts that lie inside are short
pub inside_short : (codes : ℕ) (es : List Entry) → Inside codes es → Short es
inside_short codes [] h = tt
inside_short codes (e ∷ es) h = (omega (arith, h.0.inside), inside_short codes es h.1)

no_part : {R : Type 0} (p : Place) → ◌≡◌ {A = Option Place} None (Some p) → R
no_part p q = absurd (let z : ◌≡◌ {A = ℕ} 0 1 = cc in omega arith)

found_step : (codes : ℕ) (e : Entry) (p : Place) (t : Bool) (r : Option Place) → Within codes e.place → (r ≡ Some p → Within codes p) → pick t (Some e.place) r ≡ Some p → Within codes p
found_step codes e p true r f k q =
    let z : e.place ≡ p = cc in
    subst (λ (x : Place). Within codes x) z f
found_step codes e p false r f k q = k q

-- an entry that is found lies inside
pub inside_found : (codes : ℕ) (es : List Entry) (key : List ℕ) (p : Place) → Inside codes es → find_e key es ≡ Some p → Within codes p
inside_found codes [] key p h q = no_part p q
inside_found codes (e ∷ es) key p h q = found_step codes e p (same_codes e.key key) (find_e key es) h.0 (inside_found codes es key p h.1) q

-- a part that the map gives was found and still holds the value
still_found : (store key : List ℕ) (f : Option Place) (p : Place) → if_still store key f ≡ Some p → (f ≡ Some p) × (same_codes (part_of p store) key ≡ true)
still_found store key None p q = no_part p q
still_found store key (Some r) p q = go (same_codes (part_of r store) key) refl q
  where
    go : (t : Bool) → same_codes (part_of r store) key ≡ t → pick t (Some r) None ≡ Some p → (◌≡◌ {A = Option Place} (Some r) (Some p)) × (same_codes (part_of p store) key ≡ true)
    go true s q =
        let z : r ≡ p = cc in
        (q, subst (λ (x : Place). same_codes (part_of x store) key ≡ true) z s)
    go false s q = no_part p q

-- a part that the map gives lies inside
pub lookup_within : (codes : ℕ) (store : List ℕ) (es : List Entry) (key : List ℕ) (p : Place) → Inside codes es → lookup_of store es key ≡ Some p → Within codes p
lookup_within codes store es key p h q = inside_found codes es key p h (still_found store key (find_e key es) p q).0

-- a part that the map gives holds the value
pub lookup_holds : (store : List ℕ) (es : List Entry) (key : List ℕ) (p : Place) → lookup_of store es key ≡ Some p → same_codes (part_of p store) key ≡ true
lookup_holds store es key p q = (still_found store key (find_e key es) p q).1
