-- Parts of a list, and what is put back in their place. Assumes nothing.
use Rattle.std.proofs.Common.{ℕ, ◌+◌, ◌*◌, ◌-◌, ◌≤◌, ◌≡◌, ◌∙◌, ap, List, ◌++◌, arith, length, take, drop, length-append, length-drop, length-take-le, drop-drop, take_at, drop_at}
use borrow.Rule.Slice.PartMut.{put_mid}
use Rattle.const_eval.specs.declared.place.Place.{Place}
use Rattle.const_eval.specs.Known.{start_of, part_of, splice, Fit, Within}

-- a slice from a start to an end, by its length
pub part_is : (at len : ℕ) (xs : List ℕ) → take (at + len - at) (drop at xs) ≡ take len (drop at xs)
part_is at len xs =
    let q : at + len - at ≡ len = omega arith in
    rw q

-- a slice's length
pub slice_length : (at len : ℕ) (xs : List ℕ) → at + len ≤ length xs → length (take (at + len - at) (drop at xs)) ≡ len
slice_length at len xs h = ap length (part_is at len xs) ∙ length-take-le len (drop at xs) (omega (arith, length-drop at xs))

-- a slice that is lent, and what came back
pub put_splice : (at len : ℕ) (xs ys : List ℕ) → at + len ≤ length xs → length ys ≡ length (take (at + len - at) (drop at xs)) → put_mid at (at + len - at) xs ys ≡ splice at ys xs
put_splice at len xs ys h e =
    let q : at + len - at ≡ length ys = omega (arith, slice_length at len xs h) in
    rw (q, drop-drop (length ys) at xs)

-- new elements inside leave the length
pub splice_length : (at : ℕ) (new xs : List ℕ) → at + length new ≤ length xs → length (splice at new xs) ≡ length xs
splice_length at new xs h = simp (length-append, length-drop) (omega (arith, length-take-le at xs (omega arith)))

-- a part has eight codes a byte
pub part_length : (p : Place) (store : List ℕ) → Within (length store) p → length (part_of p store) ≡ 8 * p.size
part_length p store w = length-take-le (8 * p.size) (drop (start_of p) store) (omega (arith, w.row_in, w.inside, length-drop (start_of p) store))

-- bytes of a row lie in a store of that many rows
pub fit_within : (rows codes : ℕ) (p : Place) → codes ≡ 128 * rows → Fit rows p → Within codes p
fit_within rows codes p e f = record { row_in = omega (arith, e, f.row_in); inside = f.inside }

-- a part that took new codes holds them
pub put_part : (p : Place) (new store : List ℕ) → Within (length store) p → length new ≡ 8 * p.size → part_of p (splice (start_of p) new store) ≡ new
put_part p new store w l =
    let f : length (take (start_of p) store) ≡ start_of p = length-take-le (start_of p) store (omega (arith, w.row_in, w.inside)) in
    let r = drop (start_of p + length new) store in
    ap (take (8 * p.size)) (drop_at (take (start_of p) store) (new ++ r) (start_of p) f) ∙ take_at new r (8 * p.size) l
