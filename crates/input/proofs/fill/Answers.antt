use Rattle.std.proofs.Common.{◌≡◌, ℕ, ◌+◌, ◌≤◌, List, ◌++◌, rules, length, take, drop, sym, ap, ◌∙◌, subst, le_refl, drop_at, length-take-le}
use Rattle.std.proofs.lemmas.Slice.{take-put_mid_below}
use Rattle.std.specs.Io.KnownBytes.{Consumes}
use Rattle.std.proofs.KnownBytes.{Consumes-trans}
use borrow.Rule.Slice.PartMut.{put_mid, post_of}
use lib.Seq.{take-add, take-append-le}
use Rattle.input.proofs.fill.Goals as goal

-- the first bytes of a list, and those that were read after them
take_put_more : (a k n : ℕ) (xs ys : List ℕ) → a ≤ length xs → n ≤ length ys → take (a + n) (put_mid a k xs ys) ≡ take a xs ++ take n ys
take_put_more a k n xs ys within fits =
    let rest = ys ++ post_of a k xs in
    let back = ap (take n) (drop_at (take a xs) rest a (length-take-le a xs within)) ∙ take-append-le n ys (post_of a k xs) fits in
    take-add a n (put_mid a k xs ys) ∙ ap (λ l. l ++ take n (drop a (take a xs ++ rest))) (take-put_mid_below a k xs ys a (le_refl _) within) ∙ ap (λ l. take a xs ++ l) back

pub loop-done-preserved : goal.loop-done-preserved
loop-done-preserved g c =
    let before = c.loop-done.invariant in
    let read = c.in_ok-n.ensures in
    (search rules, subst (Consumes _ _) (sym (take_put_more _ _ _ _ _ before.0 read.bound.0)) (Consumes-trans _ _ _ _ _ before.1 read.bytes.0))
