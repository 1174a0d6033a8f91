-- A search for the first statement outside the class, from place i on.
use Rattle.std.proofs.Common.{ℕ, ◌+◌, ◌<◌, ◌≤◌, add-one, ◌≡◌, sym, ap, true, false, List, length, take, drop, get_or, drop_of_length-le, drop-cons}
use Rattle.pcode.specs.declared.block.Stmt.{Stmt}
use Rattle.machine.specs.Class.{outside, first_outside}
use Rattle.machine.specs.declared.class.Class.{Class}

module _ (c : Class) (block : List Stmt) (i : ℕ) where
  pub end : length block ≤ i → first_outside c block i (drop i block) ≡ i
  unfolding first_outside
  end h = rw (drop_of_length-le block h)

  module _ (d : Stmt) (h : i < length block) where
    pub found : outside c (take i block) (get_or block i d).op ≡ true → first_outside c block i (drop i block) ≡ i
    unfolding first_outside
    found e = rw (drop-cons block i d h, e)

    pub passed : outside c (take i block) (get_or block i d).op ≡ false → first_outside c block i (drop i block) ≡ first_outside c block (i + 1) (drop (i + 1) block)
    unfolding first_outside
    passed e = rw (drop-cons block i d h, e) (ap (λ (k : ℕ). first_outside c block (i + 1) (drop k block)) (sym (add-one i)))
