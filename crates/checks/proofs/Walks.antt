-- Walking over statements, one at a time.
use Rattle.std.proofs.Common.{Ok, Err}
use Prim.Native.Nat.{ℕ, ◌+◌, ◌<◌, ◌≤◌}
use native.Mathlib.Numerals.{add-one}
use mathlib.Core.Path.{◌≡◌, ◌∙◌, refl}
use mathlib.Core.Bool.{true, false}
use mathlib.Core.List.{List, [], ◌∷◌}
use lib.ListN.{length, take, drop, get_or, drop_of_length-le}
use lib.Seq.{drop-cons}
use Rattle.pcode.specs.declared.var.PcodeLabel.{PcodeLabel}
use Rattle.pcode.specs.declared.block.Stmt.{Stmt}
use Rattle.pcode.specs.declared.refusal.Refusal.{Refusal}
use Rattle.pcode.specs.declared.refusal.Refusal.TheVariants.{BadLabel}
use Rattle.checks.specs.Statements.{stmt_check, checks_from}
use Rattle.checks.specs.Labels.{is_label, has_label, good_label, labels_from}

module _ (l : List Stmt) (i : ℕ) where
  pub walk_end : length l ≤ i → drop i l ≡ []
  walk_end h = drop_of_length-le l {i = i} h

  pub walk_here : (d : Stmt) → i < length l → drop i l ≡ get_or l i d ∷ drop (i + 1) l
  walk_here d h = drop-cons l i d h ∙ rw add-one refl

module _ (i : ℕ) (xs : List Stmt) where
  pub checks_end : xs ≡ [] → checks_from i xs ≡ Ok tt
  unfolding checks_from
  checks_end e = rw e

  module _ (s : Stmt) (ys : List Stmt) (e : xs ≡ s ∷ ys) where
    pub checks_more : stmt_check i s ≡ Ok tt → checks_from i xs ≡ checks_from (i + 1) ys
    unfolding checks_from
    checks_more a = rw (e, a)

    pub checks_stop : (why : Refusal) → stmt_check i s ≡ Err why → checks_from i xs ≡ Err why
    unfolding checks_from
    checks_stop why a = rw (e, a)

module _ (xs : List Stmt) (l : PcodeLabel) where
  pub label_end : xs ≡ [] → has_label xs l ≡ false
  unfolding has_label
  label_end e = rw e

  module _ (s : Stmt) (ys : List Stmt) (e : xs ≡ s ∷ ys) where
    pub label_more : is_label s.op l ≡ false → has_label xs l ≡ has_label ys l
    unfolding has_label
    label_more a = rw (e, a)

    pub label_here : is_label s.op l ≡ true → has_label xs l ≡ true
    unfolding has_label
    label_here a = rw (e, a)

module _ (block : List Stmt) (i : ℕ) (xs : List Stmt) where
  pub labels_end : xs ≡ [] → labels_from block i xs ≡ Ok tt
  unfolding labels_from
  labels_end e = rw e

  module _ (s : Stmt) (ys : List Stmt) (e : xs ≡ s ∷ ys) where
    pub labels_more : good_label block (take i block) s.op ≡ true → labels_from block i xs ≡ labels_from block (i + 1) ys
    unfolding labels_from
    labels_more a = rw (e, a)

    pub labels_stop : good_label block (take i block) s.op ≡ false → labels_from block i xs ≡ Err (BadLabel i)
    unfolding labels_from
    labels_stop a = rw (e, a)
