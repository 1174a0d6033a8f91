-- A block that passes the checks with the first pass's limits, and its walk.
use Rattle.std.proofs.Common.{None as Nothing, Ok, ℕ, ◌*◌, ◌≤◌, ◌≡◌, refl, sym, ◌∙◌, ap, subst, List, [], arith, length, take}
use Rattle.pcode.specs.Block.{held, has_id, first_limits}
use Rattle.pcode.specs.declared.var.VarId.{VarId}
use Rattle.pcode.specs.declared.block.Stmt.{Stmt}
use Rattle.pcode.specs.declared.block.Block.{Block}
use Rattle.pcode.specs.declared.block.Marks.{Marks}
use Rattle.vars.specs.Vars.{vars_of, held_ids, named_of}
use Rattle.vars.specs.declared.Vars.{Vars}
use Rattle.vars.proofs.Joining.{named_held}
use Rattle.checks.specs.Labels.{good_label}
use Rattle.checks.specs.Checks.{check_of}
use Rattle.checks.proofs.Passing.{passing}
use Rattle.const_prop.specs.Pass.{start_walk, temporary_flags}
use Rattle.alike.proofs.Kept.{AllPass, labels_pass}
use Rattle.first_checked.specs.Results.{Given}
use Rattle.first_checked.proofs.Fine.{NoZero}
use Rattle.first_checked.proofs.Ids.{AllFine, no_zero_vars, checked_fine}
use Rattle.first_checked.proofs.Walk.{Walks, walked, start_sure}

-- the table that names the block's variables holds them
pub first_table : (m : ℕ) (b : Block) → 48 ≤ m → check_of first_limits b ≡ Ok tt → held_ids (named_of m (held b)).vars ≡ vars_of (held b)
first_table m b h e = let n = (passing first_limits b e).vars in named_held m (held b) (omega (arith, n, h))

module _ {b : Block} {vars : Vars} {m : Marks} {l : List Stmt} (g : Given b vars m l) where
  abbrev ids : List VarId
  ids = held_ids vars

  all_fine : AllFine ids (held b)
  unfolding vars_of
  all_fine = checked_fine ids [] 0 (held b) (λ id h. ap (λ (x : List VarId). has_id x id) g.table ∙ h) (passing first_limits b g.checked).checked

  no_zero : NoZero ids
  unfolding vars_of
  no_zero = subst NoZero (sym g.table) (no_zero_vars ids (held b) all_fine)

  -- the pass's result is the walk's
  pub first_walk : Walks ids [] Nothing (held b) l
  first_walk =
      let n = passing first_limits b g.checked in
      let t : length ids ≤ 48 = (let z = ap length g.table in let y = n.vars in omega (arith, z, y)) in
      let h = start_sure vars no_zero (4 * length (held b)) (let z = n.short in omega (arith, z)) t in
      let r = walked vars no_zero (temporary_flags m (take 48 vars.ids)) (held b) 0 start_walk (held b) l h all_fine g.given in
      subst (λ (x : List Stmt). Walks ids [] Nothing (held b) x) r.is r.walk

  -- the block's labels pass the checks
  pub block_labels : AllPass (good_label (held b)) [] (held b)
  block_labels = labels_pass (held b) [] (held b) refl (passing first_limits b g.checked).labels
