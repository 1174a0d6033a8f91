-- What the first pass gives of a checked block passes the checks with the second pass's limits.
use Rattle.std.proofs.Common.{Option, None as Nothing, Some, Ok, ℕ, ◌+◌, ◌≡◌, refl, subst, true, List, [], ◌∷◌, ◌++◌, length, le-ltb}
use Rattle.pcode.specs.Block.{held, second_limits}
use Rattle.pcode.specs.declared.var.VarId.{VarId}
use Rattle.pcode.specs.declared.var.PcodeLabel.{PcodeLabel as Label}
use Rattle.pcode.specs.declared.op.Op.{Op}
use Rattle.pcode.specs.declared.block.Stmt.{Stmt}
use Rattle.pcode.specs.declared.block.Block.{Block}
use Rattle.pcode.specs.declared.block.Marks.{Marks}
use Rattle.vars.specs.Vars.{held_ids}
use Rattle.vars.specs.declared.Vars.{Vars}
use Rattle.checks.specs.Statements.{stmt_check, checks_from}
use Rattle.checks.specs.Labels.{good_label, labels_from}
use Rattle.checks.specs.Checks.{check_of}
use Rattle.const_step.specs.Labels.{branch_of, end_of}
use Rattle.const_prop.specs.Pass.{stmts_of, block_with}
use Rattle.alike.proofs.Kept.{AllPass, labels_ok, vars_ok, held_block}
use Rattle.first_checked.specs.Results.{Given}
use Rattle.first_checked.proofs.Ids.{AllFine}
use Rattle.first_checked.proofs.First.{first_walk, block_labels}
use Rattle.first_checked.proofs.Added.{result_added, result_room}
use Rattle.first_checked.proofs.Targets.{Has, Aims, has_left, has_none, aims_right, aims_split, aims_here, aims_one, aims_none, once, pass_append, branch_same}
use Rattle.first_checked.proofs.Labels.{Found, up, down, Leads, Keeps, last}

-- 3, 4 and 5
checks_fine : (ids : List VarId) (i : ℕ) (ss : List Stmt) → AllFine ids ss → checks_from i ss ≡ Ok tt
unfolding checks_from stmt_check
checks_fine ids i [] f = refl
checks_fine ids i (s ∷ ss) f = let g = f.0.good in rw (g.parts, g.needs, g.sizes) (checks_fine ids (i + 1) ss f.1)

-- 6: a label stands once, a branch's label stands in the block
use_good : (block above : List Stmt) (op : Op) → once above op ≡ true → ((t : Label) → op ≡ Op.PcodeBranch t → Has block t) → good_label block above op ≡ true
use_good block above (Op.Trap j) h f = refl
use_good block above Op.InstructionMarker h f = refl
use_good block above (Op.PcodeLabel l) h f = h
use_good block above (Op.PcodeBranch l) h f = f l refl
use_good block above (Op.Branch n) h f = refl
use_good block above (Op.Load n) h f = refl
use_good block above (Op.Store n) h f = refl
use_good block above (Op.Call j n) h f = refl
use_good block above (Op.Select n) h f = refl
use_good block above (Op.Subpiece n) h f = refl
use_good block above (Op.Opaque j) h f = refl
use_good block above (Op.Float j) h f = refl
use_good block above (Op.One j) h f = refl
use_good block above (Op.Two j) h f = refl
use_good block above (Op.Divide j) h f = refl
use_good block above (Op.Shift j) h f = refl
use_good block above (Op.Rotate j) h f = refl
use_good block above (Op.Compare j) h f = refl
use_good block above (Op.Bool j) h f = refl

all_good : (block above ss : List Stmt) → AllPass once above ss → ((t : Label) → Aims ss t → Has block t) → AllPass (good_label block) above ss
all_good block above [] h f = tt
all_good block above (s ∷ ss) h f =
    (use_good block above s.op h.0 (λ t e. f t (aims_here s ss t e)), all_good block (above ++ (s ∷ [])) ss h.1 (λ t a. f t (aims_right (s ∷ []) ss t a)))

-- nothing is given yet
pub keeps_start : (block : List Stmt) → Keeps block [] [] Nothing block
keeps_start block =
    record { whole = refl; sub = λ t p. p; back = λ t a p. p; ahead = λ t a. absurd (aims_none t a); leads = tt; single = tt }

end_once : (a : List Stmt) (k : Option Label) → AllPass once a (stmts_of (end_of k))
end_once a Nothing = tt
end_once a (Some t) = (refl, tt)

stood : (made : List Stmt) (t : Label) → Found made [] t → Has made t
stood made t (up p) = p
stood made t (down p) = absurd (has_none t p)

end_aims : (made : List Stmt) (k : Option Label) → Leads made [] k → (t : Label) → Aims (stmts_of (end_of k)) t → Has made t
end_aims made Nothing l t a = absurd (aims_none t a)
end_aims made (Some x) l t a = subst (Has made) (branch_same x t (aims_one (branch_of x) t a)) (stood made x l)

-- at the end the labels are good
end_labels : (block above made : List Stmt) (k : Option Label) → Keeps block above made k [] → AllPass (good_label (made ++ stmts_of (end_of k))) [] (made ++ stmts_of (end_of k))
end_labels block above made k h =
    let e = stmts_of (end_of k) in
    all_good (made ++ e) [] (made ++ e) (pass_append once [] made e h.single (end_once made k))
    (λ t a. has_left made e t (aims_split made e t a (λ q. stood made t (h.ahead t q)) (end_aims made k h.leads t)))

module _ {b : Block} {vars : Vars} {m : Marks} {l : List Stmt} (g : Given b vars m l) where
  result_labels : labels_from l 0 l ≡ Ok tt
  result_labels =
      let r = last (held b) (held_ids vars) (λ a x k y. Unit {0}) (λ a x y ss st k j h p u s. tt) (first_walk g) [] (keeps_start (held b)) (block_labels g) tt in
      labels_ok l [] l refl (subst (λ (x : List Stmt). AllPass (good_label x) [] x) r.is (end_labels (held b) r.above r.made r.skip r.keeps))

  -- the result passes the checks
  pub result_checked : check_of second_limits (block_with l) ≡ Ok tt
  unfolding check_of
  result_checked =
      let a = result_added g in
      let r = result_room g in
      rw (held_block l, le-ltb 129 (length l) r.stmts, checks_fine (a.new ++ held_ids vars) 0 l a.fine, vars_ok l r.vars) result_labels
