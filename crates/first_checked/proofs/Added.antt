-- Each statement gives at most two, all fine over the block's ids and at most one new id a statement.
use Rattle.std.proofs.Common.{Option, None as Nothing, Some, ℕ, suc, ◌+◌, ◌*◌, ◌≤◌, ◌≡◌, refl, sym, ◌∙◌, ap, true, List, [], ◌∷◌, ◌++◌, arith, length, length-append}
use mathlib.Core.Bool.{false≢true}
use Rattle.pcode.specs.Var.{same_id}
use Rattle.pcode.specs.Block.{held, has_id, first_limits}
use Rattle.pcode.specs.declared.var.VarId.{VarId}
use Rattle.pcode.specs.declared.var.PcodeLabel.{PcodeLabel}
use Rattle.pcode.specs.declared.block.Stmt.{Stmt}
use Rattle.pcode.specs.declared.block.Block.{Block}
use Rattle.pcode.specs.declared.block.Marks.{Marks}
use Rattle.vars.specs.Vars.{vars_of, held_ids}
use Rattle.vars.specs.declared.Vars.{Vars}
use Rattle.vars.proofs.Rows.{ways}
use Rattle.checks.specs.Statements.{good_size, good_parts, met_needs, good_sizes}
use Rattle.const_step.specs.Labels.{branch_of, label_stmt, end_of}
use Rattle.const_prop.specs.Pass.{stmts_of}
use Rattle.alike.proofs.Fewer.{Within as Among, distinct_vars, fewer}
use Rattle.checks.proofs.Passing.{passing}
use Rattle.first_checked.specs.Results.{Given, InRoom}
use Rattle.first_checked.proofs.Fine.{Fine, fine_within, within_more}
use Rattle.first_checked.proofs.Ids.{AllFine, vars_hold, fine_names, among_right}
use Rattle.first_checked.proofs.Gives.{Gives, drops, skips, copies, stays, widens}
use Rattle.first_checked.proofs.Walk.{Step, turns, passes, lost, kept, meets, Walks, ends, goes}
use Rattle.first_checked.proofs.First.{first_walk}

-- an added branch and a kept label
branch_fine : (ids : List VarId) (t : PcodeLabel) → Fine ids (branch_of t)
unfolding good_size good_parts met_needs good_sizes
branch_fine ids t = record { good = record { parts = refl; needs = refl; sizes = refl }; output = tt; first = tt; second = tt }

label_fine : (ids : List VarId) (l : PcodeLabel) → Fine ids (label_stmt l)
unfolding good_parts met_needs good_sizes
label_fine ids l = record { good = record { parts = refl; needs = refl; sizes = refl }; output = tt; first = tt; second = tt }

-- statements over some ids and at most n new ones
pub record Added (ids : List VarId) (n : ℕ) (out : List Stmt) : Type 0 where
  pub new : List VarId
  pub few : length new ≤ n
  pub fine : AllFine (new ++ ids) out

all_within : (l m : List VarId) (ss : List Stmt) → Among l m → AllFine l ss → AllFine m ss
all_within l m [] w f = tt
all_within l m (s ∷ ss) w f = (fine_within l m s w f.0, all_within l m ss w f.1)

all_join : (ids : List VarId) (a b : List Stmt) → AllFine ids a → AllFine ids b → AllFine ids (a ++ b)
all_join ids [] b f g = g
all_join ids (s ∷ a) b f g = (f.0, all_join ids a b f.1 g)

among_cons : (x : VarId) (l m : List VarId) → Among l m → Among (x ∷ l) (x ∷ m)
unfolding has_id
among_cons x l m w id e = ways (same_id x id) (λ t. rw t) (λ t. rw t (w id (sym (rw t) ∙ e)))

module _ (ids : List VarId) (n : ℕ) (ss out : List Stmt) (a : Added ids n out) where
  none_new : AllFine ids ss → Added ids (suc n) (ss ++ out)
  none_new f =
      record {
        new = a.new;
        few = omega (arith, a.few);
        fine = all_join (a.new ++ ids) ss out (all_within ids (a.new ++ ids) ss (among_right a.new ids) f) a.fine;
      }

  one_new : (x : VarId) → AllFine (x ∷ ids) ss → Added ids (suc n) (ss ++ out)
  one_new x f =
      let l = a.new ++ ids in
      record {
        new = x ∷ a.new;
        few = omega (arith, a.few);
        fine = all_join (x ∷ l) ss out (all_within (x ∷ ids) (x ∷ l) ss (among_cons x ids l (among_right a.new ids)) f) (all_within l (x ∷ l) out (within_more x l) a.fine);
      }

gives_added : (ids : List VarId) (n : ℕ) {st : Stmt} {ss : List Stmt} {k : Option PcodeLabel} (out : List Stmt) → Added ids n out → Gives ids st ss k → Added ids (suc n) (ss ++ out)
gives_added ids n out a drops = none_new ids n [] out a tt
gives_added ids n out a (skips l e) = none_new ids n [] out a tt
gives_added ids n out a (copies s k e f) = none_new ids n (s ∷ []) out a (f, tt)
gives_added ids n out a (stays s e f) = none_new ids n (s ∷ []) out a (f, tt)
gives_added ids n out a (widens x s z k e g f h) = one_new ids n (s ∷ (z ∷ [])) out a x (f, (h, tt))

step_added : (ids : List VarId) (n : ℕ) {made rest ss : List Stmt} {st : Stmt} {k j : Option PcodeLabel} (out : List Stmt) → Added ids n out → Step ids made rest st k ss j → Added ids (suc n) (ss ++ out)
step_added ids n out a (turns m g) = gives_added ids n out a g
step_added ids n out a (passes m) = none_new ids n [] out a tt
step_added ids n out a (lost e r) = none_new ids n [] out a tt
step_added ids n out a (kept {l = l} e) = none_new ids n (label_stmt l ∷ []) out a (label_fine ids l, tt)
step_added ids n out a (meets {t = t} {l = l} e q) = none_new ids n (branch_of t ∷ (label_stmt l ∷ [])) out a (branch_fine ids t, (label_fine ids l, tt))

end_fine : (ids : List VarId) (k : Option PcodeLabel) → AllFine ids (stmts_of (end_of k))
end_fine ids Nothing = tt
end_fine ids (Some t) = (branch_fine ids t, tt)

pub walks_added : (ids : List VarId) {made rest out : List Stmt} {k : Option PcodeLabel} → Walks ids made k rest out → Added ids (length rest) out
walks_added ids (ends {k = k}) = record { new = []; few = omega arith; fine = end_fine ids k }
walks_added ids (goes {rest = rest} {out = out} s w) = step_added ids (length rest) out (walks_added ids w) s

-- at most two statements for each, and one at the end
gives_short : (ids : List VarId) {st : Stmt} {ss : List Stmt} {k : Option PcodeLabel} → Gives ids st ss k → length ss ≤ 2
gives_short ids drops = omega arith
gives_short ids (skips l e) = omega arith
gives_short ids (copies s k e f) = omega arith
gives_short ids (stays s e f) = omega arith
gives_short ids (widens x s z k e g f h) = omega arith

step_short : (ids : List VarId) {made rest ss : List Stmt} {st : Stmt} {k j : Option PcodeLabel} → Step ids made rest st k ss j → length ss ≤ 2
step_short ids (turns m g) = gives_short ids g
step_short ids (passes m) = omega arith
step_short ids (lost e r) = omega arith
step_short ids (kept e) = omega arith
step_short ids (meets e q) = omega arith

end_short : (k : Option PcodeLabel) → length (stmts_of (end_of k)) ≤ 1
end_short Nothing = omega arith
end_short (Some t) = omega arith

pub walks_short : (ids : List VarId) {made rest out : List Stmt} {k : Option PcodeLabel} → Walks ids made k rest out → length out ≤ 2 * length rest + 1
walks_short ids (ends {k = k}) = let h = end_short k in omega (arith, h)
walks_short ids (goes {rest = rest} {ss = ss} {out = out} s w) =
    let a = step_short ids s in
    let b = walks_short ids w in
    let c = length-append ss out in
    omega (arith, a, b, c)

module _ {b : Block} {vars : Vars} {m : Marks} {l : List Stmt} (g : Given b vars m l) where
  pub result_added : Added (held_ids vars) (length (held b)) l
  result_added = walks_added (held_ids vars) (first_walk g)

  few_vars : length (vars_of l) ≤ length (held b) + 48
  unfolding vars_of has_id
  few_vars =
      let a = result_added in
      let ids = a.new ++ held_ids vars in
      let h = fewer (vars_of l) ids (distinct_vars [] l tt) (vars_hold (λ (id : VarId). has_id ids id ≡ true) [] l (λ id q. absurd (false≢true q)) (fine_names ids l a.fine)) in
      let n = length-append a.new (held_ids vars) in
      let t = ap length g.table in
      let f = passing first_limits b g.checked in
      omega (arith, h, n, t, a.few, f.vars)

  -- as many statements and variables as the second pass takes
  pub result_room : InRoom l
  result_room =
      let h = walks_short (held_ids vars) (first_walk g) in
      let f = (passing first_limits b g.checked).short in
      let v = few_vars in
      record { stmts = omega (arith, h, f); vars = omega (arith, v, f) }
