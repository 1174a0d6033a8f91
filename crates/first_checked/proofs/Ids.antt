-- What holds of each id that statements name holds of their variables; and a block's statements name its variables.
use Rattle.std.proofs.Common.{ℕ, ◌+◌, ◌≡◌, sym, ◌∙◌, ap, subst, Bool, true, false, ◌||◌, List, [], ◌∷◌, ◌++◌, Ok}
use mathlib.Core.Bool.{false≢true}
use Rattle.pcode.specs.Var.{same_id, zero_id, as_operand}
use Rattle.pcode.specs.Block.{has_id}
use Rattle.pcode.specs.declared.var.VarId.{VarId}
use Rattle.pcode.specs.declared.var.Operand.{Operand}
use Rattle.pcode.specs.declared.var.Operand.TheVariants.{None, Const, Var}
use Rattle.pcode.specs.declared.block.Stmt.{Stmt}
use Rattle.pcode.proofs.Ids.{same_id_true, same_id_refl}
use Rattle.vars.specs.Vars.{ids_in, ids_of, join_id, join_ids, vars_from}
use Rattle.vars.proofs.Rows.{ways, has_here, join_held, join_new, joins_have, vars_keep}
use Rattle.checks.specs.Statements.{good_operand, stmt_check, checks_from}
use Rattle.checks.proofs.Passing.{both_ok, good}
use Rattle.alike.proofs.Bools.{or_right}
use Rattle.alike.proofs.Fewer.{Within as Among, has_snoc}
use Rattle.first_checked.proofs.Fine.{Names, In, NoZero, Fine, in_within, node_parts, parts_of}

abbrev pub AllFine : List VarId → List Stmt → Type 0
AllFine ids [] = Unit {0}
AllFine ids (s ∷ ss) = Fine ids s × AllFine ids ss

module _ (P : VarId → Type 0) where
  -- each id of a list
  abbrev pub Holds : List VarId → Type 0
  Holds l = (id : VarId) → has_id l id ≡ true → P id

  abbrev pub All : List VarId → Type 0
  All [] = Unit {0}
  All (x ∷ xs) = P x × All xs

  abbrev pub NamesAll : List Stmt → Type 0
  NamesAll [] = Unit {0}
  NamesAll (s ∷ ss) = (Names P (as_operand s.output) × Names P s.first × Names P s.second) × NamesAll ss

  all_append : (xs ys : List VarId) → All xs → All ys → All (xs ++ ys)
  all_append [] ys p q = q
  all_append (x ∷ xs) ys p q = (p.0, all_append xs ys p.1 q)

  ids_in_lem : (a : Operand) → Names P a → All (ids_in a)
  ids_in_lem None h = tt
  ids_in_lem (Const v n) h = tt
  ids_in_lem (Var v) h = (h, tt)

  ids_all : (s : Stmt) → Names P (as_operand s.output) × Names P s.first × Names P s.second → All (ids_of s)
  ids_all s h =
      all_append (ids_in (as_operand s.output)) (ids_in s.first ++ ids_in s.second) (ids_in_lem (as_operand s.output) h.0)
      (all_append (ids_in s.first) (ids_in s.second) (ids_in_lem s.first h.1) (ids_in_lem s.second h.2))

  join_holds : (l : List VarId) (x : VarId) → Holds l → P x → Holds (join_id l x)
  join_holds l x h p id e =
      ways (has_id l x) (λ t. h id (ap (λ (m : List VarId). has_id m id) (sym (join_held l x t)) ∙ e))
      (λ t. by (sym (has_snoc l x id) ∙ ap (λ (m : List VarId). has_id m id) (sym (join_new l x t)) ∙ e))
    where
      by : (has_id l id || same_id x id) ≡ true → P id
      by q = ways (has_id l id) (h id) (λ t. subst P (same_id_true x id (ap (λ (b : Bool). b || same_id x id) (sym t) ∙ q)) p)

  joins_hold : (l xs : List VarId) → Holds l → All xs → Holds (join_ids l xs)
  unfolding join_ids
  joins_hold l [] h p = h
  joins_hold l (x ∷ xs) h p = joins_hold (join_id l x) xs (join_holds l x h p.0) p.1

  pub vars_hold : (l : List VarId) (ss : List Stmt) → Holds l → NamesAll ss → Holds (vars_from l ss)
  unfolding vars_from
  vars_hold l [] h p = h
  vars_hold l (s ∷ ss) h p = vars_hold (join_ids l (ids_of s)) ss (joins_hold l (ids_of s) h (ids_all s p.0)) p.1

pub fine_names : (ids : List VarId) (ss : List Stmt) → AllFine ids ss → NamesAll (λ (id : VarId). has_id ids id ≡ true) ss
fine_names ids [] f = tt
fine_names ids (s ∷ ss) f = ((f.0.output, f.0.first, f.0.second), fine_names ids ss f.1)

-- a good statement names no id 0
apart : (a : Operand) → good_operand a ≡ true → Names (λ (id : VarId). zero_id id ≡ false) a
apart None g = tt
apart (Const v n) g = tt
apart (Var v) g = (node_parts v g).id

fine_apart : (ids : List VarId) (ss : List Stmt) → AllFine ids ss → NamesAll (λ (id : VarId). zero_id id ≡ false) ss
fine_apart ids [] f = tt
fine_apart ids (s ∷ ss) f =
    let p = parts_of s f.0.good in
    ((apart (as_operand s.output) p.output, apart s.first p.first, apart s.second p.second), fine_apart ids ss f.1)

pub no_zero_vars : (ids : List VarId) (ss : List Stmt) → AllFine ids ss → NoZero (vars_from [] ss)
unfolding has_id
no_zero_vars ids ss f = vars_hold (λ (id : VarId). zero_id id ≡ false) [] ss (λ id e. absurd (false≢true e)) (fine_apart ids ss f)

has_left : (l m : List VarId) (id : VarId) → has_id l id ≡ true → has_id (l ++ m) id ≡ true
unfolding has_id
has_left [] m id e = absurd (false≢true e)
has_left (x ∷ l) m id e = ways (same_id x id) (λ t. rw t) (λ t. rw t (has_left l m id (sym (rw t) ∙ e)))

has_right : (l m : List VarId) (id : VarId) → has_id m id ≡ true → has_id (l ++ m) id ≡ true
unfolding has_id
has_right [] m id e = e
has_right (x ∷ l) m id e = or_right (same_id x id) (has_id (l ++ m) id) (has_right l m id e)

pub among_right : (l m : List VarId) → Among m (l ++ m)
among_right l m id e = has_right l m id e

in_ids : (a : Operand) → In (ids_in a) a
in_ids None = tt
in_ids (Const v n) = tt
in_ids (Var v) = has_here v.id [] v.id (same_id_refl v.id)

-- checked statements are fine over ids that hold their variables
pub checked_fine : (ids l : List VarId) (i : ℕ) (ss : List Stmt) → Among (vars_from l ss) ids → checks_from i ss ≡ Ok tt → AllFine ids ss
unfolding vars_from checks_from
checked_fine ids l i [] w e = tt
checked_fine ids l i (s ∷ ss) w e =
    let x = both_ok (stmt_check i s) (checks_from (i + 1) ss) e in
    let o = ids_in (as_operand s.output) in
    let a = ids_in s.first in
    let b = ids_in s.second in
    let all : Among (ids_of s) ids = λ id h. w id (vars_keep (join_ids l (ids_of s)) ss id (joins_have l (ids_of s) id h)) in (
      record {
        good = good i s x.0;
        output = in_within o ids (as_operand s.output) (λ id h. all id (has_left o (a ++ b) id h)) (in_ids (as_operand s.output));
        first = in_within a ids s.first (λ id h. all id (has_right o (a ++ b) id (has_left a b id h))) (in_ids s.first);
        second = in_within b ids s.second (λ id h. all id (has_right o (a ++ b) id (has_right a b id h))) (in_ids s.second);
      },
      checked_fine ids (join_ids l (ids_of s)) (i + 1) ss w x.1,
    )
