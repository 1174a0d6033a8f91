-- Runs of one statement list over two tables and rows that agree by id are alike: the order of rows does not matter.
use Rattle.std.proofs.Common.{ℕ, zero, suc, ◌+◌, ◌*◌, ◌<◌, ◌≤◌, arith, ◌≡◌, refl, sym, ap, ◌∙◌, subst, Bool, true, false, List, [], ◌∷◌, ◌++◌, eqb, lit<, length, take, drop, get_or, get_or-drop, eqb-true, Ok}
use borrow.Author.Tests.{eqb-false}
use Rattle.pcode.specs.Var.{pick, cut, size_of, size_out}
use Rattle.pcode.specs.Block.{has_id, held, blank_stmt, second_limits}
use Rattle.pcode.specs.declared.var.VarId.{VarId}
use Rattle.pcode.specs.declared.var.VarNode.{VarNode}
use Rattle.pcode.specs.declared.var.Operand.{Operand}
use Rattle.pcode.specs.declared.var.Operand.TheVariants.{None, Const, Var}
use Rattle.pcode.specs.Var.{Output}
use Rattle.std.specs.declared.option.Option.TheVariants as Out
use Rattle.pcode.specs.declared.block.Stmt.{Stmt}
use Rattle.pcode.specs.declared.block.Block.{Block}
use Rattle.vars.specs.Vars.{row_of, vars_of}
use Rattle.vars.proofs.Rows.{row_below, row_apart, ways, named_has}
use Rattle.checks.specs.Checks.{check_of}
use Rattle.checks.proofs.Passing.{passing}
use Rattle.state.specs.Bytes.{num_of, read_of}
use Rattle.meaning.specs.Meaning.{meaning}
use Rattle.machine.specs.Values.{value_in, written, result_in, plain_step, Held, HeldOperand, HeldOutput}
use Rattle.step.specs.Events.{Event, Taken}
use Rattle.step.specs.Steps.{Machine, act_of, answer_at, loaded_rows, rows_after, loads_after, events_of, flow_of, step_of}
use Rattle.step.specs.declared.Act.{Act}
use Rattle.step.specs.declared.Act.TheVariants.{Nothing, Marks, Jumps, Exits, Loads, Stores, Computes}
use Rattle.step.specs.Steps.{Flow}
use Rattle.std.specs.Prelude.{None as Next, Some as Jump}
use Rattle.run.specs.Run.{arrived, run_from, Shape}
use Rattle.renumber.specs.Agree.{by_id, AgreeById, loaded, stored, taken, marked, ended, AllAlike, none, more, HeldStmt, HeldAll}
use Rattle.run.proofs.Ready.{ready}
use Rattle.run.proofs.Bytes.{byte_after, write_own, write_other, after_shape}

nil : (n : ℕ) → num_of (take n []) ≡ 0
unfolding num_of
nil zero = refl
nil (suc n) = refl

-- a number in bytes depends on those bytes alone
num_same : (n : ℕ) (xs ys : List ℕ) → ((k : ℕ) → get_or xs k 0 ≡ get_or ys k 0) → num_of (take n xs) ≡ num_of (take n ys)
unfolding num_of
num_same zero xs ys h = refl
num_same (suc n) [] [] h = refl
num_same (suc n) [] (y ∷ ys) h = let e = h 0 in let f = num_same n [] ys (λ k. h (suc k)) in let z = nil n in omega arith
num_same (suc n) (x ∷ xs) [] h = let e = h 0 in let f = num_same n xs [] (λ k. h (suc k)) in let z = nil n in omega arith
num_same (suc n) (x ∷ xs) (y ∷ ys) h = let e = h 0 in let f = num_same n xs ys (λ k. h (suc k)) in omega arith

module _ (ids : List VarId) (rows : List (List ℕ)) (s : Shape rows) (o : VarNode) (h : Held ids o) (v k : ℕ) where
  inside : row_of ids o.id < 112
  inside = let b = row_below ids o.id h.named in let r = h.room in omega arith

  own_byte : by_id ids (written ids rows (Out.Some o) v) o.id k ≡ byte_after o.offset o.size v k (by_id ids rows o.id k)
  own_byte = write_own rows (row_of ids o.id) o.offset o.size v s inside h.inside k

  other_byte : (id : VarId) → (row_of ids id ≡ row_of ids o.id → ⊥) → by_id ids (written ids rows (Out.Some o) v) id k ≡ by_id ids rows id k
  other_byte id n = write_other rows (row_of ids o.id) o.offset o.size v s inside h.inside (row_of ids id) k n

module _ (ids ids' : List VarId) (rows rows' : List (List ℕ)) (agree : AgreeById ids ids' rows rows') where
  -- so an operand has one value
  pub value_same : (a : Operand) → HeldOperand ids a → HeldOperand ids' a → value_in ids rows a ≡ value_in ids' rows' a
  unfolding read_of
  value_same None h h' = refl
  value_same (Const v n) h h' = refl
  value_same (Var v) h h' =
      num_same v.size (drop v.offset (get_or rows (row_of ids v.id) [])) (drop v.offset (get_or rows' (row_of ids' v.id) []))
      (λ k. get_or-drop v.offset (get_or rows (row_of ids v.id) []) k 0 ∙ agree v.id h.named h'.named (v.offset + k) ∙ sym (get_or-drop v.offset (get_or rows' (row_of ids' v.id) []) k 0))

  module _ (s : Shape rows) (s' : Shape rows') where
    -- and what is written is written alike
    pub written_same : (o : Output) → HeldOutput ids o → HeldOutput ids' o → (v : ℕ) → AgreeById ids ids' (written ids rows o v) (written ids' rows' o v)
    written_same Out.None h h' v id m m' k = agree id m m' k
    written_same (Out.Some o) h h' v id m m' k =
        ways (eqb (row_of ids id) (row_of ids o.id))
        (λ t. let same = row_apart ids id o.id m h.named (eqb-true _ _ t) in
        subst (λ (x : VarId). by_id ids (written ids rows (Out.Some o) v) x k ≡ by_id ids' (written ids' rows' (Out.Some o) v) x k) (sym same)
        (own_byte ids rows s o h v k ∙ ap (byte_after o.offset o.size v k) (agree o.id h.named h'.named k) ∙ sym (own_byte ids' rows' s' o h' v k)))
        (λ t. let other = eqb-false _ _ t in
        other_byte ids rows s o h v k id other ∙ agree id m m' k
        ∙ sym (other_byte ids' rows' s' o h' v k id (λ e. other (ap (row_of ids) (row_apart ids' id o.id m' h'.named e)))))

    module _ (t : Stmt) (h : HeldStmt ids t) (h' : HeldStmt ids' t) where
      result_same : result_in ids rows t ≡ result_in ids' rows' t
      unfolding result_in
      result_same =
          ap (λ (a : ℕ). meaning t.op (8 * size_of t.first) (8 * size_out t.output) a (value_in ids rows t.second)) (value_same t.first h.first h'.first)
          ∙ ap (λ (b : ℕ). meaning t.op (8 * size_of t.first) (8 * size_out t.output) (value_in ids' rows' t.first) b) (value_same t.second h.second h'.second)

      plain_same : AgreeById ids ids' (plain_step ids rows t) (plain_step ids' rows' t)
      unfolding plain_step
      plain_same =
          subst (λ (v : ℕ). AgreeById ids ids' (written ids rows t.output (result_in ids rows t)) (written ids' rows' t.output v)) result_same
          (written_same t.output h.output h'.output (result_in ids rows t))

      loaded_same : (answers : List ℕ) (n : ℕ) → AgreeById ids ids' (loaded_rows ids answers n rows t.output) (loaded_rows ids' answers n rows' t.output)
      unfolding loaded_rows
      loaded_same answers n = written_same t.output h.output h'.output (cut (answer_at answers n) (size_out t.output))

      -- a statement leaves rows that agree
      pub after_same : (answers : List ℕ) (n : ℕ) (act : Act) → AgreeById ids ids' (rows_after ids answers n rows t act) (rows_after ids' answers n rows' t act)
      after_same answers n Nothing = agree
      after_same answers n Marks = agree
      after_same answers n (Jumps l) = agree
      after_same answers n (Exits k) = agree
      after_same answers n (Loads k) = loaded_same answers n
      after_same answers n (Stores k) = agree
      after_same answers n Computes = plain_same

module _ (R : List (List ℕ) → List (List ℕ) → Type 0) where
  pub append_alike : {xs xs' ys ys' : List Event} → AllAlike R xs xs' → AllAlike R ys ys' → AllAlike R (xs ++ ys) (xs' ++ ys')
  append_alike none q = q
  append_alike (more e p) q = more e (append_alike p q)

  exit_alike : (t : Bool) (n a b : ℕ) {rows rows' : List (List ℕ)} → R rows rows' → AllAlike R (pick t [] (Taken n a b rows ∷ [])) (pick t [] (Taken n a b rows' ∷ []))
  exit_alike true n a b r = none
  exit_alike false n a b r = more (taken r) none

  -- the same values at related rows leave the same events
  pub events_alike : (act : Act) (a b : ℕ) {rows rows' : List (List ℕ)} → R rows rows' → AllAlike R (events_of rows act a b) (events_of rows' act a b)
  events_alike Nothing a b r = none
  events_alike Marks a b r = more (marked r) none
  events_alike (Jumps l) a b r = none
  events_alike (Exits n) a b r = exit_alike (eqb a 0) n a b r
  events_alike (Loads n) a b r = more loaded none
  events_alike (Stores n) a b r = more stored none
  events_alike Computes a b r = none

module _ (ids ids' : List VarId) (answers : List ℕ) where
  abbrev at : List (List ℕ) → ℕ → Machine
  at rows n = record { rows = rows; loads = n }

  -- runs from rows that agree by id are alike, in events, numbers, values and rows by id
  pub run_alike : (ss : List Stmt) (flow : Flow) (n : ℕ) (rows rows' : List (List ℕ)) → HeldAll ids ss → HeldAll ids' ss → Shape rows → Shape rows' → AgreeById ids ids' rows rows'
      → AllAlike (AgreeById ids ids') (run_from ids answers ss flow (at rows n)) (run_from ids' answers ss flow (at rows' n))
  unfolding run_from step_of
  run_alike [] flow n rows rows' h h' s s' agree = more (ended agree) none
  run_alike (t ∷ ss) (Jump l) n rows rows' h h' s s' agree = run_alike ss (arrived l t.op) n rows rows' h.1 h'.1 s s' agree
  run_alike (t ∷ ss) Next n rows rows' h h' s s' agree =
      let R = AgreeById ids ids' in
      let act = act_of t.op in
      let a = value_in ids rows t.first in
      let b = value_in ids rows t.second in
      let ea = value_same ids ids' rows rows' agree t.first h.0.first h'.0.first in
      let eb = value_same ids ids' rows rows' agree t.second h.0.second h'.0.second in
      append_alike R
      (subst (λ (x : ℕ). AllAlike R (events_of rows act a b) (events_of rows' act x (value_in ids' rows' t.second))) ea
      (subst (λ (y : ℕ). AllAlike R (events_of rows act a b) (events_of rows' act a y)) eb (events_alike R act a b agree)))
      (subst (λ (x : ℕ). AllAlike R (run_from ids answers ss (flow_of act a) (at (rows_after ids answers n rows t act) (loads_after n act))) (run_from ids' answers ss (flow_of act x) (at (rows_after ids' answers n rows' t act) (loads_after n act)))) ea
      (run_alike ss (flow_of act a) (loads_after n act) (rows_after ids answers n rows t act) (rows_after ids' answers n rows' t act) h.1 h'.1
      (after_shape ids answers n rows t act s h.0.output) (after_shape ids' answers n rows' t act s' h'.0.output)
      (after_same ids ids' rows rows' agree s s' t h.0 h'.0 answers n act)))

held_all : (ids : List VarId) (ss : List Stmt) → ((i : ℕ) → i < length ss → HeldStmt ids (get_or ss i blank_stmt)) → HeldAll ids ss
held_all ids [] h = tt
held_all ids (s ∷ ss) h = (h 0 (omega arith), held_all ids ss (λ i k. h (suc i) (omega arith)))

-- every table that has a checked block's variables, in any order, holds its statements
pub checked_held : (b : Block) → check_of second_limits b ≡ Ok tt → (ids : List VarId) → length ids ≤ 112
    → ((id : VarId) → has_id (vars_of (held b)) id ≡ true → has_id ids id ≡ true) → HeldAll ids (held b)
checked_held b e ids m h =
    held_all ids (held b)
    (λ i k.
    let p = passing second_limits b e in
    let r = ready ids m (get_or (held b) i blank_stmt) (λ id g. h id (named_has (held b) i blank_stmt id k g)) (p.each i k) [] (λ r j. lit< tt) in
    record { first = r.operands.first; second = r.operands.second; output = r.output })
