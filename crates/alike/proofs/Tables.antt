-- A table's rows as a state by id: what is read and written there is what is read and written by id.
use Rattle.std.proofs.Common.{ℕ, zero, suc, ◌+◌, ◌-◌, ◌*◌, ◌≤◌, ◌<◌, arith, add-one, ◌≡◌, refl, sym, ap, ap₂, ◌∙◌, Bool, true, false, ◌&&◌, true≢false, List, [], ◌∷◌, leb, ltb, length, get_or, take, drop, lt-ltb, le-ltb, le-leb, ltb-true, ltb-false}
use mathlib.Core.Path.{fun_ext}
use borrow.Author.Tests.{lt-leb}
use Rattle.pcode.specs.Var.{pick, same_id, as_operand}
use Rattle.pcode.specs.Block.{has_id}
use Rattle.pcode.specs.declared.var.VarId.{VarId}
use Rattle.pcode.specs.declared.var.VarNode.{VarNode}
use Rattle.pcode.specs.declared.var.Operand.{Operand}
use Rattle.pcode.specs.declared.var.Operand.TheVariants.{None, Const, Var}
use Rattle.pcode.specs.Var.{Output}
use Rattle.std.specs.declared.option.Option.TheVariants as Out
use Rattle.pcode.specs.declared.block.Stmt.{Stmt}
use Rattle.pcode.proofs.Ids.{same_id_true, same_id_refl}
use Rattle.vars.specs.Vars.{ids_of, join_ids, vars_from, vars_of, row_of}
use Rattle.vars.proofs.Rows.{ways, has_here, row_apart, row_below, joins_have, vars_keep}
use Rattle.live_bytes.specs.Bytes.{inside, end_of}
use Rattle.dead_store.proofs.Places.{Among, output_among, first_among, second_among}
use Rattle.machine.specs.Values.{value_in, written}
use Rattle.state.specs.Bytes.{num_of, bytes_of, read_of}
use Rattle.state.proofs.Digits.{one_more}
use Rattle.run.specs.Run.{Shape}
use Rattle.run.proofs.Bytes.{byte_after, write_own, write_other}
use Rattle.alike.specs.ById.{Start, byte_of, seen_of, StartsAs}
use Rattle.alike.proofs.Fits.{InRow}
use Rattle.alike.proofs.Havoc.{State, num_by, value_by, put_by}
use Rattle.alike.proofs.Parts.{pick-cong}

-- the 16 bytes of each variable
unfoldable pub state_of : List VarId → Start → List (List ℕ) → State
state_of ids start rows id k = pick (ltb k 16) (seen_of ids rows start id k) 0

-- the start's own
unfoldable pub start_state : Start → State
start_state start id k = pick (ltb k 16) (start id k) 0

-- a table has the variable that an operand names
abbrev pub Known : List VarId → Operand → Type 0
Known ids None = Unit {0}
Known ids (Const v n) = Unit {0}
Known ids (Var v) = has_id ids v.id ≡ true

pub record KnownStmt (ids : List VarId) (s : Stmt) : Type 0 where
  pub first : Known ids s.first
  pub second : Known ids s.second
  pub output : Known ids (as_operand s.output)

abbrev pub AllKnown : List VarId → List Stmt → Type 0
AllKnown ids [] = Unit {0}
AllKnown ids (s ∷ ss) = KnownStmt ids s × AllKnown ids ss

known : (ids : List VarId) (a : Operand) → Among ids a → Known ids a
known ids None h = tt
known ids (Const v n) h = tt
known ids (Var v) h = h v.id (has_here v.id [] v.id (same_id_refl v.id))

known_from : (l : List VarId) (ss : List Stmt) → AllKnown (vars_from l ss) ss
unfolding vars_from
known_from l [] = tt
known_from l (s ∷ ss) =
    let t = vars_from (join_ids l (ids_of s)) ss in
    let h : (id : VarId) → has_id (ids_of s) id ≡ true → has_id t id ≡ true =
    λ id e. vars_keep (join_ids l (ids_of s)) ss id (joins_have l (ids_of s) id e) in (
      record {
        first = known t s.first (first_among t s h);
        second = known t s.second (second_among t s h);
        output = known t (as_operand s.output) (output_among t s h);
      },
      known_from (join_ids l (ids_of s)) ss,
    )

-- the block's own table has all that it names
pub all_known : (ss : List Stmt) → AllKnown (vars_of ss) ss
unfolding vars_of
all_known ss = known_from [] ss

num_rows : (s : State) (id : VarId) (xs : List ℕ) → length xs ≡ 16 → ((k : ℕ) → k < 16 → get_or xs k 0 ≡ s id k) → (o n : ℕ) → o + n ≤ 16
    → num_of (take n (drop o xs)) ≡ num_by s id o n
unfolding num_by num_of
num_rows s id xs l h o zero f = refl
num_rows s id xs l h o (suc n) f =
    one_more xs o n (omega arith)
    ∙ ap₂ (λ (x y : ℕ). x + 256 * y) (h o (omega arith))
    (ap (λ (i : ℕ). num_of (take n (drop i xs))) (add-one o) ∙ num_rows s id xs l h (suc o) n (omega arith))

module _ (ids : List VarId) (start : Start) (room : length ids ≤ 112) where
  -- byte k of a variable that the table has
  pub state_at : (rows : List (List ℕ)) (id : VarId) (k : ℕ) → has_id ids id ≡ true → k < 16 → state_of ids start rows id k ≡ byte_of ids rows id k
  unfolding state_of seen_of
  state_at rows id k h l = rw (lt-ltb k 16 l, h)

  -- rows that agree with a start are the start's bytes
  pub state_start : (rows : List (List ℕ)) → StartsAs ids rows start → state_of ids start rows ≡ start_state start
  unfolding state_of start_state seen_of
  state_start rows h =
      fun_ext λ id. fun_ext λ k. pick-cong (ltb k 16)
      (λ e. ways (has_id ids id) (λ t. rw t (h id t k (ltb-true k 16 e))) (λ t. rw t)) (λ e. refl)

  module _ (rows : List (List ℕ)) (shape : Shape rows) where
    low : (v : VarNode) → has_id ids v.id ≡ true → row_of ids v.id < 112
    low v h = let b = row_below ids v.id h in omega arith

    pub value_rows : (a : Operand) → InRow a → Known ids a → value_in ids rows a ≡ value_by (state_of ids start rows) a
    unfolding read_of
    value_rows None f h = refl
    value_rows (Const v n) f h = refl
    value_rows (Var v) f h =
        num_rows (state_of ids start rows) v.id (get_or rows (row_of ids v.id) []) (shape.sized (row_of ids v.id) (low v h))
        (λ k l. sym (state_at rows v.id k h l)) v.offset v.size f

    byte_in : (v : VarNode) (x k old : ℕ) → v.offset + v.size ≤ 16 → byte_after v.offset v.size x k old ≡ pick (inside v k) (get_or (bytes_of 16 x) (k - v.offset) 0) old
    unfolding inside
    byte_in v x k old f =
        let e : end_of v ≡ v.offset + v.size =
        ways (ltb (v.offset + v.size) 16) (λ t. rw t) (λ t. let l = ltb-false (v.offset + v.size) 16 t in rw t (omega arith)) in
        ways (ltb k v.offset)
        (λ t. let l = ltb-true k v.offset t in rw (t, lt-leb v.offset k l))
        (λ t. let l = ltb-false k v.offset t in rw (t, le-leb v.offset k l, e))

    module _ (v : VarNode) (x : ℕ) (f : v.offset + v.size ≤ 16) (h : has_id ids v.id ≡ true) where
      abbrev after : List (List ℕ)
      after = written ids rows (Out.Some v) x

      own : (k : ℕ) → k < 16 → state_of ids start after v.id k ≡ put_by (state_of ids start rows) (Out.Some v) x v.id k
      unfolding put_by
      own k l =
          state_at after v.id k h l
          ∙ write_own rows (row_of ids v.id) v.offset v.size x shape (low v h) f k
          ∙ byte_in v x k (byte_of ids rows v.id k) f
          ∙ ap₂ (λ (b : Bool) (y : ℕ). pick (b && inside v k) (get_or (bytes_of 16 x) (k - v.offset) 0) y) (sym (same_id_refl v.id)) (sym (state_at rows v.id k h l))

      apart : (id : VarId) → same_id v.id id ≡ false → v.id ≡ id → ⊥
      apart id n e = true≢false (sym (same_id_refl v.id) ∙ ap (λ (i : VarId). same_id v.id i) e ∙ n)

      other : (id : VarId) (k : ℕ) → k < 16 → same_id v.id id ≡ false → state_of ids start after id k ≡ put_by (state_of ids start rows) (Out.Some v) x id k
      unfolding put_by state_of seen_of
      other id k l n =
          rw (n, lt-ltb k 16 l)
          (pick-cong (has_id ids id)
          (λ t. write_other rows (row_of ids v.id) v.offset v.size x shape (low v h) f (row_of ids id) k
          (λ e. apart id n (sym (row_apart ids id v.id t h e))))
          (λ t. refl))

      past : (id : VarId) (k : ℕ) → 16 ≤ k → state_of ids start after id k ≡ put_by (state_of ids start rows) (Out.Some v) x id k
      unfolding put_by state_of inside
      past id k l =
          let e : ltb k (end_of v) ≡ false =
          le-ltb k (end_of v) (ways (ltb (v.offset + v.size) 16) (λ t. rw t (omega arith)) (λ t. rw t l)) in
          rw (le-ltb k 16 l, e) (ways (same_id v.id id) (λ t. ways (leb v.offset k) (λ u. rw (t, u)) (λ u. rw (t, u))) (λ t. rw t))

      pub put_var : state_of ids start after ≡ put_by (state_of ids start rows) (Out.Some v) x
      put_var =
          fun_ext λ id. fun_ext λ k. ways (ltb k 16)
          (λ t. ways (same_id v.id id) (λ u. subst_id id k (same_id_true v.id id u) (ltb-true k 16 t)) (other id k (ltb-true k 16 t)))
          (λ t. past id k (ltb-false k 16 t))
        where
          subst_id : (id : VarId) (k : ℕ) → v.id ≡ id → k < 16 → state_of ids start after id k ≡ put_by (state_of ids start rows) (Out.Some v) x id k
          subst_id id k e l = rw (← e) (own k l)

    put_none : (x : ℕ) → state_of ids start rows ≡ put_by (state_of ids start rows) Out.None x
    unfolding put_by
    put_none x = refl

    -- a write by rows is the write by id
    pub put_rows : (o : Output) (x : ℕ) → InRow (as_operand o) → Known ids (as_operand o) → state_of ids start (written ids rows o x) ≡ put_by (state_of ids start rows) o x
    put_rows Out.None x f h = put_none x
    put_rows (Out.Some v) x f h = put_var v x f h
