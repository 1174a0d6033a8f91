-- A written output: new codes that hold a number keep knowledge valid for the state in which that number was written.
use Rattle.std.proofs.Common.{ℕ, ◌+◌, ◌*◌, ◌-◌, ◌/◌, ◌^◌, ◌≤◌, ◌<◌, arith, ◌≡◌, sym, ap, ◌∙◌, subst, Bool, true, List, eqb-true, ltb-true, ltb-false, leb-true, leb-false, eqb, leb, ltb, length, take, drop}
use borrow.Author.Tests.{eqb-false}
use Rattle.pcode.specs.Block.{has_id}
use Rattle.pcode.specs.declared.var.VarId.{VarId}
use Rattle.pcode.specs.declared.var.VarNode.{VarNode}
use Rattle.std.specs.declared.option.Option.TheVariants as Out
use Rattle.vars.specs.Vars.{row_of}
use Rattle.vars.proofs.Rows.{ways, row_apart}
use Rattle.const_eval.specs.Known.{splice}
use Rattle.sound.specs.Sound.{Valuation, low}
use Rattle.sound.proofs.Numbers.{low_mod}
use Rattle.alike.proofs.Havoc.{State, put_by}
use Rattle.first_alike.proofs.Sure.{Holds, holds_take, holds_drop}
use Rattle.first_alike.proofs.Words.{low_part}
use Rattle.first_alike.proofs.Splices.{splice_before, splice_after, splice_in}
use Rattle.first_alike.proofs.Puts.{put_byte, put_off}
use Rattle.first_alike.proofs.Valid.{InUse, byte_codes, Rows, rows_at, other_row}

module _ (ids : List VarId) (τ : Valuation) (used store : List ℕ) (s : State) (rows : Rows ids τ used store s) (o : VarNode) (here : has_id ids o.id ≡ true)
    (fit : o.offset + o.size ≤ 16) (room : 128 * row_of ids o.id + 128 ≤ length store) (new : List ℕ) (x : ℕ) (long : length new ≡ 8 * o.size)
    (holds : Holds τ new (low (8 * o.size) x)) where
  abbrev row : ℕ
  row = row_of ids o.id

  abbrev at : ℕ
  at = 128 * row + 8 * o.offset

  abbrev after : State
  after = put_by s (Out.Some o) x

  in_store : at + length new ≤ length store
  in_store = omega (arith, long, fit, room)

  -- a byte of the output
  byte_new : (k : ℕ) → o.offset ≤ k → k < o.offset + o.size → Holds τ (byte_codes row k (splice at new store)) (low 8 (after o.id k))
  byte_new k h g =
      let j : ℕ = k - o.offset in
      let z : 128 * row + 8 * k - at ≡ 8 * j = omega arith in
      let e : byte_codes row k (splice at new store) ≡ take 8 (drop (8 * j) new) =
      splice_in at new store in_store (128 * row + 8 * k) 8 (omega arith) (omega (arith, long)) ∙ ap (λ (m : ℕ). take 8 (drop m new)) z in
      let d : take 8 (drop (8 * j) (low (8 * o.size) x)) ≡ low 8 (after o.id k) =
      low_part (8 * j) 8 (8 * o.size) x (omega arith) ∙ sym (low_mod 8 (x / 2 ^ (8 * j))) ∙ ap (low 8) (sym (put_byte s o x k fit h g)) in
      subst (λ (xs : List ℕ). Holds τ xs (low 8 (after o.id k))) (sym e)
      (subst (λ (vs : List Bool). Holds τ (take 8 (drop (8 * j) new)) vs) d
      (holds_take τ 8 (drop (8 * j) new) (drop (8 * j) (low (8 * o.size) x)) (holds_drop τ (8 * j) new (low (8 * o.size) x) holds)))

  -- a byte that stayed
  byte_old : (id : VarId) (k : ℕ) → has_id ids id ≡ true → InUse used (row_of ids id) → k < 16 → (o.id ≡ id → o.offset ≤ k → k < o.offset + o.size → ⊥)
      → byte_codes (row_of ids id) k (splice at new store) ≡ byte_codes (row_of ids id) k store
      → Holds τ (byte_codes (row_of ids id) k (splice at new store)) (low 8 (after id k))
  byte_old id k h u l n e =
      subst (λ (xs : List ℕ). Holds τ xs (low 8 (after id k))) (sym e)
      (subst (λ (y : ℕ). Holds τ (byte_codes (row_of ids id) k store) (low 8 y)) (sym (put_off s o x id k fit n)) (rows_at ids τ used store s rows id h u k l))

  byte_own : (k : ℕ) → InUse used row → k < 16 → Holds τ (byte_codes row k (splice at new store)) (low 8 (after o.id k))
  byte_own k u l =
      ways (leb o.offset k)
      (λ a. ways (ltb k (o.offset + o.size))
      (λ b. byte_new k (leb-true o.offset k a) (ltb-true k (o.offset + o.size) b))
      (λ b.
      let q = ltb-false k (o.offset + o.size) b in
      byte_old o.id k here u l (λ e m n. omega arith) (ap (take 8) (splice_after at new store in_store (128 * row + 8 * k) (omega (arith, long, q))))))
      (λ a.
      let q = leb-false o.offset k a in
      byte_old o.id k here u l (λ e m n. omega arith) (splice_before at new store in_store (128 * row + 8 * k) 8 (omega (arith, q))))

  pub written_rows : Rows ids τ used (splice at new store) after
  unfolding Rows
  written_rows id h u k l =
      ways (eqb (row_of ids id) row)
      (λ e. own id h u k l (row_apart ids id o.id h here (eqb-true (row_of ids id) row e)))
      (λ e.
      let n = eqb-false (row_of ids id) row e in
      byte_old id k h u l (λ q a b. n (ap (row_of ids) (sym q)))
      (other_row row (8 * o.offset) (row_of ids id) k new store (omega (arith, long, fit)) room n l))
    where
      own : (id : VarId) → has_id ids id ≡ true → InUse used (row_of ids id) → (k : ℕ) → k < 16 → id ≡ o.id → Holds τ (byte_codes (row_of ids id) k (splice at new store)) (low 8 (after id k))
      own id h u k l e = subst (λ (y : VarId). Holds τ (byte_codes (row_of ids y) k (splice at new store)) (low 8 (after y k))) (sym e) (byte_own k (subst (λ (y : VarId). InUse used (row_of ids y)) e u) l)
