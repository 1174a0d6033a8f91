-- A machine state keeps its shape: 112 rows of 16 bytes, whatever is written.
use Rattle.std.proofs.Common.{ℕ, zero, suc, ◌+◌, ◌-◌, ◌/◌, ◌<◌, ◌≤◌, arith, mod-lt, ◌≡◌, refl, sym, ap, ◌∙◌, subst, Bool, true, false, List, [], ◌∷◌, ◌++◌, append_assoc, eqb, ltb, lit<, length, take, drop, get_or, set, length-set, length-take-le, get_or-take, get_or-drop, get_or-append-add, get_or-set_same, get_or-set_other, ltb-true, ltb-false, eqb-true}
use lib.ListN.{get_or-append}
use lib.Seq.{paste, length-paste}
use borrow.Author.Tests.{eqb-false}
use mir.Syntax.{w8}
use mir.Val.{Val}
use denote.Array.{Array, each}
use denote.Plain.{UInt}
use denote.Laws.{Is}
use denote.Shadow.{shadow}
use Rattle.pcode.specs.Var.{pick}
use Rattle.pcode.specs.declared.var.VarId.{VarId}
use Rattle.pcode.specs.Var.{Output}
use Rattle.std.specs.declared.option.Option.TheVariants as Out
use Rattle.pcode.specs.declared.block.Stmt.{Stmt}
use Rattle.vars.specs.Vars.{row_of}
use Rattle.vars.proofs.Rows.{row_below, ways}
use Rattle.state.specs.Bytes.{bytes_of, write_of}
use Rattle.state.proofs.Digits.{bytes_length}
use Rattle.machine.specs.Values.{Bytes, written, plain_step, HeldOutput}
use Rattle.step.specs.Steps.{loaded_rows, rows_after}
use Rattle.step.specs.declared.Act.{Act}
use Rattle.step.specs.declared.Act.TheVariants.{Nothing, Marks, Jumps, Exits, Loads, Stores, Computes}
use Rattle.run.specs.Run.{Shape}

-- an array of arrays of bytes has the shape
row_bytes : (xs : List ℕ) (us : List Val) → shadow (each ℕ (UInt w8).own_val xs us) → (k : ℕ) → get_or xs k 0 < 256
row_bytes [] [] s k = lit< tt
row_bytes [] (u ∷ us) s k = absurd s
row_bytes (x ∷ xs) [] s k = absurd s
row_bytes (x ∷ xs) (u ∷ us) s zero = s.0.1
row_bytes (x ∷ xs) (u ∷ us) s (suc k) = row_bytes xs us s.1 k

rows_bytes : (xs : List (List ℕ)) (us : List Val) → shadow (each (List ℕ) (Array (UInt w8) 16).own_val xs us) → (r k : ℕ) → get_or (get_or xs r []) k 0 < 256
rows_bytes [] [] s r k = lit< tt
rows_bytes [] (u ∷ us) s r k = absurd s
rows_bytes (x ∷ xs) [] s r k = absurd s
rows_bytes (x ∷ xs) (u ∷ us) s zero k = row_bytes x s.0.0 s.0.1.1 k
rows_bytes (x ∷ xs) (u ∷ us) s (suc r) k = rows_bytes xs us s.1 r k

rows_sized : (xs : List (List ℕ)) (us : List Val) → shadow (each (List ℕ) (Array (UInt w8) 16).own_val xs us) → (r : ℕ) → r < length xs → length (get_or xs r []) ≡ 16
rows_sized [] [] s r h = absurd (omega arith)
rows_sized [] (u ∷ us) s r h = absurd s
rows_sized (x ∷ xs) [] s r h = absurd s
rows_sized (x ∷ xs) (u ∷ us) s zero h = s.0.1.0.1
rows_sized (x ∷ xs) (u ∷ us) s (suc r) h = rows_sized xs us s.1 r (omega arith)

pub shaped : (xs : List (List ℕ)) (vs : List Val) → Is (Array (Array (UInt w8) 16) 112) xs vs → Shape xs
shaped xs vs p =
    record {
      count = p.1.0.1;
      sized = λ r h. rows_sized xs p.0 p.1.1 r (subst (λ (n : ℕ). r < n) (sym p.1.0.1) h);
      bytes = rows_bytes xs p.0 p.1.1;
    }

-- byte k of a row after `size` bytes from `offset` on were replaced by a number's
abbrev pub byte_after : ℕ → ℕ → ℕ → ℕ → ℕ → ℕ
byte_after offset size v k old = pick (ltb k offset) old (pick (ltb k (offset + size)) (get_or (bytes_of 16 v) (k - offset) 0) old)

module _ (d : List ℕ) (offset size v : ℕ) (m : length d ≡ 16) (fits : offset + size ≤ 16) where
  apart : paste d offset (bytes_of 16 v) size ≡ take offset d ++ (take size (bytes_of 16 v) ++ drop (offset + size) d)
  apart = append_assoc (take offset d) (take size (bytes_of 16 v)) (drop (offset + size) d)

  low : (k : ℕ) → k < offset → get_or (paste d offset (bytes_of 16 v) size) k 0 ≡ get_or d k 0
  low k h =
      ap (λ (l : List ℕ). get_or l k 0) apart
      ∙ get_or-append (take offset d) (take size (bytes_of 16 v) ++ drop (offset + size) d) 0 k (let e = length-take-le offset d (omega arith) in omega arith)
      ∙ get_or-take offset d k 0 h

  rest : (j : ℕ) → get_or (paste d offset (bytes_of 16 v) size) (offset + j) 0 ≡ get_or (take size (bytes_of 16 v) ++ drop (offset + size) d) j 0
  rest j =
      ap (λ (l : List ℕ). get_or l (offset + j) 0) apart
      ∙ ap (λ (n : ℕ). get_or (take offset d ++ (take size (bytes_of 16 v) ++ drop (offset + size) d)) (n + j) 0) (sym (length-take-le offset d (omega arith)))
      ∙ get_or-append-add (take offset d) (take size (bytes_of 16 v) ++ drop (offset + size) d) j 0

  inside : (j : ℕ) → j < size → get_or (paste d offset (bytes_of 16 v) size) (offset + j) 0 ≡ get_or (bytes_of 16 v) j 0
  inside j h =
      let n = bytes_length 16 v in
      rest j ∙ get_or-append (take size (bytes_of 16 v)) (drop (offset + size) d) 0 j (let e = length-take-le size (bytes_of 16 v) (omega arith) in omega arith)
      ∙ get_or-take size (bytes_of 16 v) j 0 h

  above : (j : ℕ) → get_or (paste d offset (bytes_of 16 v) size) (offset + (size + j)) 0 ≡ get_or d (offset + size + j) 0
  above j =
      let n = bytes_length 16 v in
      rest (size + j)
      ∙ ap (λ (k : ℕ). get_or (take size (bytes_of 16 v) ++ drop (offset + size) d) (k + j) 0) (sym (length-take-le size (bytes_of 16 v) (omega arith)))
      ∙ get_or-append-add (take size (bytes_of 16 v)) (drop (offset + size) d) j 0
      ∙ get_or-drop (offset + size) d j 0

  pub pasted : (k : ℕ) → get_or (paste d offset (bytes_of 16 v) size) k 0 ≡ byte_after offset size v k (get_or d k 0)
  pasted k =
      ways (ltb k offset) (λ t. rw t (low k (ltb-true k offset t)))
      (λ f. let h = ltb-false k offset f in
      ways (ltb k (offset + size))
      (λ t. let g = ltb-true k (offset + size) t in
      rw (f, t) (ap (λ (n : ℕ). get_or (paste d offset (bytes_of 16 v) size) n 0) (let e : k ≡ offset + (k - offset) = omega arith in e) ∙ inside (k - offset) (omega arith)))
      (λ t. let g = ltb-false k (offset + size) t in
      rw (f, t)
      (ap (λ (n : ℕ). get_or (paste d offset (bytes_of 16 v) size) n 0) (let e : k ≡ offset + (size + (k - (offset + size))) = omega arith in e)
      ∙ above (k - (offset + size))
      ∙ ap (λ (n : ℕ). get_or d n 0) (let e : offset + size + (k - (offset + size)) ≡ k = omega arith in e))))

digit : (n v k : ℕ) → get_or (bytes_of n v) k 0 < 256
unfolding bytes_of
digit zero v k = lit< tt
digit (suc n) v zero = mod-lt v (lit< tt)
digit (suc n) v (suc k) = digit n (v / 256) k

after_below : (offset size v k old : ℕ) → old < 256 → byte_after offset size v k old < 256
after_below offset size v k old h =
    ways (ltb k offset) (λ t. rw t h) (λ f. ways (ltb k (offset + size)) (λ t. rw (f, t) (digit 16 v (k - offset))) (λ t. rw (f, t) h))

-- a write to a part of a row
module _ (rows : List (List ℕ)) (row offset size v : ℕ) (s : Shape rows) (h : row < 112) (fits : offset + size ≤ 16) where
  abbrev new : List ℕ
  new = paste (get_or rows row []) offset (bytes_of 16 v) size

  pub write_own : (k : ℕ) → get_or (get_or (write_of rows row offset size v) row []) k 0 ≡ byte_after offset size v k (get_or (get_or rows row []) k 0)
  unfolding write_of
  write_own k =
      ap (λ (l : List ℕ). get_or l k 0) (get_or-set_same rows row new [] (let n = s.count in omega arith))
      ∙ pasted (get_or rows row []) offset size v (s.sized row h) fits k

  pub write_other : (r k : ℕ) → (r ≡ row → ⊥) → get_or (get_or (write_of rows row offset size v) r []) k 0 ≡ get_or (get_or rows r []) k 0
  unfolding write_of
  write_other r k n = ap (λ (l : List ℕ). get_or l k 0) (get_or-set_other rows row r new [] n)

  sized : (r : ℕ) → r < 112 → length (get_or (write_of rows row offset size v) r []) ≡ 16
  unfolding write_of
  sized r g =
      let b = bytes_length 16 v in
      let w = s.sized row h in
      by (eqb r row) refl
    where
      by : (t : Bool) → eqb r row ≡ t → length (get_or (set rows row new) r []) ≡ 16
      by true e = rw (eqb-true r row e) (ap length (get_or-set_same rows row new [] (let n = s.count in omega arith)) ∙ length-paste (get_or rows row []) offset (bytes_of 16 v) size (omega (arith, s.sized row h)) (omega (arith, bytes_length 16 v)) ∙ s.sized row h)
      by false e = ap length (get_or-set_other rows row r new [] (eqb-false r row e)) ∙ s.sized r g

  bytes : Bytes (write_of rows row offset size v)
  bytes r k = by (eqb r row) refl
    where
      by : (t : Bool) → eqb r row ≡ t → get_or (get_or (write_of rows row offset size v) r []) k 0 < 256
      by true e = rw (eqb-true r row e) (subst (λ (n : ℕ). n < 256) (sym (write_own k)) (after_below offset size v k _ (s.bytes row k)))
      by false e = subst (λ (n : ℕ). n < 256) (sym (write_other r k (eqb-false r row e))) (s.bytes r k)

  pub write_shape : Shape (write_of rows row offset size v)
  unfolding write_of
  write_shape = record { count = length-set rows row new ∙ s.count; sized = sized; bytes = bytes }

pub written_shape : (ids : List VarId) (rows : List (List ℕ)) (o : Output) (v : ℕ) → Shape rows → HeldOutput ids o → Shape (written ids rows o v)
written_shape ids rows Out.None v s h = s
written_shape ids rows (Out.Some o) v s h = write_shape rows (row_of ids o.id) o.offset o.size v s (let b = row_below ids o.id h.named in let l = h.room in omega arith) h.inside

-- so it keeps it from statement to statement
pub after_shape : (ids : List VarId) (answers : List ℕ) (n : ℕ) (rows : List (List ℕ)) (s : Stmt) (act : Act) → Shape rows → HeldOutput ids s.output → Shape (rows_after ids answers n rows s act)
unfolding loaded_rows plain_step
after_shape ids answers n rows s Nothing h o = h
after_shape ids answers n rows s Marks h o = h
after_shape ids answers n rows s (Jumps l) h o = h
after_shape ids answers n rows s (Exits k) h o = h
after_shape ids answers n rows s (Loads k) h o = written_shape ids rows s.output _ h o
after_shape ids answers n rows s (Stores k) h o = h
after_shape ids answers n rows s Computes h o = written_shape ids rows s.output _ h o
