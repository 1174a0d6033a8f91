-- A line that is read as a statement or a mark is its text, and its values fit.
use Rattle.std.proofs.Common.{Option, None, Some, ℕ, ◌<◌, arith, ◌≡◌, refl, sym, ap, subst, ◌∙◌, Bool, true, false, List, eqb-true, ltb-true, eqb, ltb, ℤ, pos, negsuc, length}
use lib.Signed.{lt_z}
use Rattle.pcode.specs.Var.{pick, less_id}
use Rattle.pcode.specs.Names.{bytes_of, eq_bytes, name_of, number_of, op_of, takes_number}
use Rattle.pcode.specs.Block.{stmt_of}
use Rattle.pcode.specs.declared.var.VarId.{VarId}
use Rattle.pcode.specs.declared.var.Operand.{Operand}
use Rattle.pcode.specs.Var.{Output}
use Rattle.pcode.specs.declared.block.Stmt.{Stmt}
use Rattle.fields.specs.Parts.{part_of, count_of}
use Rattle.fields.specs.Decimals.{decimal_of, on_value}
use Rattle.fields.proofs.Decimals.{bounded}
use Rattle.record.specs.Names.{code_named}
use Rattle.record.specs.Operands.{id_of, operand_of, output_of}
use Rattle.record.specs.Records.{number_in, mark_of, statement_of, record_of}
use Rattle.record.specs.declared.record.Record.{Record}
use Rattle.record.specs.declared.record.Record.TheVariants.{Mark, Statement}
use Rattle.print.specs.Texts.{digits_text, number_text}
use Rattle.roundtrip.specs.Fits.{FitsId, FitsNumber, Fits, FitsMark}
use Rattle.roundtrip.proofs.Parts.{parted, parts_joined}
use Rattle.roundtrip.proofs.Names.{bytes_same, code_back}
use Rattle.roundtrip.proofs.Ops.{code_op, number_none, number_some}
use Rattle.roundtrip.proofs.OperandsBack.{five_back, id_back, operand_back, output_back}
use Rattle.roundtrip.proofs.Inverse.{passed, not_bad, on_value_lem, bad_good}
use Rattle.roundtrip.proofs.Records.{line_of}
use Rattle.roundtrip.proofs.Marks.{mark_line}

-- an id above 0
positive : (z : ℤ) → FitsId z → lt_z (pos 0) z ≡ true → FitsMark z
positive (pos n) f t = (ltb-true 0 n t, f)
positive (negsuc n) f t = cc

-- the number field
number_back : (k n : ℕ) (s : List ℕ) → k < 72 → number_in k s ≡ Some n → (s ≡ number_text (number_of (op_of k n))) × FitsNumber (number_of (op_of k n))
unfolding number_in
number_back k n s h = go (takes_number k) refl
  where
    told : (m : Option ℕ) → number_of (op_of k n) ≡ m → (s ≡ number_text m) × FitsNumber m → (s ≡ number_text (number_of (op_of k n))) × FitsNumber (number_of (op_of k n))
    told m q p = subst (λ (x : Option ℕ). (s ≡ number_text x) × FitsNumber x) (sym q) p

    go : (t : Bool) → takes_number k ≡ t →
        pick t (on_value (decimal_of 65535 s) None Some) (pick (eq_bytes s (bytes_of "-")) (Some 0) None) ≡ Some n →
        (s ≡ number_text (number_of (op_of k n))) × FitsNumber (number_of (op_of k n))
    go true q e =
        let p = on_value_lem None (Some n) (bad_good n) (decimal_of 65535 s) Some e in
        let r : p.0 ≡ n = cc in
        told (Some n) (number_some k n h q)
        (five_back 65535 s p.0 (omega arith) p.1 ∙ ap (digits_text 5) r, omega (arith, bounded 65535 s p.0 p.1, r))
    go false q e =
        let p = passed None (Some n) (bad_good n) (eq_bytes s (bytes_of "-")) (Some 0) e in
        told None (number_none k n h q) (bytes_same s (bytes_of "-") p.0, tt)

module _ (line : List ℕ) where
  abbrev code : ℕ
  code = code_named (part_of 9 line 0)

  -- a statement's fields, as they were read
  record Stated : Type 0 where
    n : ℕ
    o : Output
    a : Operand
    b : Operand
    below : code < 72
    number : number_in code (part_of 9 line 1) ≡ Some n
    output : output_of (part_of 9 line 2) ≡ Some o
    first : operand_of (part_of 9 line 3) ≡ Some a
    second : operand_of (part_of 9 line 4) ≡ Some b

  abbrev stated : Stated → Stmt
  stated p = stmt_of (op_of code p.n) p.o p.a p.b

  -- a mark's fields, as they were read
  record MarkedAs : Type 0 where
    v : VarId
    named : eq_bytes (part_of 9 line 0) (bytes_of "temporary") ≡ true
    id : id_of (part_of 9 line 1) ≡ Some v
    above : less_id (record { 0 = pos 0 }) v ≡ true

  -- a line that is not bad has its fields
  module _ (r : Option Record) (no : None ≡ r → ⊥) where
    statement_fields : statement_of line ≡ r → (p : Stated) × (Some (Statement (stated p)) ≡ r)
    unfolding statement_of
    statement_fields e =
        let t = passed None r no (ltb code 72) _ e in
        let n = on_value_lem None r no (number_in code (part_of 9 line 1)) _ t.1 in
        let o = on_value_lem None r no (output_of (part_of 9 line 2)) _ n.2 in
        let a = on_value_lem None r no (operand_of (part_of 9 line 3)) _ o.2 in
        let b = on_value_lem None r no (operand_of (part_of 9 line 4)) _ a.2 in
        (record { n = n.0; o = o.0; a = a.0; b = b.0; below = ltb-true code 72 t.0; number = n.1; output = o.1; first = a.1; second = b.1 }, b.2)

    mark_fields : mark_of line ≡ r → (p : MarkedAs) × (Some (Mark p.v) ≡ r)
    unfolding mark_of
    mark_fields e =
        let t = passed None r no (eq_bytes (part_of 9 line 0) (bytes_of "temporary")) _ e in
        let i = on_value_lem None r no (id_of (part_of 9 line 1)) _ t.1 in
        let g = passed None r no (less_id (record { 0 = pos 0 }) i.0) (Some (Mark i.0)) i.2 in
        (record { v = i.0; named = t.0; id = i.1; above = g.0 }, g.1)

  -- a statement's line
  statement_told : (p : Stated) → count_of 9 line ≡ 4 → (line ≡ line_of (stated p)) × Fits (stated p)
  unfolding line_of
  statement_told p c =
      let u = number_back code p.n (part_of 9 line 1) p.below p.number in
      let x = output_back (part_of 9 line 2) p.o p.output in
      let y = operand_back (part_of 9 line 3) p.a p.first in
      let z = operand_back (part_of 9 line 4) p.b p.second in (
        parts_joined 9 line 4 c
            ∙ parted 9 (sym (code_back (part_of 9 line 0) p.below) ∙ ap name_of (sym (code_op code p.n p.below)))
            (parted 9 u.0 (parted 9 x.0 (parted 9 y.0 z.0))),
        record { number = u.1; output = x.1; first = y.1; second = z.1 },
      )

  -- a mark's line
  mark_told : (p : MarkedAs) → count_of 9 line ≡ 1 → (line ≡ mark_line p.v) × FitsMark p.v.0
  unfolding mark_line
  mark_told p c =
      let i = id_back (part_of 9 line 1) p.v p.id in
      (parts_joined 9 line 1 c ∙ parted 9 (bytes_same (part_of 9 line 0) (bytes_of "temporary") p.named) i.0, positive p.v.0 i.1 p.above)

  other : (v : VarId) (s : Stmt) → ◌≡◌ {A = Option Record} (Some (Mark v)) (Some (Statement s)) → ⊥
  other v s e = cc

  -- four tabs in a statement, one in a mark
  abbrev by_tabs : Bool → Bool → Option Record
  by_tabs t u = pick t (mark_of line) (pick u (statement_of line) None)

  pub line_back : (s : Stmt) → record_of line ≡ Some (Statement s) → (line ≡ line_of s) × Fits s
  unfolding record_of
  line_back s e₀ = go (eqb (count_of 9 line) 1) (eqb (count_of 9 line) 4) refl (not_bad None (Some (Statement s)) (bad_good (Statement s)) (ltb 200 (length line)) _ e₀).1
    where
      go : (t u : Bool) → eqb (count_of 9 line) 4 ≡ u → by_tabs t u ≡ Some (Statement s) → (line ≡ line_of s) × Fits s
      go true u q e = let p = mark_fields (Some (Statement s)) (bad_good (Statement s)) e in absurd (other p.0.v s p.1)
      go false true q e =
          let p = statement_fields (Some (Statement s)) (bad_good (Statement s)) e in
          let r : stated p.0 ≡ s = cc in
          subst (λ (x : Stmt). (line ≡ line_of x) × Fits x) r (statement_told p.0 (eqb-true _ _ q))
      go false false q e = absurd (bad_good (Statement s) e)

  pub mark_back : (v : VarId) → record_of line ≡ Some (Mark v) → (line ≡ mark_line v) × FitsMark v.0
  unfolding record_of
  mark_back v e₀ = go (eqb (count_of 9 line) 1) (eqb (count_of 9 line) 4) refl (not_bad None (Some (Mark v)) (bad_good (Mark v)) (ltb 200 (length line)) _ e₀).1
    where
      go : (t u : Bool) → eqb (count_of 9 line) 1 ≡ t → by_tabs t u ≡ Some (Mark v) → (line ≡ mark_line v) × FitsMark v.0
      go true u q e =
          let p = mark_fields (Some (Mark v)) (bad_good (Mark v)) e in
          let r : p.0.v ≡ v = cc in
          subst (λ (x : VarId). (line ≡ mark_line x) × FitsMark x.0) r (mark_told p.0 (eqb-true _ _ q))
      go false true q e = let p = statement_fields (Some (Mark v)) (bad_good (Mark v)) e in absurd (other v (stated p.0) (sym p.1))
      go false false q e = absurd (bad_good (Mark v) e)
