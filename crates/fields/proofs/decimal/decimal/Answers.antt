use Rattle.std.proofs.Common.{◌≡◌, ◌<◌, length, arith, rules, sym, ◌∙◌, eq-eqb, ne_eqb}
use Rattle.fields.proofs.Decimals.{decimal_none, decimal_one, decimal_many}
use Rattle.fields.proofs.decimal.decimal.Goals.{else-s-gt1-via-then-s-gt1+else-s-eq48, else-s-gt1-via-else-s-gt1}
use Rattle.fields.proofs.decimal.decimal.Goals as goal

pub returns-then-is_empty : goal.returns-then-is_empty
returns-then-is_empty c = let a = c.args in
    let e : length a.s.now ≡ 0 = search rules in
    sym (decimal_none a.limit a.s.now e)

pub returns-then-s-eq48 : goal.returns-then-s-eq48
returns-then-s-eq48 c = let a = c.args in
    sym (decimal_many a.limit a.s.now c.if-s-gt1.true ∙ simp (eq-eqb _ _ c.if-s-eq48.true))

pub returns : goal.returns
returns c = let a = c.args in
    let e : 0 < length a.s.now = search rules in
    elim c.else-s-gt1.branch [
      | else-s-gt1-via-then-s-gt1+else-s-eq48 w ↦ c.digits.ensures ∙ sym (decimal_many a.limit a.s.now w.if-s-gt1.true ∙ simp (ne_eqb _ _ w.if-s-eq48.false))
      | else-s-gt1-via-else-s-gt1 w ↦ c.digits.ensures ∙ sym (decimal_one a.limit a.s.now (omega arith))
    ]
