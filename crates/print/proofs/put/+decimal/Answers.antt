use Rattle.std.proofs.Common.{ℕ, ◌-◌, ◌/◌, arith, ap, ◌∙◌, [], ◌∷◌, ◌++◌}
use Rattle.print.specs.Texts.{digits_text}
use Rattle.print.proofs.Writes.{then, retold, none, no_digit, last_digit, more_digits}
use Rattle.print.proofs.put.+decimal.Goals as goal

pub returns-then-most-eq0 : goal.returns-then-most-eq0
returns-then-most-eq0 t c =
    let a = c.args in
    retold (no_digit a.most a.v c.if-most-eq0.true) (omega arith) (none a.out.now a.at)

pub returns-then-v-lt10 : goal.returns-then-v-lt10
returns-then-v-lt10 t c =
    let a = c.args in
    retold (ap (λ (b : ℕ). b ∷ []) c.digit.ensures ∙ last_digit a.most a.v (omega arith) (omega arith)) (omega arith) c.byte.ensures

pub returns : goal.returns
returns t c =
    let a = c.args in
    retold (ap (λ (b : ℕ). digits_text (a.most - 1) (a.v / 10) ++ (b ∷ [])) c.digit-2.ensures ∙ more_digits a.most a.v (omega arith) (omega arith)) (omega arith)
    (then {k = a.most - 1} {l = 1} (omega arith) c.decimal-p.ensures c.byte-2.ensures)
