use Rattle.std.proofs.Common.{sym, ◌∙◌, arith, eq-eqb, ne_eqb}
use Rattle.fields.specs.Decimals.{decimal_of}
use Rattle.fields.proofs.Decimals.{bounded}
use Rattle.fields.proofs.Parts.{upward}
use Rattle.record.proofs.Known.{known}
use Rattle.record.specs.Operands.{id_of}
use Rattle.record.proofs.operand.id.Goals as goal

pub returns-then-s-eq0 : goal.returns-then-s-eq0
unfolding id_of
returns-then-s-eq0 c = simp (eq-eqb _ _ c.if-s-eq0.true)

pub returns-in_err-v : goal.returns-in_err-v
unfolding id_of
returns-in_err-v c = rw c.from_residual.ensures (simp (ne_eqb _ _ c.if-s-eq0.false, eq-eqb _ _ c.if-s-eq45.true, known (decimal_of 32768) (upward c.args.s.now 1) c.decimal.ensures c.in_err-v.was))

pub returns-then-v-eq0 : goal.returns-then-v-eq0
unfolding id_of
returns-then-v-eq0 c = simp (ne_eqb _ _ c.if-s-eq0.false, eq-eqb _ _ c.if-s-eq45.true, known (decimal_of 32768) (upward c.args.s.now 1) c.decimal.ensures c.in_ok-v.was, eq-eqb _ _ c.if-v-eq0.true)

pub negative-requires : goal.negative-requires
negative-requires c = (omega arith, omega (arith, bounded 32768 _ _ (sym c.decimal.ensures ∙ c.in_ok-v.was)))

pub returns-then-s-eq45 : goal.returns-then-s-eq45
unfolding id_of
returns-then-s-eq45 c = simp (c.negative.ensures, ne_eqb _ _ c.if-s-eq0.false, eq-eqb _ _ c.if-s-eq45.true, known (decimal_of 32768) (upward c.args.s.now 1) c.decimal.ensures c.in_ok-v.was, ne_eqb _ _ c.if-v-eq0.false)

pub returns-in_err-v-2 : goal.returns-in_err-v-2
unfolding id_of
returns-in_err-v-2 c = rw c.from_residual-in_err-v-2.ensures (simp (ne_eqb _ _ c.if-s-eq0.false, ne_eqb _ _ c.if-s-eq45.false, sym c.decimal-2.ensures ∙ c.in_err-v-2.was))

pub positive-requires : goal.positive-requires
positive-requires c = omega (arith, bounded 32767 _ _ (sym c.decimal-2.ensures ∙ c.in_ok-v-2.was))

pub returns : goal.returns
unfolding id_of
returns c = simp (c.positive.ensures, ne_eqb _ _ c.if-s-eq0.false, ne_eqb _ _ c.if-s-eq45.false, sym c.decimal-2.ensures ∙ c.in_ok-v-2.was)
