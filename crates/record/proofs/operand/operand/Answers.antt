use Rattle.std.proofs.Common.{rules, ◌≡◌, get_or, eq-eqb, ne_eqb}
use Rattle.fields.proofs.Parts.{upward}
use Rattle.record.proofs.Known.{known}
use Rattle.record.specs.Operands.{operand_of, var_of}
use Rattle.record.proofs.operand.operand.Goals as goal

pub returns-then-s-eq0 : goal.returns-then-s-eq0
unfolding operand_of
returns-then-s-eq0 c = simp (eq-eqb _ _ c.if-s-eq0.true)

pub returns-in_err-variable-in-118 : goal.returns-in_err-variable-in-118
unfolding operand_of
returns-in_err-variable-in-118 c = rw c.from_residual.ensures (simp (ne_eqb _ _ c.if-s-eq0.false, eq-eqb _ _ c.in-118.is, known var_of (upward c.args.s.now 1) c.variable.ensures c.in_err-variable-in-118.was))

pub returns-in_ok-variable-in-118 : goal.returns-in_ok-variable-in-118
unfolding operand_of
returns-in_ok-variable-in-118 c = simp (ne_eqb _ _ c.if-s-eq0.false, eq-eqb _ _ c.in-118.is, known var_of (upward c.args.s.now 1) c.variable.ensures c.in_ok-variable-in-118.was)

pub returns-in-99 : goal.returns-in-99
unfolding operand_of
returns-in-99 c = simp (ne_eqb _ _ c.if-s-eq0.false, c.constant.ensures, c.in-99.is, upward c.args.s.now 1)

pub returns-in-45 : goal.returns-in-45
unfolding operand_of
returns-in-45 c = simp (ne_eqb _ _ c.if-s-eq0.false, c.in-45.is, eq-eqb _ _ c.if-s-eq1.true)

pub returns-in_default : goal.returns-in_default
unfolding operand_of
returns-in_default c = simp (ne_eqb _ _ c.if-s-eq0.false, c.in-45.is, ne_eqb _ _ c.if-s-eq1.false)

pub returns-in_default-2 : goal.returns-in_default-2
unfolding operand_of
returns-in_default-2 c =
    let a : get_or c.args.s.now 0 0 ≡ 118 → ⊥ = search rules in
    let b : get_or c.args.s.now 0 0 ≡ 99 → ⊥ = search rules in
    let d : get_or c.args.s.now 0 0 ≡ 45 → ⊥ = search rules in
    simp (ne_eqb _ _ c.if-s-eq0.false, ne_eqb _ _ a, ne_eqb _ _ b, ne_eqb _ _ d)
