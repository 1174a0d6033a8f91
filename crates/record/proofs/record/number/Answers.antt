use Rattle.std.proofs.Common.{sym, ◌∙◌, arith, ◌≡◌, true, false}
use Rattle.fields.proofs.Decimals.{bounded}
use Rattle.pcode.specs.Names.{eq_bytes}
use Rattle.record.specs.Records.{number_in}
use Rattle.record.proofs.Names.{bytes_are}
use Rattle.record.proofs.record.number.Goals as goal

pub returns-in_err-decimal : goal.returns-in_err-decimal
unfolding number_in
returns-in_err-decimal c = rw c.from_residual.ensures (simp (sym c.takes_number.ensures ∙ c.if-takes_number.true, sym c.decimal.ensures ∙ c.in_err-decimal.was))

pub overflow_cast-result : goal.overflow_cast-result
overflow_cast-result c = record { fits = omega (arith, bounded 65535 _ _ (sym c.decimal.ensures ∙ c.in_ok-decimal.was)) }

pub returns-then-takes_number : goal.returns-then-takes_number
unfolding number_in
returns-then-takes_number c = simp (sym c.takes_number.ensures ∙ c.if-takes_number.true, sym c.decimal.ensures ∙ c.in_ok-decimal.was)

pub returns-then-eq : goal.returns-then-eq
unfolding number_in
returns-then-eq c =
    let e : eq_bytes c.args.s.now c.as_slice.result.now ≡ true = sym (bytes_are c.args.s.now c.as_slice.result.now) ∙ sym c.eq.ensures ∙ c.if-eq.true in
    simp (sym c.takes_number.ensures ∙ c.if-takes_number.false, sym c.as_slice.ensures, e)

pub returns-else-eq : goal.returns-else-eq
unfolding number_in
returns-else-eq c =
    let e : eq_bytes c.args.s.now c.as_slice.result.now ≡ false = sym (bytes_are c.args.s.now c.as_slice.result.now) ∙ sym c.eq.ensures ∙ c.if-eq.false in
    simp (sym c.takes_number.ensures ∙ c.if-takes_number.false, sym c.as_slice.ensures, e)
