use Rattle.std.proofs.Common.{arith, sym, ◌∙◌}
use Rattle.fields.proofs.Decimals.{bounded}
use Rattle.record.proofs.operand.byte.Goals as goal

pub overflow_cast-result : goal.overflow_cast-result
overflow_cast-result c = record { fits = omega (arith, bounded c.args.most _ _ (sym c.decimal.ensures ∙ c.in_ok-decimal.was)) }
