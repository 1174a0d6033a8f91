use Rattle.std.proofs.Common.{◌≡◌, drop}
use Rattle.fields.specs.Decimals.{digits_of}
use Rattle.fields.proofs.decimal.digits.Given as goal

abbrev pub invariant-loop-b : goal.invariant-loop-b
invariant-loop-b l = digits_of l.limit 0 l.s ≡ digits_of l.limit l.v (drop l.b-index l.s)
