-- 01's size rules, on counts of bits.
use Rattle.std.specs.Prelude.{ℕ, ◌*◌, Bool}
use Rattle.pcode.specs.Rules.{fits_rule}
use Rattle.pcode.specs.declared.op.SizeRule.{SizeRule}
use Rattle.pcode.specs.declared.op.SizeRule.TheVariants.{Any, FirstIsOutput, FirstFitsOutput, AllSame, OperandsSame, AtMostFirst}

-- a rule for bytes as a rule for bits
abbrev pub in_bits : SizeRule → SizeRule
in_bits Any = Any
in_bits FirstIsOutput = FirstIsOutput
in_bits FirstFitsOutput = FirstFitsOutput
in_bits AllSame = AllSame
in_bits OperandsSame = OperandsSame
in_bits (AtMostFirst k) = AtMostFirst (8 * k)

-- operands of a and b bits and an output of o bits meet a rule
abbrev pub fits_bits : SizeRule → ℕ → ℕ → ℕ → Bool
fits_bits rule = fits_rule (in_bits rule)
