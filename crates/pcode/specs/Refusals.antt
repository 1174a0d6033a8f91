-- 01's number and place of each refusal.
use Rattle.std.specs.Prelude.{ℕ}
use Rattle.pcode.specs.declared.refusal.Refusal.{Refusal}
use Rattle.pcode.specs.declared.refusal.Refusal.TheVariants.{BadLine, TooManyStatements, BadVariable, BadOperand, BadSizes, BadLabel, TooManyVariables, RotateTooFar, NoTemporary, NotRunnable}

-- the number in 01's table
abbrev pub refusal_number : Refusal → ℕ
refusal_number (BadLine p) = 1
refusal_number (TooManyStatements p) = 2
refusal_number (BadVariable p) = 3
refusal_number (BadOperand p) = 4
refusal_number (BadSizes p) = 5
refusal_number (BadLabel p) = 6
refusal_number (TooManyVariables p) = 7
refusal_number (RotateTooFar p) = 8
refusal_number (NoTemporary p) = 9
refusal_number (NotRunnable p) = 16

-- the line or statement that it is given for
abbrev pub refusal_place : Refusal → ℕ
refusal_place (BadLine p) = p
refusal_place (TooManyStatements p) = p
refusal_place (BadVariable p) = p
refusal_place (BadOperand p) = p
refusal_place (BadSizes p) = p
refusal_place (BadLabel p) = p
refusal_place (TooManyVariables p) = p
refusal_place (RotateTooFar p) = p
refusal_place (NoTemporary p) = p
refusal_place (NotRunnable p) = p
