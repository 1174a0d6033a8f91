-- Refusals 3, 4 and 5: one statement's variables, operands and sizes.
use Rattle.std.specs.Prelude.{ℕ, ◌+◌, Bool, true, false, List, [], ◌∷◌, eqb, leb, Result, Ok, Err}
use Rattle.pcode.specs.Var.{pick, zero_id, size_of, size_out, as_operand}
use Rattle.pcode.specs.Rules.{meets, output_need, first_need, second_need, fits_rule, size_rule}
use Rattle.pcode.specs.declared.var.VarNode.{VarNode}
use Rattle.pcode.specs.declared.var.Operand.{Operand}
use Rattle.pcode.specs.declared.var.Operand.TheVariants.{None, Const, Var}
use Rattle.pcode.specs.declared.block.Stmt.{Stmt}
use Rattle.pcode.specs.declared.refusal.Refusal.{Refusal}
use Rattle.pcode.specs.declared.refusal.Refusal.TheVariants.{BadVariable, BadOperand, BadSizes}

-- a size is not 0 and not above 16
unfoldable pub good_size : ℕ → Bool
good_size n = pick (eqb n 0) false (leb n 16)

-- no id 0, no bad size, offset+size not above 16
unfoldable pub good_node : VarNode → Bool
good_node v = pick (zero_id v.id) false (pick (good_size v.size) (leb (v.offset + v.size) 16) false)

-- no operand, a constant of a good size, or a good part of a variable
abbrev pub good_operand : Operand → Bool
good_operand None = true
good_operand (Const v n) = good_size n
good_operand (Var v) = good_node v

-- an operand is there
abbrev pub there : Operand → Bool
there None = false
there (Const v n) = true
there (Var v) = true

-- 3: every operand and the output is in range
unfoldable pub good_parts : Stmt → Bool
good_parts s = pick (good_operand (as_operand s.output)) (pick (good_operand s.first) (good_operand s.second) false) false

-- 4: no operand or output is missing or not allowed
unfoldable pub met_needs : Stmt → Bool
met_needs s =
    pick (meets (output_need s.op) (there (as_operand s.output)))
    (pick (meets (first_need s.op) (there s.first)) (meets (second_need s.op) (there s.second)) false)
    false

-- 5: the size rule is met
unfoldable pub good_sizes : Stmt → Bool
good_sizes s = fits_rule (size_rule s.op) (size_of s.first) (size_of s.second) (size_out s.output)

-- 3, then 4, then 5, on the statement at place i
unfoldable pub stmt_check : ℕ → Stmt → Result (Unit {0}) Refusal
stmt_check i s =
    pick (good_parts s)
    (pick (met_needs s)
    (pick (good_sizes s) (Ok tt) (Err (BadSizes i)))
    (Err (BadOperand i)))
    (Err (BadVariable i))

-- the first of two answers that refuses
abbrev pub else_then : Result (Unit {0}) Refusal → Result (Unit {0}) Refusal → Result (Unit {0}) Refusal
else_then (Ok u) next = next
else_then (Err why) next = Err why

-- statement by statement, from place i on
unfoldable pub checks_from : ℕ → List Stmt → Result (Unit {0}) Refusal
checks_from i [] = Ok tt
checks_from i (s ∷ ss) = else_then (stmt_check i s) (checks_from (i + 1) ss)
