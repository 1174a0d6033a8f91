-- Worked examples of demand 3's premises: the run class, forward branches, files that are not read, and blocks that both passes accept or
-- one refuses. alike Examples has those of branches inside one instruction, fresh reads and constants.
use Rattle.std.specs.Prelude.{◌≡◌, refl, true, false, List, [], ◌∷◌, negsuc, Option, Some, None as Nothing, Result, Ok, Err}
use Rattle.pcode.specs.Block.{stmt_of, has_id, blank_stmts, no_marks}
use Rattle.pcode.specs.declared.var.VarId.{VarId}
use Rattle.pcode.specs.declared.var.Operand.TheVariants.{None, Const}
use Rattle.std.specs.declared.option.Option.TheVariants as Out
use Rattle.pcode.specs.declared.op.OneOp.TheVariants.{Copy}
use Rattle.pcode.specs.declared.op.DivideOp.TheVariants.{IntDiv}
use Rattle.pcode.specs.declared.op.RotateOp.TheVariants.{IntRotateLeft}
use Rattle.pcode.specs.declared.op.Op.{Op}
use Rattle.pcode.specs.declared.block.Stmt.{Stmt}
use Rattle.pcode.specs.declared.block.Block.{Block}
use Rattle.pcode.specs.declared.refusal.Refusal.{Refusal}
use Rattle.pcode.specs.declared.refusal.Refusal.TheVariants.{BadLine, BadLabel, RotateTooFar, NoTemporary}
use Rattle.vars.specs.Vars.{join_id, join_ids, vars_from, vars_of, row_of, over_from, no_ids}
use Rattle.fields.specs.Parts.{place_of, rest_of, count_of}
use Rattle.record.specs.Records.{mark_of, statement_of, record_of}
use Rattle.text.specs.Reading.{newline, lines_of, empty_read, read_lines, read_of}
use Rattle.checks.specs.Statements.{good_size, good_node, good_parts, met_needs, good_sizes, stmt_check, checks_from}
use Rattle.checks.specs.Labels.{has_label, labels_from}
use Rattle.checks.specs.Checks.{variables, check_of}
use Rattle.bit.specs.Bits.{code_of, bit_of}
use Rattle.const_eval.specs.Known.{fresh_row}
use Rattle.const_eval.specs.Map.{place_at, entry_at}
use Rattle.settle.specs.Settle.{named}
use Rattle.widen.specs.Widen.{zeros_above, widened_of}
use Rattle.const_step.specs.Labels.{has_target}
use Rattle.const_prop.specs.Pass.{all_ids, least_from, step_of, walk_from, zeros}
use Rattle.dead_store.specs.Stays.{block_of}
use Rattle.machine.specs.Class.{first_outside}
use Rattle.alike.specs.Examples.{v1, v2, byte, copy, marker, label, branch, store}
use Rattle.optimizer.specs.Both.{both_of}
use Rattle.treated_alike.specs.Demand.{outside_class}

-- two operands of one byte
abbrev two : Op → Stmt
two op = stmt_of op (Out.Some (record { id = v2; offset = 0; size = 1 })) (byte v1) (Const 9 1)

in_class_lem : outside_class (copy v2 (byte v1) ∷ branch 1 ∷ store (byte v1) ∷ label 1 ∷ marker ∷ []) ≡ false
unfolding first_outside has_label
in_class_lem = refl

division : outside_class (copy v2 (byte v1) ∷ two (Op.Divide IntDiv) ∷ []) ≡ true
unfolding first_outside
division = refl

rotate : outside_class (two (Op.Rotate IntRotateLeft) ∷ []) ≡ true
unfolding first_outside
rotate = refl

-- a branch to a label above it
branch_up : outside_class (label 1 ∷ copy v2 (byte v1) ∷ branch 1 ∷ []) ≡ true
unfolding first_outside has_label
branch_up = refl

-- a file that is not read
blank_line : read_of 64 (newline ∷ []) ≡ Err (BadLine 1)
unfolding read_of read_lines lines_of empty_read record_of statement_of mark_of count_of rest_of place_of
blank_line = refl

-- zeros above the lowest byte, and a load to that byte
abbrev clear : Stmt
clear = stmt_of (Op.One Copy) (Out.Some (record { id = v1; offset = 1; size = 7 })) (Const 0 7) None

-- a load of a byte
abbrev load : Stmt
load = stmt_of (Op.Load 0) (Out.Some (record { id = v1; offset = 0; size = 1 })) (Const 4096 8) None

-- what both passes answer: nothing, or the refusal
abbrev refused : Result Block Refusal → Option Refusal
refused (Ok t) = Nothing
refused (Err why) = Some why

-- of statements without marks
abbrev answer : List Stmt → Option Refusal
answer ss = refused (both_of (block_of ss) no_marks)

-- the least id of all
abbrev last : VarId
last = record { 0 = negsuc 32767 }

-- an accepted block; a branch to a label that is nowhere; a known rotate by 9 of 8 bits; a widened load where no id is below the least
both_answer :
    answer (copy v2 (byte v1) ∷ branch 1 ∷ store (byte v2) ∷ label 1 ∷ marker ∷ [])
    ∷ answer (copy v2 (byte v1) ∷ branch 1 ∷ [])
    ∷ answer (two (Op.Rotate IntRotateLeft) ∷ [])
    ∷ answer (copy last (byte v1) ∷ clear ∷ load ∷ [])
    ∷ []
    ≡ Nothing ∷ Some (BadLabel 1) ∷ Some (RotateTooFar 0) ∷ Some (NoTemporary 2) ∷ []
unfolding check_of checks_from stmt_check good_sizes met_needs good_parts good_node good_size variables labels_from has_label over_from join_ids join_id has_id vars_of vars_from row_of no_ids blank_stmts code_of bit_of fresh_row place_at entry_at named zeros_above widened_of has_target all_ids least_from step_of walk_from zeros
both_answer = refl
