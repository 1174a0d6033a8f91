-- A worked file with a branch, a marker, a load, a widened write and a dropped store: what both passes make of it, that it meets every premise
-- of demand 3, and what it does from one start with the branch taken and not; all by computation. proofs/Worked takes it through the theorem.
use Rattle.std.specs.Prelude.{ℕ, ◌≡◌, refl, Ok, true, false, List, [], ◌∷◌, ◌++◌, negsuc, length}
use Rattle.pcode.specs.Var.{pick, same_id}
use Rattle.pcode.specs.Names.{bytes_of, name_of, op_of}
use Rattle.pcode.specs.Block.{stmt_of, has_id, no_marks, blank_stmts}
use Rattle.pcode.specs.declared.var.VarId.{VarId}
use Rattle.pcode.specs.declared.var.Operand.{Operand}
use Rattle.pcode.specs.declared.var.Operand.TheVariants.{None, Const, Var}
use Rattle.pcode.specs.Var.{Output}
use Rattle.std.specs.declared.option.Option.TheVariants as Out
use Rattle.pcode.specs.declared.op.OneOp.TheVariants.{Copy, ZeroExtend}
use Rattle.pcode.specs.declared.op.TwoOp.TheVariants.{IntAdd, IntXor}
use Rattle.pcode.specs.declared.op.Op.TheVariants as Op
use Rattle.pcode.specs.declared.block.Stmt.{Stmt}
use Rattle.vars.specs.Vars.{join_id, join_ids, vars_from, vars_of, row_of, over_from, no_ids}
use Rattle.fields.specs.Decimals.{step_of as digit_step, digits_of, decimal_of}
use Rattle.fields.specs.Parts.{place_of, rest_of, count_of}
use Rattle.record.specs.Names.{first_named, code_named}
use Rattle.record.specs.Operands.{id_of, var_of, const_of, operand_of}
use Rattle.record.specs.Records.{number_in, mark_of, statement_of, record_of}
use Rattle.text.specs.Reading.{lines_of, empty_read, read_with, accepted_stmt, read_lines, read_of}
use Rattle.checks.specs.Statements.{good_size, good_node, good_parts, met_needs, good_sizes, stmt_check, checks_from}
use Rattle.checks.specs.Labels.{has_label, labels_from}
use Rattle.checks.specs.Checks.{variables, check_of}
use Rattle.bit.specs.Bits.{not_b, and_b, or_b, xor_b, code_of, bit_of}
use Rattle.const_eval.specs.Known.{fresh_row}
use Rattle.const_eval.specs.Map.{place_at, entry_at}
use Rattle.settle.specs.Settle.{named}
use Rattle.widen.specs.Widen.{zeros_above, widened_of}
use Rattle.const_step.specs.Labels.{has_target}
use Rattle.const_prop.specs.Pass.{all_ids, least_from, step_of as pass_step, walk_from, zeros}
use Rattle.live_bytes.specs.Bytes.{inside, any_below}
use Rattle.dead_store.specs.Stays.{block_of, read_first, overwritten, read_next, rewritten, read_later, judge, dead_of, without}
use Rattle.machine.specs.Class.{first_outside}
use Rattle.machine.specs.Values.{result_in, plain_step}
use Rattle.meaning.specs.Meaning.{meaning}
use Rattle.state.specs.Bytes as Rows
use Rattle.step.specs.Events.{Event, Loaded, Stored, Taken}
use Rattle.step.specs.Steps.{answer_at, loaded_rows, step_of}
use Rattle.run.specs.Run.{run_from, run_of}
use Rattle.alike.specs.ById.{Start, seen_of}
use Rattle.alike.specs.Premises.{reaches, in_one_instruction, reads_fresh, fresh_run}
use Rattle.print.specs.Texts.{digits_text, id_text, const_text, var_text}
use Rattle.print.specs.Printing.{op_text, operands_text, record_text, printed}
use Rattle.alike.specs.Examples.{v1, v2, t}
use Rattle.optimizer.specs.Both.{both_of}
use Rattle.treated_alike.specs.Demand.{outside_class, bytes_from, rows_of}
use Rattle.treated_alike.specs.Seen.{calls_of, bytes_in}

-- the file, a record a line
abbrev pub file : List ℕ
file =
    bytes_of "Copy\t-\tv1:0:8\tc0:8\t-\n"
    ++ (bytes_of "Load\t0\tv1:0:1\tc4096:8\t-\n"
    ++ (bytes_of "PcodeBranch\t1\t-\tv1:0:1\t-\n"
    ++ (bytes_of "IntAdd\t-\tv2:0:1\tv2:0:1\tc1:1\n"
    ++ (bytes_of "PcodeLabel\t1\t-\t-\t-\n"
    ++ (bytes_of "InstructionMarker\t-\t-\t-\t-\n"
    ++ (bytes_of "IntXor\t-\tv-1:0:1\tv2:0:1\tc255:1\n"
    ++ (bytes_of "Store\t0\t-\tc8192:8\tv1:0:8\n"
    ++ bytes_of "Branch\t1\t-\tv2:0:1\t-\n")))))))

-- what the front door writes for it
abbrev pub result : List ℕ
result =
    bytes_of "Load\t0\tv-2:0:1\tc4096:8\t-\n"
    ++ (bytes_of "ZeroExtend\t-\tv1:0:8\tv-2:0:1\t-\n"
    ++ (bytes_of "PcodeBranch\t1\t-\tv1:0:1\t-\n"
    ++ (bytes_of "IntAdd\t-\tv2:0:1\tv2:0:1\tc1:1\n"
    ++ (bytes_of "PcodeLabel\t1\t-\t-\t-\n"
    ++ (bytes_of "InstructionMarker\t-\t-\t-\t-\n"
    ++ (bytes_of "Store\t0\t-\tc8192:8\tv1:0:8\n"
    ++ bytes_of "Branch\t1\t-\tv2:0:1\t-\n"))))))

-- the temporary that is added
abbrev added : VarId
added = record { 0 = negsuc 1 }

-- the lowest n bytes of a variable
abbrev part : VarId → ℕ → Operand
part id n = Var (record { id = id; offset = 0; size = n })

-- the lowest n bytes of a variable, as an output
abbrev to : VarId → ℕ → Output
to id n = Out.Some (record { id = id; offset = 0; size = n })

-- the block of the file
abbrev pub given : List Stmt
given =
    stmt_of (Op.One Copy) (to v1 8) (Const 0 8) None
    ∷ stmt_of (Op.Load 0) (to v1 1) (Const 4096 8) None
    ∷ stmt_of (Op.PcodeBranch (record { 0 = 1 })) Out.None (part v1 1) None
    ∷ stmt_of (Op.Two IntAdd) (to v2 1) (part v2 1) (Const 1 1)
    ∷ stmt_of (Op.PcodeLabel (record { 0 = 1 })) Out.None None None
    ∷ stmt_of Op.InstructionMarker Out.None None None
    ∷ stmt_of (Op.Two IntXor) (to t 1) (part v2 1) (Const 255 1)
    ∷ stmt_of (Op.Store 0) Out.None (Const 8192 8) (part v1 8)
    ∷ stmt_of (Op.Branch 1) Out.None (part v2 1) None
    ∷ []

-- its treated block: the load goes to an added temporary and is extended to 8 bytes, so that the copy before it is a dead store and goes; so
-- does the IntXor, whose temporary nothing reads
abbrev pub treated : List Stmt
treated =
    stmt_of (Op.Load 0) (to added 1) (Const 4096 8) None
    ∷ stmt_of (Op.One ZeroExtend) (to v1 8) (part added 1) None
    ∷ stmt_of (Op.PcodeBranch (record { 0 = 1 })) Out.None (part v1 1) None
    ∷ stmt_of (Op.Two IntAdd) (to v2 1) (part v2 1) (Const 1 1)
    ∷ stmt_of (Op.PcodeLabel (record { 0 = 1 })) Out.None None None
    ∷ stmt_of Op.InstructionMarker Out.None None None
    ∷ stmt_of (Op.Store 0) Out.None (Const 8192 8) (part v1 8)
    ∷ stmt_of (Op.Branch 1) Out.None (part v2 1) None
    ∷ []

-- the file is read
pub reads : read_of 64 file ≡ Ok (read_with (block_of given) no_marks)
unfolding read_of read_lines lines_of empty_read accepted_stmt record_of statement_of mark_of number_in operand_of const_of var_of id_of code_named first_named name_of op_of count_of rest_of place_of decimal_of digits_of digit_step blank_stmts
reads = refl

-- both passes accept its block and leave the other
pub treats : both_of (block_of given) no_marks ≡ Ok (block_of treated)
unfolding check_of checks_from stmt_check good_sizes met_needs good_parts good_node good_size variables labels_from has_label over_from join_ids join_id has_id vars_of vars_from row_of no_ids blank_stmts not_b and_b or_b xor_b code_of bit_of fresh_row place_at entry_at named zeros_above widened_of has_target all_ids least_from pass_step walk_from zeros read_first overwritten read_next rewritten read_later judge dead_of without inside any_below
treats = refl

-- the text of what is left
pub prints : printed treated ≡ result
unfolding printed record_text op_text operands_text var_text const_text id_text digits_text name_of
prints = refl

-- every operation is of the run class, and no branch goes up
pub in_class_lem : outside_class given ≡ false
unfolding first_outside has_label
in_class_lem = refl

-- the branch stays inside its instruction
pub one_instruction : in_one_instruction given ≡ true
unfolding in_one_instruction reaches
one_instruction = refl

-- a start: the bytes of v2 are 9, all others 7
abbrev pub start : Start
start id k = pick (same_id id v2) 9 7

-- load answers: 5, with which the branch is taken; none, which is zero, with which it is not
abbrev pub five : List ℕ
five = 5 ∷ 0 ∷ []

-- the start's rows for each block; v2 is the second variable of one and the third of the other
abbrev pub rows : List (List ℕ)
rows = rows_of (vars_of given) start

-- the same for the treated block's table
abbrev pub rows' : List (List ℕ)
rows' = rows_of (vars_of treated) start

-- with either answer no temporary byte last written by an earlier instruction is read
pub fresh : (fresh_run no_marks five given rows ≡ true) × (fresh_run no_marks [] given rows ≡ true)
unfolding rows_of bytes_from fresh_run reads_fresh step_of plain_step result_in meaning answer_at loaded_rows Rows.read_of Rows.write_of Rows.num_of Rows.bytes_of vars_of vars_from join_ids join_id has_id row_of inside any_below
fresh = (refl, refl)

-- what the file's block loads and stores, and the exit it takes
abbrev pub calls_five : List Event
calls_five = Loaded 0 4096 0 ∷ Stored 0 8192 5 ∷ Taken 1 9 0 [] ∷ []

-- and with no answer
abbrev pub calls_none : List Event
calls_none = Loaded 0 4096 0 ∷ Stored 0 8192 0 ∷ Taken 1 10 0 [] ∷ []

-- both, computed
pub calls : (calls_of (run_of five given rows) ≡ calls_five) × (calls_of (run_of [] given rows) ≡ calls_none)
unfolding calls_of rows_of bytes_from run_of run_from step_of plain_step result_in meaning answer_at loaded_rows Rows.read_of Rows.write_of Rows.num_of Rows.bytes_of vars_of vars_from join_ids join_id has_id row_of
calls = (refl, refl)

-- the lowest byte of v2 at the marker, the exit and the end; and of v1
pub bytes :
    (bytes_in (vars_of given) start v2 0 (run_of five given rows) ≡ 9 ∷ 9 ∷ 9 ∷ [])
    × (bytes_in (vars_of given) start v2 0 (run_of [] given rows) ≡ 10 ∷ 10 ∷ 10 ∷ [])
    × (bytes_in (vars_of given) start v1 0 (run_of five given rows) ≡ 5 ∷ 5 ∷ 5 ∷ [])
unfolding bytes_in seen_of rows_of bytes_from run_of run_from step_of plain_step result_in meaning answer_at loaded_rows Rows.read_of Rows.write_of Rows.num_of Rows.bytes_of vars_of vars_from join_ids join_id has_id row_of
bytes = (refl, refl, refl)

-- each table has three variables, and room for more
pub three : (length (vars_of given) ≡ 3) × (length (vars_of treated) ≡ 3)
unfolding vars_of vars_from join_ids join_id has_id
three = (refl, refl)
