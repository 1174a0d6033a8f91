-- Worked examples: what meets each premise and what breaks it, and two blocks that do not run alike where one is broken.
use Rattle.std.specs.Prelude.{ℕ, ◌-◌, ◌^◌, ◌≡◌, refl, true, false, List, [], ◌∷◌, pos, negsuc, get_or, replicate}
use Rattle.std.proofs.Common.{arith, lit<}
use Rattle.pcode.specs.Block.{stmt_of, has_id, no_marks}
use Rattle.pcode.specs.declared.var.VarId.{VarId}
use Rattle.pcode.specs.declared.var.Operand.{Operand}
use Rattle.pcode.specs.declared.var.Operand.TheVariants.{None, Const, Var}
use Rattle.std.specs.declared.option.Option.TheVariants as Out
use Rattle.pcode.specs.declared.op.OneOp.TheVariants.{Copy}
use Rattle.pcode.specs.declared.op.Op.TheVariants as Op
use Rattle.pcode.specs.declared.block.Stmt.{Stmt}
use Rattle.vars.specs.Vars.{join_id, join_ids, vars_from, vars_of, row_of}
use Rattle.live_bytes.specs.Bytes.{inside, any_below}
use Rattle.dead_store.specs.Stays.{read_first, overwritten, read_next, rewritten, read_later, judge, dead_of, without, eliminated}
use Rattle.machine.specs.Values.{result_in, plain_step}
use Rattle.meaning.specs.Meaning.{meaning}
use Rattle.state.specs.Bytes.{num_of, bytes_of, read_of, write_of}
use Rattle.step.specs.Events.{Stored, Ended}
use Rattle.step.specs.Steps.{step_of}
use Rattle.run.specs.Run.{run_from, run_of}
use Rattle.alike.specs.Premises.{reaches, in_one_instruction, reads_fresh, fresh_run, AllShort}

-- two lasting variables and a temporary
abbrev pub v1 : VarId
v1 = record { 0 = pos 1 }

-- another lasting variable
abbrev pub v2 : VarId
v2 = record { 0 = pos 2 }

-- a temporary
abbrev pub t : VarId
t = record { 0 = negsuc 0 }

-- the lowest byte of a variable
abbrev pub byte : VarId → Operand
byte id = Var (record { id = id; offset = 0; size = 1 })

-- a copy to the lowest byte of a variable
abbrev pub copy : VarId → Operand → Stmt
copy id a = stmt_of (Op.One Copy) (Out.Some (record { id = id; offset = 0; size = 1 })) a None

-- a marker
abbrev pub marker : Stmt
marker = stmt_of Op.InstructionMarker Out.None None None

-- a label
abbrev pub label : ℕ → Stmt
label n = stmt_of (Op.PcodeLabel (record { 0 = n })) Out.None None None

-- a branch by the lowest byte of v1
abbrev pub branch : ℕ → Stmt
branch n = stmt_of (Op.PcodeBranch (record { 0 = n })) Out.None (byte v1) None

-- a store at address 0
abbrev pub store : Operand → Stmt
store a = stmt_of (Op.Store 0) Out.None (Const 0 8) a

-- 112 rows with n in each byte
abbrev pub rows : ℕ → List (List ℕ)
rows n = replicate 112 (replicate 16 n)

forward_inside : in_one_instruction (branch 1 ∷ copy v2 (byte v1) ∷ label 1 ∷ marker ∷ []) ≡ true
unfolding in_one_instruction reaches
forward_inside = refl

over_a_marker : in_one_instruction (branch 1 ∷ marker ∷ label 1 ∷ []) ≡ false
unfolding in_one_instruction reaches
over_a_marker = refl

backward : in_one_instruction (label 1 ∷ branch 1 ∷ []) ≡ false
unfolding in_one_instruction reaches
backward = refl

-- a constant that u64 holds, and the least that it does not
short : AllShort (copy v1 (Const 255 1) ∷ store (Const (2 ^ 64 - 1) 8) ∷ [])
unfolding AllShort
short = ((lit< tt, tt), ((lit< tt, lit< tt), tt))

too_long : AllShort (copy v1 (Const (2 ^ 64) 9) ∷ []) → ⊥
unfolding AllShort
too_long h = omega (arith, h.0.0)

-- a temporary that its own instruction wrote, and one that nothing wrote
fresh : fresh_run no_marks [] (copy t (Const 5 1) ∷ copy v1 (byte t) ∷ []) (rows 7) ≡ true
unfolding fresh_run reads_fresh step_of plain_step result_in meaning read_of write_of num_of bytes_of vars_of vars_from join_ids join_id has_id row_of inside any_below
fresh = refl

never_written : fresh_run no_marks [] (marker ∷ copy v1 (byte t) ∷ []) (rows 7) ≡ true
unfolding fresh_run reads_fresh step_of plain_step result_in meaning read_of write_of num_of bytes_of vars_of vars_from join_ids join_id has_id row_of inside any_below
never_written = refl

-- a temporary that an earlier instruction wrote
written_earlier : fresh_run no_marks [] (copy t (Const 5 1) ∷ marker ∷ store (byte t) ∷ []) (rows 7) ≡ false
unfolding fresh_run reads_fresh step_of plain_step result_in meaning read_of write_of num_of bytes_of vars_of vars_from join_ids join_id has_id row_of inside any_below
written_earlier = refl

-- there the second pass changes the run: the first statement goes, and the store sees the start's byte
abbrev stale_block : List Stmt
stale_block = copy t (Const 5 1) ∷ marker ∷ store (byte t) ∷ []

first_goes : eliminated no_marks stale_block ≡ marker ∷ store (byte t) ∷ []
unfolding read_first overwritten read_next rewritten read_later judge dead_of without inside any_below has_id
first_goes = refl

stores_five : get_or (run_of [] stale_block (rows 7)) 1 (Ended []) ≡ Stored 0 0 5
unfolding run_of run_from step_of plain_step result_in meaning read_of write_of num_of bytes_of vars_of vars_from join_ids join_id has_id row_of
stores_five = refl

stores_seven : get_or (run_of [] (marker ∷ store (byte t) ∷ []) (rows 7)) 1 (Ended []) ≡ Stored 0 0 7
unfolding run_of run_from step_of plain_step result_in meaning read_of write_of num_of bytes_of vars_of vars_from join_ids join_id has_id row_of
stores_seven = refl

-- a branch over a marker breaks the first premise alone, and there too the first statement goes
abbrev far_block : List Stmt
far_block =
    copy t (Const 5 1) ∷ branch 1 ∷ marker ∷ label 1
    ∷ stmt_of (Op.One Copy) (Out.Some (record { id = t; offset = 1; size = 1 })) (Const 0 1) None ∷ store (byte t) ∷ []

far_fresh : fresh_run no_marks [] far_block (rows 7) ≡ true
unfolding fresh_run reads_fresh step_of plain_step result_in meaning read_of write_of num_of bytes_of vars_of vars_from join_ids join_id has_id row_of inside any_below
far_fresh = refl

far_stores_five : get_or (run_of [] far_block (rows 7)) 0 (Ended []) ≡ Stored 0 0 5
unfolding run_of run_from step_of plain_step result_in meaning read_of write_of num_of bytes_of vars_of vars_from join_ids join_id has_id row_of
far_stores_five = refl

far_stores_seven : get_or (run_of [] (eliminated no_marks far_block) (rows 7)) 0 (Ended []) ≡ Stored 0 0 7
unfolding run_of run_from step_of plain_step result_in meaning read_of write_of num_of bytes_of vars_of vars_from join_ids join_id has_id row_of read_first overwritten read_next rewritten read_later judge dead_of without inside any_below
far_stores_seven = refl

-- the table of a block that is left has its rows in another order
abbrev pub dead_block : List Stmt
dead_block = copy t (Const 5 1) ∷ copy v1 (Const 6 1) ∷ marker ∷ []

dead_goes : eliminated no_marks dead_block ≡ copy v1 (Const 6 1) ∷ marker ∷ []
unfolding read_first overwritten read_next rewritten read_later judge dead_of without inside any_below has_id
dead_goes = refl
