-- Statements, blocks, marks and limits.
use Rattle.std.specs.Prelude.{◌+◌, Bool, false, not, ◌&&◌, ◌||◌, List, [], ◌∷◌, ltb, pos, take, set, replicate}
use Rattle.pcode.specs.Var.{pick, same_id, less_id, Output}
use Rattle.pcode.specs.declared.var.VarId.{VarId}
use Rattle.pcode.specs.declared.var.Operand.{Operand}
use Rattle.std.specs.declared.option.Option.TheVariants as Out
use Rattle.pcode.specs.declared.op.TrapOp.TheVariants.{Invalid}
use Rattle.pcode.specs.declared.op.Op.{Op}
use Rattle.pcode.specs.declared.op.Op.TheVariants.{Trap}
use Rattle.pcode.specs.declared.block.Stmt.{Stmt}
use Rattle.pcode.specs.declared.block.Block.{Block}
use Rattle.pcode.specs.declared.block.Marks.{Marks}
use Rattle.pcode.specs.declared.block.Limits.{Limits}

-- a statement of its parts
abbrev pub stmt_of : Op → Output → Operand → Operand → Stmt
stmt_of op o a b = record { op = op; output = o; first = a; second = b }

-- what stands past a block's last statement
abbrev pub blank_stmt : Stmt
blank_stmt = stmt_of (Trap Invalid) Out.None Operand.None Operand.None

-- 129 blank statements
unfoldable pub blank_stmts : List Stmt
blank_stmts = replicate 129 blank_stmt

-- the statements that a block holds
abbrev pub held : Block → List Stmt
held b = take b.count b.stmts

-- no statement
abbrev pub empty_block : Block
empty_block = record { stmts = blank_stmts; count = 0 }

-- one statement more; a full block stays
abbrev pub pushed : Block → Stmt → Block
pushed b s = pick (ltb b.count 129) (record { stmts = set b.stmts b.count s; count = b.count + 1 }) b

-- an id stands in a list
unfoldable pub has_id : List VarId → VarId → Bool
has_id [] id = false
has_id (x ∷ xs) id = same_id x id || has_id xs id

-- the ids marked temporary
abbrev pub mark_ids : Marks → List VarId
mark_ids m = take m.count m.ids

-- no id is marked
abbrev pub no_marks : Marks
no_marks = record { ids = replicate 16 (record { 0 = pos 0 }); count = 0 }

-- an id is marked temporary
abbrev pub marked : Marks → VarId → Bool
marked m id = has_id (mark_ids m) id

-- a variable is lasting if its id is above 0 and not marked temporary, else a temporary
abbrev pub lasting : Marks → VarId → Bool
lasting m id = less_id (record { 0 = pos 0 }) id && not (marked m id)

-- 64 statements over 48 variables; the second pass: 129 over 112
abbrev pub first_limits : Limits
first_limits = record { stmts = 64; vars = 48 }

-- the second pass's limits
abbrev pub second_limits : Limits
second_limits = record { stmts = 129; vars = 112 }
