-- What a run answers, for every block: the rows, the trace and the answer.
use Rattle.std.specs.Prelude.{ℕ, ◌≡◌, List, Result, Ok, Err, ltb, length}
use Rattle.pcode.specs.Var.{pick}
use Rattle.pcode.specs.Block.{held, second_limits}
use Rattle.pcode.specs.declared.block.Stmt.{Stmt}
use Rattle.pcode.specs.declared.block.Block.{Block}
use Rattle.pcode.specs.declared.block.Marks.{Marks}
use Rattle.pcode.specs.declared.var.VarId.{VarId}
use Rattle.pcode.specs.declared.refusal.Refusal.{Refusal}
use Rattle.pcode.specs.declared.refusal.Refusal.TheVariants.{NotRunnable}
use Rattle.vars.specs.Vars.{vars_of}
use Rattle.checks.specs.Checks.{check_of}
use Rattle.machine.specs.Class.{first_outside}
use Rattle.machine.specs.declared.class.Class.{Class}
use Rattle.print.specs.Texts.{written}
use Rattle.step.specs.Events.{Event, end_rows}
use Rattle.trace.specs.Words.{trace_words, trace_room}
use Rattle.run.specs.Run.{run_of}
use Rattle.run.specs.declared.outcome.Stop.{Stop}
use Rattle.run.specs.declared.outcome.Stop.TheVariants.{NoRoom, Refused}

-- 16: the first statement that no run of the class gets past; else whether the trace has room
unfoldable pub class_outcome : Class → List Stmt → ℕ → Result (Unit {0}) Stop
class_outcome c ss room =
    pick (ltb (first_outside c ss 0 ss) (length ss)) (Err (Refused (NotRunnable (first_outside c ss 0 ss)))) (pick (ltb room trace_room) (Err NoRoom) (Ok tt))

-- 16 comes after the checks
abbrev pub checked_outcome : Result (Unit {0}) Refusal → Class → List Stmt → ℕ → Result (Unit {0}) Stop
checked_outcome (Ok u) c ss room = class_outcome c ss room
checked_outcome (Err why) c ss room = Err (Refused why)

-- how a run of a block ends, with the second pass's limits and that many words of room
abbrev pub outcome_of : Class → Block → ℕ → Result (Unit {0}) Stop
outcome_of c b room = checked_outcome (check_of second_limits b) c (held b) room

-- the rows at the end of a run that is done, or why there is none
abbrev pub rows_by : Result (Unit {0}) Stop → List Event → Result (List (List ℕ)) Stop
rows_by (Ok u) es = Ok (end_rows es)
rows_by (Err stop) es = Err stop

-- a run that is done writes its events' words; else the trace stays
abbrev pub trace_by : Result (Unit {0}) Stop → Marks → List VarId → List Event → List ℕ → List ℕ
trace_by (Ok u) marks ids es old = written old 0 (trace_words marks ids es)
trace_by (Err stop) marks ids es old = old

-- the whole promise of a run: the rows at its end or why it stopped, and the trace
pub record Promise (c : Class) (b : Block) (marks : Marks) (rows : List (List ℕ)) (answers : List ℕ) (old new : List ℕ) (r : Result (List (List ℕ)) Stop) : Type 0 where
  pub answer : r ≡ rows_by (outcome_of c b (length old)) (run_of answers (held b) rows)
  pub trace_after : new ≡ trace_by (outcome_of c b (length old)) marks (vars_of (held b)) (run_of answers (held b) rows) old
