-- Demand 3: what is asked of a block or a file and its run, and what its treated block does.
use Rattle.std.specs.Prelude.{ℕ, zero, suc, ◌<◌, ◌≡◌, Bool, true, false, List, [], ◌∷◌, ◌++◌, map, ltb, length, take, replicate, Ok}
use Rattle.pcode.specs.Block.{held}
use Rattle.pcode.specs.declared.var.VarId.{VarId}
use Rattle.pcode.specs.declared.block.Stmt.{Stmt}
use Rattle.pcode.specs.declared.block.Block.{Block}
use Rattle.pcode.specs.declared.block.Marks.{Marks}
use Rattle.vars.specs.Vars.{vars_of}
use Rattle.text.specs.Reading.{read_of}
use Rattle.text.specs.declared.answer.Read.{Read}
use Rattle.machine.specs.Class.{own_class, first_outside}
use Rattle.run.specs.Run.{run_of, Shape}
use Rattle.alike.specs.ById.{Start, StartsAs}
use Rattle.alike.specs.Alike.{Alike}
use Rattle.alike.specs.Premises.{in_one_instruction, fresh_run, AllShort}
use Rattle.optimizer.specs.Both.{both_of}

-- refusal 16 meets a block: an operation is outside the run class, or a `PcodeBranch` goes to a label above it
abbrev pub outside_class : List Stmt → Bool
outside_class ss = ltb (first_outside own_class ss 0 ss) (length ss)

-- a block of the run class that both passes accept and leave as t, its branches forward and inside one instruction
pub record Accepted (m : Marks) (b t : Block) : Type 0 where
  pub accepted : both_of b m ≡ Ok t
  pub class : outside_class (held b) ≡ false
  pub inside : in_one_instruction (held b) ≡ true
  pub constants : AllShort (held b)

-- a file from which r is read for both passes, and whose block is such a block; nothing is asked of its constants
pub record AcceptedFile (bytes : List ℕ) (r : Read) (t : Block) : Type 0 where
  pub read : read_of 64 bytes ≡ Ok r
  pub accepted : both_of r.block r.marks ≡ Ok t
  pub class : outside_class (held r.block) ≡ false
  pub inside : in_one_instruction (held r.block) ≡ true

-- rows that hold a start
pub record Holds (b : Block) (start : Start) (rows : List (List ℕ)) : Type 0 where
  pub shape : Shape rows
  pub same : StartsAs (vars_of (held b)) rows start

-- the treated block's run, from the same start with the same answers: the same loads, stores and taken exits in order with the same operand
-- values, and every byte of every lasting variable the same at each marker, each taken exit and the end
abbrev pub RunsAlike : Marks → List ℕ → Start → Block → Block → List (List ℕ) → List (List ℕ) → Type 0
RunsAlike m answers start b t rows rows' =
    Alike m start (vars_of (held b)) (vars_of (held t)) (run_of answers (held b) rows) (run_of answers (held t) rows')

-- a start and load answers from which the block reads no temporary byte last written by an earlier instruction
abbrev pub Fresh : Marks → List ℕ → Block → List (List ℕ) → Type 0
Fresh m answers b rows = fresh_run m answers (held b) rows ≡ true

-- the bytes f k, f (k + 1), ..
unfoldable pub bytes_from : (ℕ → ℕ) → ℕ → ℕ → List ℕ
bytes_from f k zero = []
bytes_from f k (suc n) = f k ∷ bytes_from f (suc k) n

-- a start's rows for a table of variables: theirs in order, the others of zeros
unfoldable pub rows_of : List VarId → Start → List (List ℕ)
rows_of ids start = take 112 (map (λ id. bytes_from (start id) 0 16) ids ++ replicate 112 (replicate 16 0))

-- a start is of bytes
abbrev pub OfBytes : Start → Type 0
OfBytes start = (id : VarId) (k : ℕ) → start id k < 256
