-- The words that record a run's events.
use Rattle.std.specs.Prelude.{ℕ, suc, ◌*◌, ◌/◌, ◌%◌, ◌^◌, List, [], ◌∷◌, ◌++◌}
use Rattle.pcode.specs.Var.{pick}
use Rattle.pcode.specs.Block.{lasting}
use Rattle.pcode.specs.declared.var.VarId.{VarId}
use Rattle.pcode.specs.declared.block.Marks.{Marks}
use Rattle.state.specs.Bytes.{read_of}
use Rattle.step.specs.Events.{Event, Loaded, Stored, Taken, Marked, Ended}

-- a number below 2^128 as its low and its high half
unfoldable pub halves : ℕ → List ℕ
halves v = v % 2 ^ 64 ∷ v / 2 ^ 64 ∷ []

-- the 16 bytes of each lasting variable, from row i on
unfoldable pub lasting_words : Marks → List (List ℕ) → ℕ → List VarId → List ℕ
lasting_words marks rows i [] = []
lasting_words marks rows i (id ∷ ids) = pick (lasting marks id) (halves (read_of rows i 0 16)) [] ++ lasting_words marks rows (suc i) ids

-- kind, number, and the operands' values
unfoldable pub access_words : ℕ → ℕ → ℕ → ℕ → List ℕ
access_words kind n a b = (kind ∷ []) ++ ((n ∷ []) ++ (halves a ++ halves b))

-- kind, no number, and the lasting variables
unfoldable pub state_words : ℕ → Marks → List VarId → List (List ℕ) → List ℕ
state_words kind marks ids rows = (kind ∷ []) ++ ((0 ∷ []) ++ lasting_words marks rows 0 ids)

-- kind (1 load, 2 store, 3 exit, 4 marker, 5 end), number, the values of the first three, the lasting variables of the last three
unfoldable pub words_of : Marks → List VarId → Event → List ℕ
words_of marks ids (Loaded n a b) = access_words 1 n a b
words_of marks ids (Stored n a b) = access_words 2 n a b
words_of marks ids (Taken n a b rows) = access_words 3 n a b ++ lasting_words marks rows 0 ids
words_of marks ids (Marked rows) = state_words 4 marks ids rows
words_of marks ids (Ended rows) = state_words 5 marks ids rows

-- all events' words
unfoldable pub trace_words : Marks → List VarId → List Event → List ℕ
trace_words marks ids [] = []
trace_words marks ids (e ∷ es) = words_of marks ids e ++ trace_words marks ids es

-- the room for the largest trace: 129 statements' events and the end, each with two values and 112 rows
abbrev pub trace_room : ℕ
trace_room = 130 * 230
