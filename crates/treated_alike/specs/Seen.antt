-- What an observer writes down of a run: its loads, stores and taken exits, and the bytes of a variable where rows show.
use Rattle.std.specs.Prelude.{ℕ, List, [], ◌∷◌}
use Rattle.pcode.specs.declared.var.VarId.{VarId}
use Rattle.step.specs.Events.{Event, Loaded, Stored, Taken, Marked, Ended}
use Rattle.alike.specs.ById.{Start, seen_of}

-- the loads, stores and taken exits in order, with their operand values; the rows at an exit are left out
unfoldable pub calls_of : List Event → List Event
calls_of [] = []
calls_of (Loaded n a b ∷ es) = Loaded n a b ∷ calls_of es
calls_of (Stored n a b ∷ es) = Stored n a b ∷ calls_of es
calls_of (Taken n a b rows ∷ es) = Taken n a b [] ∷ calls_of es
calls_of (Marked rows ∷ es) = calls_of es
calls_of (Ended rows ∷ es) = calls_of es

-- byte k of a variable at each marker, each taken exit and the end
unfoldable pub bytes_in : List VarId → Start → VarId → ℕ → List Event → List ℕ
bytes_in ids start id k [] = []
bytes_in ids start id k (Loaded n a b ∷ es) = bytes_in ids start id k es
bytes_in ids start id k (Stored n a b ∷ es) = bytes_in ids start id k es
bytes_in ids start id k (Taken n a b rows ∷ es) = seen_of ids rows start id k ∷ bytes_in ids start id k es
bytes_in ids start id k (Marked rows ∷ es) = seen_of ids rows start id k ∷ bytes_in ids start id k es
bytes_in ids start id k (Ended rows ∷ es) = seen_of ids rows start id k ∷ bytes_in ids start id k es
