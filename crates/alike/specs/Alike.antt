-- Runs that are alike: the same loads, stores and taken exits in order with the same operand values, and the same lasting bytes where rows show.
use Rattle.std.specs.Prelude.{ℕ, ◌<◌, ◌≡◌, true, List, [], ◌∷◌}
use Rattle.pcode.specs.Block.{lasting}
use Rattle.pcode.specs.declared.var.VarId.{VarId}
use Rattle.pcode.specs.declared.block.Marks.{Marks}
use Rattle.step.specs.Events.{Event, Loaded, Stored, Taken, Marked, Ended}
use Rattle.alike.specs.ById.{Start, seen_of}

-- every byte of every lasting variable agrees
abbrev pub SameLasting : Marks → Start → List VarId → List VarId → List (List ℕ) → List (List ℕ) → Type 0
SameLasting marks start ids ids' rows rows' =
    (id : VarId) → lasting marks id ≡ true → (k : ℕ) → k < 16 → seen_of ids rows start id k ≡ seen_of ids' rows' start id k

-- events of one kind with the same number and operand values, and with the same lasting bytes at an exit, a marker and the end
pub data SameEvent (marks : Marks) (start : Start) (ids ids' : List VarId) : Event → Event → Type 0 where
  loads : {n a b : ℕ} → SameEvent marks start ids ids' (Loaded n a b) (Loaded n a b)
  stores : {n a b : ℕ} → SameEvent marks start ids ids' (Stored n a b) (Stored n a b)
  exits : {n a b : ℕ} {rows rows' : List (List ℕ)} → SameLasting marks start ids ids' rows rows'
      → SameEvent marks start ids ids' (Taken n a b rows) (Taken n a b rows')
  marks_at : {rows rows' : List (List ℕ)} → SameLasting marks start ids ids' rows rows' → SameEvent marks start ids ids' (Marked rows) (Marked rows')
  ends : {rows rows' : List (List ℕ)} → SameLasting marks start ids ids' rows rows' → SameEvent marks start ids ids' (Ended rows) (Ended rows')

-- event by event, over two tables of ids
pub data Alike (marks : Marks) (start : Start) (ids ids' : List VarId) : List Event → List Event → Type 0 where
  none : Alike marks start ids ids' [] []
  more : {e e' : Event} {es es' : List Event} → SameEvent marks start ids ids' e e' → Alike marks start ids ids' es es'
      → Alike marks start ids ids' (e ∷ es) (e' ∷ es')
