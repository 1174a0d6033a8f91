-- What a run leaves behind: its events.
use Rattle.std.specs.Prelude.{ℕ, List, [], ◌∷◌}

-- a load, a store or a taken exit with its operation's number and both operands' values; an exit, a marker and the end with the rows then
pub data Event : Type 0 where
  Loaded : ℕ → ℕ → ℕ → Event
  Stored : ℕ → ℕ → ℕ → Event
  Taken : ℕ → ℕ → ℕ → List (List ℕ) → Event
  Marked : List (List ℕ) → Event
  Ended : List (List ℕ) → Event

-- the rows that an event shows
abbrev pub rows_in : Event → List (List ℕ)
rows_in (Loaded n a b) = []
rows_in (Stored n a b) = []
rows_in (Taken n a b rows) = rows
rows_in (Marked rows) = rows
rows_in (Ended rows) = rows

-- the rows at the end of a run: those of its last event
unfoldable pub end_rows : List Event → List (List ℕ)
end_rows [] = []
end_rows (e ∷ []) = rows_in e
end_rows (e ∷ f ∷ es) = end_rows (f ∷ es)
