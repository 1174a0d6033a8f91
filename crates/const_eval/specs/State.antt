-- What the first pass knows, as one value, and how it changes.
use Rattle.std.specs.Prelude.{ℕ, ◌+◌, ◌*◌, ◌≤◌, ◌<◌, ◌≡◌, List, [], ◌∷◌, Option, Some, None, eqb, length, get_or, set, replicate}
use Rattle.pcode.specs.Var.{pick}
use Rattle.const_eval.specs.declared.place.Place.{Place}
use Rattle.const_eval.specs.declared.known.Tally.{Tally}
use Rattle.const_eval.specs.declared.known.ConstEval.{ConstEval}
use Rattle.const_eval.specs.Known.{part_of, splice, fresh_row, Fit}
use Rattle.const_eval.specs.Map.{Entry, entries, words_of, lookup_of, Inside}

-- the store of 128 codes a row, a flag for each row in use, the value map's words, and the counts
pub record State : Type 0 where
  pub store : List ℕ
  pub used : List ℕ
  pub map : List ℕ
  pub tally : Tally

-- the state of these parts
abbrev pub state_of : List ℕ → List ℕ → List ℕ → Tally → State
state_of store used map t = record { store = store; used = used; map = map; tally = t }

-- the state that is known
abbrev pub known_of : ConstEval → State
known_of k = state_of k.store.now k.used.now k.map.now k.tally

-- the slices lent stay the same ones
pub record Keeps (old new : ConstEval) : Type 0 where
  pub store : new.store.ghost_name ≡ old.store.ghost_name
  pub used : new.used.ghost_name ≡ old.used.ghost_name
  pub map : new.map.ghost_name ≡ old.map.ghost_name

-- the value map's entries, the newest first
abbrev pub entries_of : State → List Entry
entries_of s = entries s.map s.tally.count

-- what the map gives for a value
abbrev pub map_gives : List ℕ → State → Option Place
map_gives key s = lookup_of s.store (entries_of s) key

-- a part's value is entered
abbrev pub entered : Place → State → State
entered p s = record { store = s.store; used = s.used; map = splice (131 * s.tally.count) (words_of p (part_of p s.store)) s.map; tally = record { count = s.tally.count + 1; next = s.tally.next } }

-- the row takes 128 new expressions
abbrev pub freshened : ℕ → State → State
freshened row s = record { store = splice (128 * row) (fresh_row s.tally.next) s.store; used = set s.used row 1; map = s.map; tally = record { count = s.tally.count; next = s.tally.next + 1 } }

-- a first use of a variable makes 128 new expressions, and enters the bytes used
abbrev pub first_use : Place → State → State
first_use p s = pick (eqb (get_or s.used p.row 0) 0) (entered p (freshened p.row s)) s

-- by what the map gives
abbrev pub noted_by : Option Place → Place → State → State
noted_by None p s = entered p s
noted_by (Some q) p s = s

-- a written output is entered, unless the map gives one that still holds it
abbrev pub noted : Place → State → State
noted p s = noted_by (map_gives (part_of p s.store) s) p s

-- a row's flag after a marker: a temporary's goes
abbrev pub flag_of : ℕ → ℕ → ℕ
flag_of u t = pick (eqb t 0) u 0

-- the flags of all rows after a marker
abbrev pub keep_flags : List ℕ → List ℕ → List ℕ
keep_flags [] ts = []
keep_flags (u ∷ us) [] = u ∷ us
keep_flags (u ∷ us) (t ∷ ts) = flag_of u t ∷ keep_flags us ts

-- a marker empties the value map and forgets temporaries, the rows flagged in temp
abbrev pub forgotten : List ℕ → State → State
forgotten temp s = record { store = s.store; used = keep_flags s.used temp; map = s.map; tally = record { count = 0; next = s.tally.next } }

-- all knowledge goes
abbrev pub cleared : State → State
cleared s = record { store = s.store; used = replicate (length s.used) 0; map = s.map; tally = record { count = 0; next = s.tally.next } }

-- what holds throughout
pub record Good (s : State) : Type 0 where
  pub rows : length s.store ≡ 128 * length s.used
  pub room : 131 * s.tally.count ≤ length s.map
  pub inside : Inside (length s.store) (entries_of s)

-- room for one more entry and one more expression
pub record Room (p : Place) (s : State) : Type 0 where
  pub good : Good s
  pub part_in : Fit (length s.used) p
  pub more : 131 * s.tally.count + 131 ≤ length s.map
  pub ids : s.tally.next < 4000000000

-- room for k more entries and expressions
pub record Able (k : ℕ) (s : State) : Type 0 where
  pub good : Good s
  pub room : 131 * (s.tally.count + k) ≤ length s.map
  pub ids : s.tally.next + k < 4000000000
  pub rows : length s.used ≤ 112
