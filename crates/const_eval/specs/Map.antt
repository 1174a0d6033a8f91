-- The value map: a value maps to the variable last entered for it, used only if that variable still holds it.
use Rattle.std.specs.Prelude.{ℕ, zero, suc, ◌+◌, ◌*◌, ◌≤◌, List, [], ◌∷◌, Option, Some, None, take, drop, get_or}
use Rattle.pcode.specs.Var.{pick}
use Rattle.const_eval.specs.declared.place.Place.{Place}
use Rattle.const_eval.specs.Known.{part_of, same_codes, Within}

-- a value, and the part of a variable entered for it
pub record Entry : Type 0 where
  pub place : Place
  pub key : List ℕ

-- an entry's words: the part, then the value
abbrev pub words_of : Place → List ℕ → List ℕ
words_of p key = p.row ∷ (p.offset ∷ (p.size ∷ key))

-- the part that entry i names
unfoldable pub place_at : List ℕ → ℕ → Place
place_at map i = record { row = get_or map (131 * i) 0; offset = get_or map (131 * i + 1) 0; size = get_or map (131 * i + 2) 0 }

-- entry i: its part, and after the three words of the part its value, as long as the part
unfoldable pub entry_at : List ℕ → ℕ → Entry
entry_at map i = record { place = place_at map i; key = take (8 * (place_at map i).size) (drop (131 * i + 3) map) }

-- the first i entries, the newest first
abbrev pub entries : List ℕ → ℕ → List Entry
entries map zero = []
entries map (suc i) = entry_at map i ∷ entries map i

-- the part last entered for a value
abbrev pub find_e : List ℕ → List Entry → Option Place
find_e key [] = None
find_e key (e ∷ es) = pick (same_codes e.key key) (Some e.place) (find_e key es)

-- used only if that part still holds the value
abbrev pub if_still : List ℕ → List ℕ → Option Place → Option Place
if_still store key None = None
if_still store key (Some p) = pick (same_codes (part_of p store) key) (Some p) None

-- what the map gives for a value
abbrev pub lookup_of : List ℕ → List Entry → List ℕ → Option Place
lookup_of store es key = if_still store key (find_e key es)

-- every entry's part lies in a store of that many codes
abbrev pub Inside : ℕ → List Entry → Type 0
Inside codes [] = Unit {0}
Inside codes (e ∷ es) = Within codes e.place × Inside codes es

-- no entry's part is longer than 16 bytes
abbrev pub Short : List Entry → Type 0
Short [] = Unit {0}
Short (e ∷ es) = (e.place.size ≤ 16) × Short es
