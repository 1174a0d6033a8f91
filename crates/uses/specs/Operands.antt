-- An operand's bits, its use, and what it becomes: its known constant, else the variable that the value map gives.
use Rattle.std.specs.Prelude.{ℕ, ◌*◌, ◌≤◌, ◌≡◌, List, [], ◌++◌, Option, None as Nothing, Some, pos, length, drop, get_or}
use Rattle.pcode.specs.Var.{size_of}
use Rattle.pcode.specs.declared.var.VarNode.{VarNode}
use Rattle.pcode.specs.declared.var.Operand.{Operand}
use Rattle.pcode.specs.declared.var.Operand.TheVariants.{None, Const, Var}
use Rattle.vars.specs.Vars.{row_of, held_ids}
use Rattle.vars.specs.declared.Vars.{Vars}
use Rattle.bit_vec.specs.Lists.{bits, codes}
use Rattle.bit_vec.specs.Moves.{digits}
use Rattle.bit_vec.specs.Known.{const_of}
use Rattle.eval.specs.declared.operand.Slot.{Slot}
use Rattle.eval.specs.declared.operand.Slot.TheVariants as Slots
use Rattle.const_eval.specs.declared.place.Place.{Place}
use Rattle.const_eval.specs.Known.{part_of, Fit}
use Rattle.const_eval.specs.Map.{Inside}
use Rattle.const_eval.specs.State.{State, entries_of, first_use, map_gives}
use Rattle.uses.specs.declared.Use.{Use}

-- where a part of a variable stands in the store
abbrev pub place_of : Vars → VarNode → Place
place_of vars v = record { row = row_of (held_ids vars) v.id; offset = v.offset; size = v.size }

-- the part of a variable that stands there
abbrev pub node_at : Vars → Place → VarNode
node_at vars p = record { id = get_or vars.ids p.row (record { 0 = pos 0 }); offset = p.offset; size = p.size }

-- an operand's bits: none, a constant's digits, a part of the store
abbrev pub operand_bits : Vars → Operand → List ℕ → List ℕ
operand_bits vars None store = []
operand_bits vars (Const v n) store = codes (digits (8 * n) v)
operand_bits vars (Var v) store = part_of (place_of vars v) store

-- where these bits are kept: in the store, or in the row that holds a constant
abbrev pub slot_of : Vars → Operand → Slot
slot_of vars None = Slots.None
slot_of vars (Const v n) = Slots.Const n
slot_of vars (Var v) = Slots.Var (row_of (held_ids vars) v.id) v.offset v.size

-- the row that holds a constant, once the operand was used
abbrev pub const_row : Operand → List ℕ → List ℕ
const_row None row = row
const_row (Const v n) row = codes (digits (8 * n) v) ++ drop (8 * n) row
const_row (Var v) row = row

-- an operand's use is a variable's first, or none
abbrev pub used_by : Vars → Operand → State → State
used_by vars None s = s
used_by vars (Const v n) s = s
used_by vars (Var v) s = first_use (place_of vars v) s

-- the variable that the value map gives, else the operand itself
abbrev pub given_of : Vars → Option Place → Operand → Operand
given_of vars Nothing a = a
given_of vars (Some p) a = Var (node_at vars p)

-- by its known constant, if it has one, and what the value map gives
abbrev pub becomes_by : Vars → Option ℕ → Option Place → Operand → Operand
becomes_by vars (Some k) f a = Const k (size_of a)
becomes_by vars Nothing f a = given_of vars f a

-- by its bits, its known constant, else the variable that the value map gives
abbrev pub becomes_of : Vars → List ℕ → State → Operand → Operand
becomes_of vars key s a = becomes_by vars (const_of (bits key)) (map_gives key s) a

-- what an operand becomes
abbrev pub becomes : Vars → State → Operand → Operand
becomes vars s None = None
becomes vars s (Const v n) = becomes_of vars (codes (digits (8 * n) v)) s (Const v n)
becomes vars s (Var v) = becomes_of vars (part_of (place_of vars v) s.store) s (Var v)

-- a part that the map gives lies in a row
abbrev pub FoundFit : Option Place → Type 0
FoundFit Nothing = Unit {0}
FoundFit (Some p) = Fit 112 p

-- the map can be asked: its entries lie in a store of at most 112 rows
pub record Looks (s : State) : Type 0 where
  pub room : 131 * s.tally.count ≤ length s.map
  pub inside : Inside (length s.store) (entries_of s)
  pub rows : length s.store ≤ 128 * 112

-- an operand is a part of a row, or a constant of at most 16 bytes
abbrev pub InOperand : ℕ → Vars → Operand → Type 0
InOperand rows vars None = Unit {0}
InOperand rows vars (Const v n) = n ≤ 16
InOperand rows vars (Var v) = Fit rows (place_of vars v)

-- a variable's use
pub record VarUse (vars : Vars) (v : VarNode) (s : State) (r : Use) (after : State) : Type 0 where
  pub state : after ≡ first_use (place_of vars v) s
  pub value : r.value ≡ becomes vars (first_use (place_of vars v) s) (Var v)
  pub slot : r.slot ≡ slot_of vars (Var v)

-- an operand's use: what is known after it, what the operand becomes, and where its bits are
pub record Uses (vars : Vars) (a : Operand) (s : State) (row : List ℕ) (r : Use) (after : State) (new : List ℕ) : Type 0 where
  pub state : after ≡ used_by vars a s
  pub value : r.value ≡ becomes vars (used_by vars a s) a
  pub slot : r.slot ≡ slot_of vars a
  pub consts : new ≡ const_row a row
