-- What an operand becomes, by its known constant and by what the map gives. Assumes nothing.
use Rattle.std.proofs.Common.{ℕ, ◌*◌, ◌≤◌, ◌≡◌, refl, sym, ◌∙◌, ap, subst, List, arith, length, drop, take_at, Option, None as Nothing, Some}
use lib.ListN.{length-map}
use Rattle.pcode.specs.declared.var.Operand.{Operand}
use Rattle.pcode.specs.declared.var.Operand.TheVariants.{None, Const, Var}
use Rattle.vars.specs.declared.Vars.{Vars}
use Rattle.const_eval.specs.declared.place.Place.{Place}
use Rattle.bit.specs.Bits.{code_of}
use Rattle.bit_vec.specs.Lists.{codes}
use Rattle.bit_vec.specs.Moves.{digits}
use Rattle.bit_vec.proofs.Moved.{length_digits}
use Rattle.eval.specs.Operand.{bits_of}
use Rattle.const_eval.specs.Known.{Fit, Within}
use Rattle.const_eval.specs.State.{State, entries_of, map_gives, Good, Able, first_use}
use Rattle.const_eval.proofs.Keeps.{first_kept, kept_fit, good_within, able_room}
use Rattle.const_eval.proofs.Looks.{lookup_within}
use Rattle.uses.specs.Operands.{operand_bits, slot_of, const_row, FoundFit, Looks}

-- a part of a row of a store of at most 112 rows
pub within_fit : (codes : ℕ) (p : Place) → codes ≤ 128 * 112 → Within codes p → Fit 112 p
within_fit codes p h w = record { row_in = omega (arith, h, w.row_in); inside = w.inside }

-- what the map gives lies in a row
pub found_fit : (s : State) (key : List ℕ) (f : Option Place) → Looks s → f ≡ map_gives key s → FoundFit f
found_fit s key Nothing l e = tt
found_fit s key (Some p) l e = within_fit (length s.store) p l.rows (lookup_within (length s.store) s.store (entries_of s) key p l.inside (sym e))

-- a good state's map can be asked
pub good_looks : (s : State) → Good s → length s.used ≤ 112 → Looks s
good_looks s g h = record { room = g.room; inside = g.inside; rows = omega (arith, g.rows, h) }

-- after a part's use the map can be asked for it
pub use_after : (p q : Place) (s t : State) → Able 1 s → Fit (length s.used) p → q ≡ p → t ≡ first_use q s → Looks t × Within (length t.store) q
use_after p q s t a f h e = subst (λ (z : State). Looks z × Within (length z.store) q) (sym e) (go q h)
  where
    go : (q : Place) → q ≡ p → Looks (first_use q s) × Within (length (first_use q s).store) q
    go q h =
        let f' = subst (λ (z : Place). Fit (length s.used) z) (sym h) f in
        let k = first_kept q s (able_room q s a f') in
        (good_looks (first_use q s) k.good (omega (arith, a.rows, k.used_length)), good_within q (first_use q s) k.good (kept_fit q s (first_use q s) k f'))

-- a constant's codes are as many as its bits
pub const_codes : (n v : ℕ) → length (codes (digits n v)) ≡ n
const_codes n v = length-map (digits n v) code_of ∙ length_digits n v

-- the bits of an operand are where its use put them
pub stands : (vars : Vars) (a : Operand) (row : List ℕ) → (λ (st : List ℕ). bits_of st (const_row a row) (slot_of vars a)) ≡ operand_bits vars a
stands vars None row = refl
stands vars (Const v n) row = ap {B = List ℕ → List ℕ} (λ (z : List ℕ) (st : List ℕ). z) (take_at (codes (digits (8 * n) v)) (drop (8 * n) row) (8 * n) (const_codes (8 * n) v))
stands vars (Var v) row = refl
