-- A start may be taken to have bytes below 256: at rows of bytes it makes no difference.
use Rattle.std.proofs.Common.{ℕ, ◌%◌, ◌<◌, mod-lt, mod-eq_of_lt, ◌≡◌, refl, sym, ◌∙◌, subst, Bool, true, false, List, lit<}
use Rattle.pcode.specs.Var.{pick}
use Rattle.pcode.specs.Block.{has_id}
use Rattle.pcode.specs.declared.var.VarId.{VarId}
use Rattle.pcode.specs.declared.block.Marks.{Marks}
use Rattle.vars.specs.Vars.{row_of}
use Rattle.step.specs.Events.{Event}
use Rattle.run.specs.Run.{Shape}
use Rattle.alike.specs.ById.{Start, byte_of, seen_of, StartsAs}
use Rattle.alike.specs.Alike.{SameLasting, SameEvent, loads, stores, exits, marks_at, ends, Alike, none, more}
use Rattle.alike.proofs.Parts.{Bytewise}

-- a start cut to bytes
unfoldable pub bytes_at : Start → Start
bytes_at start id k = start id k % 256

pub bytes_at_lem : (start : Start) → Bytewise (bytes_at start)
unfolding bytes_at
bytes_at_lem start id k = mod-lt (start id k) (lit< tt)

module _ (ids : List VarId) (start : Start) (rows : List (List ℕ)) (shape : Shape rows) (same : StartsAs ids rows start) where
  pub same_byte : (id : VarId) → has_id ids id ≡ true → (k : ℕ) → k < 16 → bytes_at start id k ≡ start id k
  unfolding bytes_at
  same_byte id h k l = mod-eq_of_lt (subst (λ (n : ℕ). n < 256) (same id h k l) (shape.bytes (row_of ids id) k))

  pub starts_bytes : StartsAs ids rows (bytes_at start)
  starts_bytes id h k l = same id h k l ∙ sym (same_byte id h k l)

-- two starts that agree on the named variables show the same
module _ (ms : Marks) (start start' : Start) (ids ids' : List VarId) (f : (id : VarId) → has_id ids id ≡ true → (k : ℕ) → k < 16 → start id k ≡ start' id k)
    (g : (id : VarId) → has_id ids' id ≡ true → (k : ℕ) → k < 16 → start id k ≡ start' id k) where
  module _ (rows rows' : List (List ℕ)) where
    bytes_same : (id : VarId) (k : ℕ) → (b b' : Bool) → (b ≡ true → start id k ≡ start' id k) → (b' ≡ true → start id k ≡ start' id k)
        → pick b (byte_of ids rows id k) (start id k) ≡ pick b' (byte_of ids' rows' id k) (start id k)
        → pick b (byte_of ids rows id k) (start' id k) ≡ pick b' (byte_of ids' rows' id k) (start' id k)
    bytes_same id k true true p q e = e
    bytes_same id k true false p q e = e ∙ p refl
    bytes_same id k false true p q e = sym (q refl) ∙ e
    bytes_same id k false false p q e = refl

    lasting_same : SameLasting ms start ids ids' rows rows' → SameLasting ms start' ids ids' rows rows'
    unfolding seen_of
    lasting_same h id l k b = bytes_same id k (has_id ids id) (has_id ids' id) (λ t. f id t k b) (λ t. g id t k b) (h id l k b)

  event_same : {e e' : Event} → SameEvent ms start ids ids' e e' → SameEvent ms start' ids ids' e e'
  event_same loads = loads
  event_same stores = stores
  event_same (exits {rows = rows} {rows' = rows'} h) = exits (lasting_same rows rows' h)
  event_same (marks_at {rows = rows} {rows' = rows'} h) = marks_at (lasting_same rows rows' h)
  event_same (ends {rows = rows} {rows' = rows'} h) = ends (lasting_same rows rows' h)

  pub alike_same : {es es' : List Event} → Alike ms start ids ids' es es' → Alike ms start' ids ids' es es'
  alike_same none = none
  alike_same (more h r) = more (event_same h) (alike_same r)
