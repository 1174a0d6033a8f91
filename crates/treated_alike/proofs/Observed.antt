-- What alike runs have in common, written down: the same calls, and the same lasting bytes wherever rows show.
use Prim.Native.Nat.{ℕ, ◌<◌}
use mathlib.Core.Path.{◌≡◌, refl, ap, ap₂}
use mathlib.Core.Bool.{true}
use mathlib.Core.List.{List, [], ◌∷◌}
use Rattle.pcode.specs.Block.{lasting}
use Rattle.pcode.specs.declared.var.VarId.{VarId}
use Rattle.pcode.specs.declared.block.Marks.{Marks}
use Rattle.step.specs.Events.{Event, Loaded, Stored, Taken}
use Rattle.alike.specs.ById.{Start}
use Rattle.alike.specs.Alike.{loads, stores, exits, marks_at, ends, Alike, none, more}
use Rattle.treated_alike.specs.Seen.{calls_of, bytes_in}

module _ {m : Marks} {start : Start} {ids ids' : List VarId} where
  pub same_calls : {es es' : List Event} → Alike m start ids ids' es es' → calls_of es ≡ calls_of es'
  unfolding calls_of
  same_calls none = refl
  same_calls (more (loads {n = n} {a = a} {b = b}) r) = ap (λ (l : List Event). Loaded n a b ∷ l) (same_calls r)
  same_calls (more (stores {n = n} {a = a} {b = b}) r) = ap (λ (l : List Event). Stored n a b ∷ l) (same_calls r)
  same_calls (more (exits {n = n} {a = a} {b = b} h) r) = ap (λ (l : List Event). Taken n a b [] ∷ l) (same_calls r)
  same_calls (more (marks_at h) r) = same_calls r
  same_calls (more (ends h) r) = same_calls r

  pub same_bytes : {es es' : List Event} → Alike m start ids ids' es es' → (id : VarId) → lasting m id ≡ true → (k : ℕ) → k < 16
      → bytes_in ids start id k es ≡ bytes_in ids' start id k es'
  unfolding bytes_in
  same_bytes none id l k b = refl
  same_bytes (more loads r) id l k b = same_bytes r id l k b
  same_bytes (more stores r) id l k b = same_bytes r id l k b
  same_bytes (more (exits h) r) id l k b = ap₂ {B = List ℕ} ◌∷◌ (h id l k b) (same_bytes r id l k b)
  same_bytes (more (marks_at h) r) id l k b = ap₂ {B = List ℕ} ◌∷◌ (h id l k b) (same_bytes r id l k b)
  same_bytes (more (ends h) r) id l k b = ap₂ {B = List ℕ} ◌∷◌ (h id l k b) (same_bytes r id l k b)
