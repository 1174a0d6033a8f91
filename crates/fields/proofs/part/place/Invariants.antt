use Rattle.std.proofs.Common.{◌≡◌, ◌+◌, drop}
use Rattle.fields.specs.Parts.{place_of}
use Rattle.fields.proofs.part.place.Given as goal

abbrev pub invariant-loop-i : goal.invariant-loop-i
invariant-loop-i l = place_of l.b l.s ≡ l.i + place_of l.b (drop l.i l.s)
