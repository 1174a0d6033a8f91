use Rattle.bit_vec.proofs.Store.{Stored}
use Rattle.bit_vec.specs.Moves.{digits}
use Rattle.bit_vec.specs.Lists.{codes}
use Rattle.std.proofs.Common.{◌≡◌, length, drop, ◌/◌, ◌^◌}
use Rattle.bit_vec.proofs.moves.set_const.Given as goal

abbrev pub invariant-loop-x : goal.invariant-loop-x
invariant-loop-x l = Stored l.initial.out (codes (digits (length l.initial.out) l.value)) (drop l.x-index (codes (digits (length l.initial.out) l.value))) l.out l.x-index × (l.rest ≡ l.value / 2 ^ l.x-index)
