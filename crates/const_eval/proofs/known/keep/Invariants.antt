use Rattle.std.proofs.Common.{◌≡◌, ℕ, ◌<◌, ◌≤◌, get_or}
use Rattle.const_eval.specs.State.{flag_of}
use Rattle.const_eval.proofs.known.keep.Given as goal

abbrev pub invariant-loop-i : goal.invariant-loop-i
invariant-loop-i l =
    ((k : ℕ) → k < l.i → get_or l.used k 0 ≡ flag_of (get_or l.initial.used k 0) (get_or l.temp k 0)) × ((k : ℕ) → l.i ≤ k → get_or l.used k 0 ≡ get_or l.initial.used k 0)
