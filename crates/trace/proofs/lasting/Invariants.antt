use Rattle.std.proofs.Common.{◌+◌, ◌*◌, ◌≤◌, length, take}
use Rattle.print.specs.Texts.{Wrote}
use Rattle.vars.specs.Vars.{held_ids}
use Rattle.trace.specs.Words.{lasting_words}
use Rattle.trace.proofs.lasting.Given as goal

abbrev pub invariant-loop-i : goal.invariant-loop-i
invariant-loop-i l = record {
  small : length (held_ids l.vars) ≤ 112;
  room : l.at + 224 ≤ length l.initial.trace;
  words : Wrote (2 * l.i) l.initial.trace l.at (lasting_words l.marks l.state 0 (take l.i (held_ids l.vars))) l.trace l.p;
}
