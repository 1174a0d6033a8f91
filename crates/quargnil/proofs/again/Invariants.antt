use Rattle.std.proofs.Common.{◌≡◌}
use Rattle.front.specs.Front.{treat_of}
use Rattle.quargnil.specs.Answers.{repeated_of, count_of}
use Rattle.quargnil.proofs.again.Given as goal

abbrev pub invariant-loop : goal.invariant-loop
invariant-loop l = l.last ≡ repeated_of l.counter (count_of (treat_of l.pass l.block l.marks) l.block)
