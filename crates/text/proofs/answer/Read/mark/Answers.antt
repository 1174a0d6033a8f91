use Rattle.std.proofs.Common.{lt-ltb, le-ltb, le-leb}
use borrow.Author.Tests.{lt-leb}
use Rattle.text.specs.Reading.{accepted_mark}
use Rattle.text.proofs.answer.Read.mark.Goals.{then-self-gt0-via-then-self-gt0, then-self-gt0-via-else-self-gt0+then-at-ge16}
use Rattle.text.proofs.answer.Read.mark.Goals as goal

pub returns-then-self-gt0-clause-after : goal.returns-then-self-gt0-clause-after
unfolding accepted_mark
returns-then-self-gt0-clause-after c =
    elim c.then-self-gt0.branch [
      | then-self-gt0-via-then-self-gt0 w ↦ simp (lt-ltb _ _ w.if-self-gt0.true)
      | then-self-gt0-via-else-self-gt0+then-at-ge16 w ↦ simp (le-ltb _ _ w.if-self-gt0.false, le-leb _ _ w.if-at-ge16.true)
    ]

pub returns-clause-after : goal.returns-clause-after
unfolding accepted_mark
returns-clause-after c = simp (le-ltb _ _ c.if-self-gt0.false, lt-leb _ _ c.if-at-ge16.false)
