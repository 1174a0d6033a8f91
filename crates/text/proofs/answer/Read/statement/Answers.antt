use Rattle.std.proofs.Common.{le-leb}
use borrow.Author.Tests.{lt-leb}
use Rattle.text.specs.Reading.{accepted_stmt}
use Rattle.text.proofs.answer.Read.statement.Goals as goal

pub returns-then-limit-n-clause-after : goal.returns-then-limit-n-clause-after
unfolding accepted_stmt
returns-then-limit-n-clause-after c = simp (le-leb _ _ c.if-limit-n.true)

pub returns-clause-after : goal.returns-clause-after
unfolding accepted_stmt
returns-clause-after c = simp (c.add.ensures, lt-leb _ _ c.if-limit-n.false)
