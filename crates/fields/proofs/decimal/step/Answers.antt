use Rattle.std.proofs.Common.{arith, ◌+◌, ◌*◌, ◌-◌, ◌<◌, ◌≤◌, lt-ltb, le-ltb, le-leb}
use borrow.Author.Tests.{lt-leb}
use Rattle.fields.specs.Decimals.{step_of}
use Rattle.fields.proofs.decimal.step.Goals.{then-b-lt48-via-then-b-lt48, then-b-lt48-via-else-b-lt48+then-b-gt57}
use Rattle.fields.proofs.decimal.step.Goals as goal

pub returns-then-b-lt48 : goal.returns-then-b-lt48
unfolding step_of
returns-then-b-lt48 c =
    elim c.then-b-lt48.branch [
      | then-b-lt48-via-then-b-lt48 w ↦ simp (lt-ltb _ _ w.if-b-lt48.true)
      | then-b-lt48-via-else-b-lt48+then-b-gt57 w ↦ simp (le-ltb _ _ w.if-b-lt48.false, lt-ltb _ _ w.if-b-gt57.true)
    ]

pub returns-then-limit-d : goal.returns-then-limit-d
unfolding step_of
returns-then-limit-d c = let a = c.args in
    let h : a.limit < 10 * a.v + (a.b - 48) = omega arith in
    simp (le-ltb _ _ c.if-b-lt48.false, le-ltb _ _ c.if-b-gt57.false, lt-leb _ _ h)

pub returns : goal.returns
unfolding step_of
returns c = let a = c.args in
    let h : 10 * a.v + (a.b - 48) ≤ a.limit = omega arith in
    simp (le-ltb _ _ c.if-b-lt48.false, le-ltb _ _ c.if-b-gt57.false, le-leb _ _ h)
