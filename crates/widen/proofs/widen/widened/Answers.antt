use Rattle.std.proofs.Common.{arith, rules, tests}
use Rattle.widen.specs.Widen.{widened_of}
use Rattle.widen.proofs.Sizes.{zeros_le}
use Rattle.widen.proofs.widen.widened.Goals as goal

pub overflow_add-w : goal.overflow_add-w
overflow_add-w c = omega (arith, c.zeros_above-z.ensures, zeros_le c.args.store.now c.args.p)

pub returns-then-is_power : goal.returns-then-is_power
unfolding widened_of
returns-then-is_power c = search (tests, rules)

pub returns-else-p-eq0 : goal.returns-else-p-eq0
unfolding widened_of
returns-else-p-eq0 c = search (tests, rules)
