use Rattle.std.proofs.Common.{◌^◌, ◌+◌, ◌%◌, lit<, mod-lt, refl}
use Rattle.wide.specs.Value.{value_of}
use Rattle.wide.proofs.Laws.{in_two_steps}
use Rattle.wide.proofs.Wide.add.Goals as goal

pub returns : goal.returns
unfolding value_of
returns c = let x = c.args in
    in_two_steps (2 ^ 64) (lit< tt) x.self.lo x.self.hi x.b.lo x.b.hi ((x.self.lo + x.b.lo) % 2 ^ 64) c.carry-c.result ((x.self.hi + x.b.hi) % 2 ^ 64)
    (((x.self.hi + x.b.hi) % 2 ^ 64 + c.carry-c.result) % 2 ^ 64) c.carry-c.ensures (mod-lt _ (lit< tt)) refl refl
