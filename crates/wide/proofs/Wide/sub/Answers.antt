use Rattle.std.proofs.Common.{◌≤◌, ◌<◌, ◌^◌, ◌+◌, ◌-◌, ◌%◌, lit<, mod-lt, rules}
use Rattle.wide.specs.Value.{value_of}
use Rattle.wide.proofs.Laws.{back_in_two_steps, taken_back}
use Rattle.wide.proofs.Wide.sub.Goals as goal

pub returns : goal.returns
unfolding value_of
returns c = let x = c.args in
    let k = c.borrowed-c.result in
    let lo = (x.self.lo + (2 ^ 64 - x.b.lo)) % 2 ^ 64 in
    let h = (x.self.hi + (2 ^ 64 - x.b.hi)) % 2 ^ 64 in
    let al : x.self.lo < 2 ^ 64 = search rules in
    let bl : x.b.lo ≤ 2 ^ 64 = search rules in
    let ah : x.self.hi < 2 ^ 64 = search rules in
    let bh : x.b.hi ≤ 2 ^ 64 = search rules in
    let b : k ≤ 2 ^ 64 = search rules in
    back_in_two_steps (2 ^ 64) (lit< tt) x.self.lo x.self.hi x.b.lo x.b.hi lo k h ((h + (2 ^ 64 - k)) % 2 ^ 64)
    (c.borrowed-c.ensures lo (mod-lt _ (lit< tt)) (taken_back (2 ^ 64) (lit< tt) x.self.lo x.b.lo al bl)) al
    (taken_back (2 ^ 64) (lit< tt) x.self.hi x.b.hi ah bh) (taken_back (2 ^ 64) (lit< tt) h k (mod-lt _ (lit< tt)) b)
