use Rattle.std.proofs.Common.{◌+◌, ◌*◌, ◌^◌, rules}
use Rattle.wide.specs.Value.{value_of}
use Rattle.concrete.proofs.Widths.{exact}
use Rattle.wide.proofs.Powers.{below_128}
use Rattle.concrete.proofs.number.minus.Goals as goal

pub returns : goal.returns
unfolding value_of
returns c = let r = c.sub.result in
    let a = c.args.a in
    exact (2 ^ 128) (r.lo + 2 ^ 64 * r.hi) (a.lo + 2 ^ 64 * a.hi) (value_of c.args.b) (below_128 r.lo r.hi (search rules) (search rules)) (below_128 a.lo a.hi (search rules) (search rules)) c.requires c.sub.ensures
