use Rattle.std.proofs.Common.{ℕ, ◌+◌, ◌-◌, ap, arith}
use Rattle.meaning.specs.Meaning.{count_ones}
use Rattle.wide.specs.Value.{value_of}
use Rattle.concrete.proofs.Counts.{ones_more, none_left, low_bit}
use Rattle.concrete.proofs.number.count_ones.Goals as goal

pub loop-preserved : goal.loop-preserved
loop-preserved c = let w = c.args.w in
    let i = c.loop.counter in
    let v = value_of c.loop.rest in
    let m = ones_more w i v (omega arith) in
    let b = low_bit c.loop.rest in
    let s = ap (λ (n : ℕ). count_ones (w - (i + 1)) n) c.shr-rest.ensures in
    let inv = c.loop.invariant.to_come in
    record { few = omega (arith, c.loop.invariant.few); to_come = omega arith }

pub returns : goal.returns
returns c = let e = none_left c.args.w c.loop.counter (value_of c.loop.rest) (omega arith) in
    let inv = c.loop.invariant.to_come in
    omega arith
