use Rattle.std.proofs.Common.{arith}
use Rattle.fields.proofs.Parts.{place_here, place_more, place_end}
use Rattle.fields.proofs.part.place.Goals as goal

pub returns-then-x-b : goal.returns-then-x-b
returns-then-x-b c = omega (arith, place_here c.args.b c.args.s.now c.loop-i.i (omega arith) c.if-x-b.true)

pub loop-i-preserved : goal.loop-i-preserved
loop-i-preserved c = omega (arith, place_more c.args.b c.args.s.now c.loop-i.i (omega arith) c.if-x-b.false)

pub returns : goal.returns
returns c = omega (arith, place_end c.args.b c.args.s.now c.loop-i.i (omega arith))
