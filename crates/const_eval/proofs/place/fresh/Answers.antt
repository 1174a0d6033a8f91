use Rattle.std.proofs.Common.{length, arith}
use Rattle.const_eval.proofs.Codes.{fresh_all}
use Rattle.const_eval.proofs.place.fresh.Goals as goal

pub returns : goal.returns
returns c = fresh_all c.args.id (length c.args.row.now) c.loop-i.row c.loop-i.auto.row (λ k h. c.loop-i.invariant k (omega arith))
