use Rattle.std.proofs.Common.{sym, length-take-le}
use Rattle.fields.proofs.Parts.{placed}
use Rattle.fields.proofs.part.head.Goals as goal

pub slice_bounds-result-end : goal.slice_bounds-result-end
slice_bounds-result-end c = sym (length-take-le _ _ (rw c.place-p.ensures (placed c.args.b c.args.s.now)))

pub returns : goal.returns
returns c = rw c.place-p.ensures
