use Rattle.std.proofs.Common.{rules}
use Rattle.block.proofs.Streams.{answered}
use Rattle.block.proofs.run.Goals as goal

pub returns : goal.returns
returns g c =
    let read = c.in_ok-n.ensures in
    answered _ _ _ _ c.show.result _ _ _ _ _ read.fits (search rules) read.bytes read.end (search rules) c.answer-k.ensures c.show.ensures
