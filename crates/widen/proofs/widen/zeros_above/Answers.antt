use Rattle.widen.proofs.Sizes.{zeros_slice}
use Rattle.widen.proofs.widen.zeros_above.Goals as goal

pub returns : goal.returns
returns c = zeros_slice c.args.store.now c.args.p c.known_trailing_zeros.result c.requires.inside c.known_trailing_zeros.ensures
