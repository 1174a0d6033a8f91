use Rattle.state.specs.Bytes.{read_of}
use Rattle.state.proofs.read.Goals as goal

pub returns : goal.returns
unfolding read_of
returns c = c.number.ensures
