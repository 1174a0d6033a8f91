use Rattle.live_bytes.specs.Bytes.{inside}
use Rattle.live_bytes.proofs.Bits.{added}
use Rattle.live_bytes.proofs.LiveBytes.add.Goals as goal

pub returns : goal.returns
returns c = added c.args.self.set c.bytes.result (inside c.args.var) c.bytes.ensures
