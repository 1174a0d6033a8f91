use Rattle.live_bytes.specs.Bytes.{inside}
use Rattle.live_bytes.proofs.Bits.{shared}
use Rattle.live_bytes.proofs.Runs.{some_shared}
use Rattle.live_bytes.proofs.LiveBytes.any_set.Goals as goal

pub returns : goal.returns
returns c = some_shared c.args.var c.args.self.set _ (shared c.args.self.set c.bytes.result (inside c.args.var) c.bytes.ensures)
