use Rattle.std.proofs.Common.{arith}
use Rattle.live_bytes.specs.Bytes.{inside}
use Rattle.live_bytes.proofs.Bits.{left}
use Rattle.live_bytes.proofs.LiveBytes.subtract.Goals as goal

pub returns : goal.returns
returns c = left c.args.self.set c.bytes.result (inside c.args.var) c.bytes.ensures (omega arith) (omega arith)
