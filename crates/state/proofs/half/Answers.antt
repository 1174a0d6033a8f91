use Rattle.state.proofs.Digits.{padded}
use Rattle.state.proofs.half.Goals as goal

pub returns : goal.returns
returns c = padded c.args.part.now c.copy_from_slice.new.self c.from_le_bytes.result c.from_le_bytes.ensures c.copy_from_slice.ensures.after c.requires
