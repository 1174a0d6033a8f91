use Rattle.std.proofs.Common.{◌∙◌}
use Rattle.pcode.proofs.Ids.{has_id_any}
use Rattle.pcode.proofs.block.has_id.Goals as goal

pub returns : goal.returns
returns c = c.contains.ensures.value ∙ has_id_any c.args.ids.now c.args.id
