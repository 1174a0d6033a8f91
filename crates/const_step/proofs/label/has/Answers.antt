use Rattle.std.proofs.Common.{◌∙◌}
use Rattle.const_step.proofs.Targets.{has_any}
use Rattle.const_step.proofs.label.has.Goals as goal

pub returns : goal.returns
returns c = c.contains.ensures.value ∙ has_any c.args.jumps.now c.args.want
