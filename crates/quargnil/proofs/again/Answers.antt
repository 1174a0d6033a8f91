use Rattle.std.proofs.Common.{sym, ◌∙◌}
use Rattle.quargnil.proofs.Codes.{again_is}
use Rattle.quargnil.proofs.again.Goals as goal

pub loop-preserved : goal.loop-preserved
loop-preserved c = c.count-last.ensures ∙ sym (again_is _ _)
