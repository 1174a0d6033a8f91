use Rattle.std.proofs.Common.{sym, ◌∙◌}
use Rattle.optimizer.proofs.Accepted.{ready}
use Rattle.optimizer.proofs.second.dead_store_elimination.Goals as goal

pub remove_dead_code-requires : goal.remove_dead_code-requires
remove_dead_code-requires c = ready c.args.block.now (sym c.check.ensures ∙ c.in_ok-check.was)
