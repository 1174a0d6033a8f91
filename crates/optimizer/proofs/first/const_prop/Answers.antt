use Rattle.std.proofs.Common.{sym, ◌∙◌, ap}
use Rattle.vars.specs.declared.Naming.{Naming}
use Rattle.optimizer.proofs.Standing.{standing}
use Rattle.optimizer.proofs.first.const_prop.Goals as goal

pub const_prop-requires : goal.const_prop-requires
const_prop-requires c =
    standing c.args.block.now c.held-stmts.result.now c.named.result.vars c.held-stmts.ensures (sym c.check.ensures ∙ c.in_ok-check.was)
    (ap (λ (n : Naming). n.vars) c.named.ensures)
