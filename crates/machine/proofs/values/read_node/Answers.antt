use Rattle.std.proofs.Common.{arith}
use Rattle.vars.specs.Vars.{held_ids}
use Rattle.vars.proofs.Rows.{row_below}
use Rattle.machine.proofs.values.read_node.Goals as goal

pub read-requires : goal.read-requires
read-requires c = let b = row_below (held_ids c.args.vars.now) c.args.v.id c.requires.named in
    (omega (arith, c.requires.room), omega (arith, c.requires.inside))
