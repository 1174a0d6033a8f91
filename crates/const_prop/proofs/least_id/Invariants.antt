use Rattle.std.proofs.Common.{◌≡◌, take}
use Rattle.const_prop.specs.Pass.{zero_var, all_ids, least_from}
use Rattle.const_prop.proofs.least_id.Given as goal

abbrev pub invariant-loop-s : goal.invariant-loop-s
invariant-loop-s l = l.least ≡ least_from zero_var (all_ids (take l.s-index l.stmts))
