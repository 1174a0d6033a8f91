use Rattle.std.proofs.Common.{◌≡◌, length, ap, arith}
use Rattle.pcode.specs.Names.{name_of}
use Rattle.pcode.proofs.Names.{length_fits}
use Rattle.print.proofs.Writes.{retold}
use Rattle.print.proofs.put.name.Goals as goal

pub copy-requires : goal.copy-requires
copy-requires c = let e : length c.name.result.now ≡ length (name_of c.args.code) = ap length c.name.ensures in omega (arith, e, length_fits c.args.code)

pub returns : goal.returns
returns c = let e : length c.name.result.now ≡ length (name_of c.args.code) = ap length c.name.ensures in
    retold c.name.ensures (omega (arith, e, length_fits c.args.code)) c.copy.ensures
