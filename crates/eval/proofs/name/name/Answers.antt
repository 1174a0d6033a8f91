use Rattle.std.proofs.Common.{◌≡◌, ◌+◌, ◌<◌, length, arith}
use Rattle.bit_vec.proofs.Store.{place_turn, place_done, here}
use Rattle.eval.proofs.Laws.{length_names, name_at}
use Rattle.eval.proofs.name.name.Goals as goal

pub loop-i-preserved : goal.loop-i-preserved
loop-i-preserved c =
    let h : c.loop-i.i < length c.args.out.now = omega arith in
    let q : 0 + c.loop-i.i ≡ c.loop-i.i = omega arith in
    place_turn _ _ (length_names c.args.id 0 c.args.out.now) _ _ _ c.loop-i.invariant (omega arith) (rw (c.encode.ensures, c.name_bit-y.ensures, c.decode.ensures, here _ _ _ _ _ c.loop-i.invariant (omega arith)) (rw q at (name_at c.args.id c.args.out.now 0 c.loop-i.i h)))

pub returns : goal.returns
returns c = place_done _ _ (length_names c.args.id 0 c.args.out.now) _ _ c.loop-i.invariant (omega arith)
