use Rattle.std.proofs.Common.{arith, length, ◌<◌}
use Rattle.bit_vec.proofs.Store.{place_turn, here}
use Rattle.bit_vec.proofs.Moved.{length_not, not_at}
use Rattle.bit_vec.proofs.logic.not.Goals as goal

pub loop-x-preserved : goal.loop-x-preserved
loop-x-preserved c =
    let h : c.loop-x.x-index < length c.args.out.now = omega arith in
    place_turn _ _ (length_not c.args.out.now) _ _ _ c.loop-x.invariant (omega arith) (rw (c.encode.ensures, c.not.ensures, c.decode-b.ensures, here _ _ _ _ _ c.loop-x.invariant (omega arith)) (not_at c.args.out.now c.loop-x.x-index h))
