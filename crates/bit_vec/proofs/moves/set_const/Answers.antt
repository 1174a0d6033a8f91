use Rattle.std.proofs.Common.{arith, length, ◌<◌}
use Rattle.bit_vec.proofs.Store.{place_turn, place_done}
use Rattle.bit_vec.proofs.Moved.{digits_at, length_number, halved}
use Rattle.bit_vec.proofs.moves.set_const.Goals as goal

pub loop-x-preserved : goal.loop-x-preserved
loop-x-preserved c =
    let h : c.loop-x.x-index < length c.args.out.now = omega arith in
    (place_turn _ _ (length_number _ c.args.value) _ _ _ c.loop-x.invariant.0 (omega arith) (rw (c.encode.ensures, c.lowest.ensures, c.loop-x.invariant.1) (digits_at _ c.args.value c.loop-x.x-index h)), halved _ _ _ c.loop-x.invariant.1)

pub returns : goal.returns
returns c = place_done _ _ (length_number _ c.args.value) _ _ c.loop-x.invariant.0 (omega arith)
