use Rattle.std.proofs.Common.{◌<◌, length, sym, ltb-true, arith}
use Rattle.bit_vec.proofs.Moved.{truth_set}
use Rattle.bit_vec.proofs.moves.set_bool.Goals as goal

pub returns-in-Some : goal.returns-in-Some
returns-in-Some c =
    let h : 0 < length c.args.out.now = omega (arith, c.fill.auto, ltb-true 0 (length c.fill.new.out) (sym c.in-Some.ensures.item.0)) in
    rw (c.fill.ensures, c.encode.ensures) (truth_set (length c.args.out.now) c.args.bit h)
