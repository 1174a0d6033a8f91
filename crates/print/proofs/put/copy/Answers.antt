use Rattle.std.proofs.Common.{refl, sym, ap, ◌∙◌, arith, take_all, length-set}
use Rattle.print.specs.Texts.{written}
use Rattle.print.proofs.Writes.{written_none, row_more}
use Rattle.print.proofs.put.copy.Goals as goal

pub loop-i-init : goal.loop-i-init
loop-i-init c = (refl, sym (written_none _ c.args.at))

pub loop-i-preserved : goal.loop-i-preserved
loop-i-preserved c =
    let a = c.args in
    let l = c.loop-i in
    (simp length-set l.invariant.0, rw l.invariant.1 (row_more a.out.now a.at a.s.now l.i (omega arith) (omega arith)))

pub returns : goal.returns
returns c =
    let a = c.args in
    let l = c.loop-i in
    record { place = refl; bytes = l.invariant.1 ∙ ap (written a.out.now a.at) (take_all l.i a.s.now (omega arith)); kept = l.invariant.0; width = omega arith }
