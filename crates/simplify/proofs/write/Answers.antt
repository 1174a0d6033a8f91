use Rattle.std.proofs.Common.{arith, length-take-le}
use Rattle.const_eval.specs.State.{known_of}
use Rattle.simplify.proofs.Floors.{write_ready, write_size}
use Rattle.simplify.proofs.write.Goals as goal

pub settle-d-requires : goal.settle-d-requires
settle-d-requires c =
    let a = c.args in
    let s = known_of a.known.now in
    let r = write_ready a.vars.now a.o c.place-p.result s (known_of c.first_use.new.self) c.requires.0 c.requires.1 c.place-p.ensures c.first_use.ensures.after in
    (r.0, r.1, length-take-le _ a.out.now (omega (arith, c.requires.2, write_size a.vars.now a.o c.place-p.result _ c.requires.1 c.place-p.ensures)))
