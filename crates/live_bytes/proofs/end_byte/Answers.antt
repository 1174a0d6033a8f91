use Rattle.std.proofs.Common.{◌+◌, arith, ltb, ltb-true, ltb-false}
use Rattle.vars.proofs.Rows.{ways}
use Rattle.live_bytes.proofs.end_byte.Goals as goal

pub returns : goal.returns
returns c = let v = c.args.var in
    ways (ltb (v.offset + v.size) 16) (λ t. let h = ltb-true (v.offset + v.size) 16 t in rw t (omega arith)) (λ t. let h = ltb-false (v.offset + v.size) 16 t in rw t (omega arith))
