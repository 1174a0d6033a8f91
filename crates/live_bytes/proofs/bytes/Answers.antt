use Rattle.std.proofs.Common.{◌≤◌, min, arith, ◌≡◌, ◌∙◌, sym}
use lib.Pow.{pow_mono}
use Rattle.live_bytes.specs.Bytes.{end_of}
use Rattle.live_bytes.proofs.Bits.{power, run_bytes}
use Rattle.live_bytes.proofs.Runs.{end_small, inside_run}
use Rattle.live_bytes.proofs.bytes.Goals as goal

pub overflow_sub-result : goal.overflow_sub-result
overflow_sub-result c = let e : c.end_byte-end.result ≤ 16 = rw c.end_byte-end.ensures (end_small c.args.var) in
    rw (power c.end_byte-end.result (omega (arith, e)), power c.min-first.result (omega arith)) (pow_mono (omega arith))

pub returns : goal.returns
returns c = λ k. (let v = c.args.var in
    let s = end_small v in
    let e : c.end_byte-end.result ≡ end_of v = c.end_byte-end.ensures in
    let f : c.min-first.result ≡ min v.offset (end_of v) = omega arith in
    rw (e, f, power (end_of v) (omega (arith, s)), power (min v.offset (end_of v)) (omega arith)) (run_bytes v.offset (end_of v) k ∙ sym (inside_run v k)))
