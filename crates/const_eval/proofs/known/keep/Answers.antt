use Rattle.std.proofs.Common.{◌<◌, length, arith, sym, ◌∙◌}
use Rattle.std.proofs.lemmas.List.{ext_get_or}
use Rattle.const_eval.specs.State.{keep_flags}
use Rattle.const_eval.proofs.Codes.{keep_length, keep_at}
use Rattle.const_eval.proofs.known.keep.Goals as goal

pub returns : goal.returns
returns c =
    let us = c.args.used.now in
    let ts = c.args.temp.now in
    ext_get_or 0 c.loop-i.used (keep_flags us ts) (c.loop-i.auto.used ∙ sym (keep_length us ts))
    (λ k h. let b : k < length us = omega arith in c.loop-i.invariant.0 k (omega arith) ∙ sym (keep_at us ts k c.requires b))
