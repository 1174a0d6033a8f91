use Rattle.std.proofs.Common.{◌≡◌, None, sym, ap, ◌∙◌}
use Rattle.bit_vec.specs.Lists.{value_of}
use Rattle.bit.specs.Bits.{bit_of}
use Rattle.bit_vec.proofs.Fold.{count_open}
use Rattle.bit_vec.proofs.known.count_ones.Goals as goal

pub returns-in_err-v : goal.returns-in_err-v
returns-in_err-v c =
    let v : value_of (bit_of c.in-Some.c.now) ≡ None = sym (c.value.ensures ∙ ap value_of c.decode.ensures) ∙ c.in_err-v.was in
    c.from_residual.ensures ∙ sym (count_open _ _ _ _ _ c.loop-c.invariant c.in-Some.ensures.steps v)
