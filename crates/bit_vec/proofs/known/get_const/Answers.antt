use Rattle.std.proofs.Common.{◌≡◌, Some, None, sym, ap, ◌∙◌, arith}
use Rattle.bit_vec.specs.Lists.{value_of}
use Rattle.bit.specs.Bits.{bit_of}
use Rattle.bit_vec.proofs.Fold.{const_open, const_short, value_le, room}
use Rattle.bit_vec.proofs.known.get_const.Goals as goal

pub returns-in_err-v : goal.returns-in_err-v
returns-in_err-v c =
    let v : value_of (bit_of c.in-Some.c.now) ≡ None = sym (c.value.ensures ∙ ap value_of c.decode.ensures) ∙ c.in_err-v.was in
    c.from_residual.ensures ∙ sym (const_short c.args.s.now c.if-s-gt64.false ∙ const_open _ _ _ _ _ c.loop-c.invariant c.in-Some.ensures.steps v)

pub overflow_mul-n : goal.overflow_mul-n
overflow_mul-n c = omega (arith, room _ _ _ _ _ c.loop-c.invariant c.in-Some.ensures.steps c.if-s-gt64.false)

pub overflow_add-n : goal.overflow_add-n
overflow_add-n c =
    let v : value_of (bit_of c.in-Some.c.now) ≡ Some c.in_ok-v.v = sym (c.value.ensures ∙ ap value_of c.decode.ensures) ∙ c.in_ok-v.was in
    omega (arith, room _ _ _ _ _ c.loop-c.invariant c.in-Some.ensures.steps c.if-s-gt64.false, value_le _ _ v)
