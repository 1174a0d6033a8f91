use Rattle.std.proofs.Common.{ℕ, sym, ap, ◌∙◌, drop}
use Rattle.fields.specs.Parts.{tail_of}
use Rattle.fields.proofs.Parts.{rest_zero, rest_more, upward, from_start}
use Rattle.fields.proofs.part.part.Goals as goal

pub loop-i-init : goal.loop-i-init
loop-i-init c = sym (rest_zero c.args.b _)

pub loop-i-preserved : goal.loop-i-preserved
loop-i-preserved c = let a = c.args in
    let s = c.loop-i.s.now in
    upward s c.start-a.result ∙ ap (λ (n : ℕ). drop n s) c.start-a.ensures ∙ from_start a.b s ∙ ap (tail_of a.b) c.loop-i.invariant ∙ sym (rest_more a.b a.whole.now c.loop-i.i)
