use Rattle.std.proofs.Common.{ℕ, ◌^◌, ap, ◌∙◌, ltb}
use Rattle.wide.specs.Value.{value_of}
use Rattle.concrete.proofs.Signs.{carries}
use Rattle.concrete.proofs.compare.carry.Goals as goal

pub returns : goal.returns
returns c = let x = c.args in
    c.less.ensures ∙ ap (λ (n : ℕ). ltb n (value_of x.a)) c.add_at.ensures ∙ carries (2 ^ x.w) (value_of x.a) (value_of x.b) c.requires.first c.requires.second
