use Rattle.std.proofs.Common.{◌^◌, ◌∙◌, rules}
use Rattle.wide.specs.Value.{value_of}
use Rattle.concrete.proofs.Widths.{cut_cut, wraps}
use Rattle.concrete.proofs.number.sub_at.Goals as goal

pub returns : goal.returns
returns c = let w = c.args.w in
    c.cut.ensures ∙ wraps (2 ^ 128) (2 ^ w) (value_of c.sub.result) (value_of c.args.a) (value_of c.args.b) (λ n. cut_cut n w (search rules)) c.requires.1 c.sub.ensures
