use Rattle.std.proofs.Common.{ℕ, Option, ◌∙◌, ap, unwrap_or}
use Rattle.front.specs.declared.Pass.TheVariants.{Both}
use Rattle.front.proofs.Bounds.{answer_written}
use Rattle.block.proofs.answer.Goals as goal

pub returns : goal.returns
returns c =
    let w = answer_written Both c.args.input.now c.requires c.treat.ensures in
    (c.unwrap_or.ensures ∙ ap (λ (o : Option ℕ). unwrap_or o 0) w.0, w.1)
