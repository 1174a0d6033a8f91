use Rattle.std.proofs.Common.{ℕ, List, take, ap, ◌∙◌, arith}
use Rattle.pcode.specs.Names.{eq_bytes}
use Rattle.record.proofs.Names.{bytes_are}
use Rattle.text_replay.proofs.Answers.{page_start}
use Rattle.text_replay.proofs.cases.agrees.Goals as goal

pub slice_bounds-eq-end : goal.slice_bounds-eq-end
slice_bounds-eq-end c = omega (arith, c.answer-n.ensures.count, c.answer-n.ensures.kept, c.answer-n.ensures.fits)

pub returns : goal.returns
returns c =
    c.eq.ensures ∙ bytes_are (take c.answer-n.result c.answer-n.new.out) c.args.want.now
    ∙ ap (λ (l : List ℕ). eq_bytes l c.args.want.now) (page_start c.answer-n.ensures)
