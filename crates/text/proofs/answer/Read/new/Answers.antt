use Rattle.text.specs.Reading.{empty_read}
use Rattle.text.proofs.answer.Read.new.Goals as goal

pub returns : goal.returns
unfolding empty_read
returns c = simp (c.new.ensures, c.none.ensures)
