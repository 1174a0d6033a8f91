use Rattle.std.proofs.Common.{sym, ◌∙◌}
use Rattle.text_replay.proofs.Answers.{told, read_ok, read_refused}
use Rattle.text_replay.proofs.cases.answer.Goals as goal

pub returns-in-Ok : goal.returns-in-Ok
returns-in-Ok c = let a = c.args in told (read_ok a.limits a.input.now _ (sym c.read.ensures ∙ c.in-Ok.is)) c.checked.ensures

pub returns-in-Err : goal.returns-in-Err
returns-in-Err c = let a = c.args in told (read_refused a.limits a.input.now _ (sym c.read.ensures ∙ c.in-Err.is)) c.refused.ensures
