use Rattle.std.proofs.Common.{sym, ◌∙◌}
use Rattle.text_replay.proofs.Answers.{block_answered, told, checked_ok, checked_refused}
use Rattle.text_replay.proofs.cases.checked.Goals as goal

pub returns-in-Ok : goal.returns-in-Ok
returns-in-Ok c = let a = c.args in
    let e = sym c.check.ensures ∙ c.in-Ok.is in
    told (checked_ok a.limits a.block.now e) (block_answered a.limits a.block.now c.print.ensures c.unwrap_or.ensures c.requires e)

pub returns-in-Err : goal.returns-in-Err
returns-in-Err c = let a = c.args in told (checked_refused a.limits a.block.now _ (sym c.check.ensures ∙ c.in-Err.is)) c.refused.ensures
