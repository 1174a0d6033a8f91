use Rattle.text_replay.proofs.Answers.{refusal_answered}
use Rattle.text_replay.proofs.cases.refused.Goals as goal

pub returns : goal.returns
returns c = refusal_answered c.args.why c.refusal.ensures c.unwrap_or.ensures c.requires
