use Rattle.tier_view.proofs.AnsweringEnds.{ending_calls_keeps}
use Rattle.tier_view.proofs.answers.ending_calls_keeps.Goals as goal

pub returns : goal.returns
returns c = ending_calls_keeps
