use Rattle.tier_view.proofs.Serving.{answering_there_keeps}
use Rattle.tier_view.proofs.serves.answering_there_keeps.Goals as goal

pub returns : goal.returns
returns c = answering_there_keeps
