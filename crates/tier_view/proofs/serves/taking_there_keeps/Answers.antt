use Rattle.tier_view.proofs.Serving.{taking_there_keeps}
use Rattle.tier_view.proofs.serves.taking_there_keeps.Goals as goal

pub returns : goal.returns
returns c = taking_there_keeps
