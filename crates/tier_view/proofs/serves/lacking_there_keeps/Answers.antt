use Rattle.tier_view.proofs.Serving.{lacking_there_keeps}
use Rattle.tier_view.proofs.serves.lacking_there_keeps.Goals as goal

pub returns : goal.returns
returns c = lacking_there_keeps
