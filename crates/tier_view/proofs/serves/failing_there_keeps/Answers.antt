use Rattle.tier_view.proofs.ServingFails.{failing_there_keeps}
use Rattle.tier_view.proofs.serves.failing_there_keeps.Goals as goal

pub returns : goal.returns
returns c = failing_there_keeps
