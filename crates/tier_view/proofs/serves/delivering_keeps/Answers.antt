use Rattle.tier_view.proofs.ServingAll.{delivering_keeps}
use Rattle.tier_view.proofs.serves.delivering_keeps.Goals as goal

pub returns : goal.returns
returns c = delivering_keeps
