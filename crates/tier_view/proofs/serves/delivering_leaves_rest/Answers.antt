use Rattle.tier_view.proofs.ServingRest.{delivering_leaves_rest}
use Rattle.tier_view.proofs.serves.delivering_leaves_rest.Goals as goal

pub returns : goal.returns
returns c = delivering_leaves_rest
