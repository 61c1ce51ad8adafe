use Rattle.tier_view.proofs.ServingOwners.{owners_may_act}
use Rattle.tier_view.proofs.serves.owners_may_act.Goals as goal

pub returns : goal.returns
returns c = owners_may_act
