use Rattle.tier_join.proofs.BaseSteps.{fencing_promises}
use Rattle.tier_join.proofs.base.fencing_promises.Goals as goal

pub returns : goal.returns
returns c = fencing_promises
