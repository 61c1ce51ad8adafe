use Rattle.tier_join.proofs.BaseSteps.{putting_promises}
use Rattle.tier_join.proofs.base.putting_promises.Goals as goal

pub returns : goal.returns
returns c = putting_promises
