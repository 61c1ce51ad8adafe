use Rattle.tier_join.proofs.BaseSteps.{answering_promises}
use Rattle.tier_join.proofs.base.answering_promises.Goals as goal

pub returns : goal.returns
returns c = answering_promises
