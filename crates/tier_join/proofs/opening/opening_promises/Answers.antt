use Rattle.tier_join.proofs.Reopening.{opening_promises}
use Rattle.tier_join.proofs.opening.opening_promises.Goals as goal

pub returns : goal.returns
returns c = opening_promises
