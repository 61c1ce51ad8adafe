use Rattle.tier_join.proofs.Rests.{memory_promises}
use Rattle.tier_join.proofs.general.memory_promises.Goals as goal

pub returns : goal.returns
returns c = memory_promises
