use Rattle.tier_owners.proofs.Faithful.{taken_is_lost}
use Rattle.tier_owners.proofs.running.taken_is_lost.Goals as goal

pub returns : goal.returns
returns c = taken_is_lost
