use Rattle.tier_protocol.proofs.Owners.{numbers_stay}
use Rattle.tier_protocol.proofs.owning.numbers_stay.Goals as goal

pub returns : goal.returns
returns c = numbers_stay
