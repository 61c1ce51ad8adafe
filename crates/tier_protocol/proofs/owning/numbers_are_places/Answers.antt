use Rattle.tier_protocol.proofs.Numbers.{numbers_are_places}
use Rattle.tier_protocol.proofs.owning.numbers_are_places.Goals as goal

pub returns : goal.returns
returns c = numbers_are_places
