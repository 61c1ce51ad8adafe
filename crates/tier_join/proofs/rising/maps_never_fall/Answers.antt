use Rattle.tier_join.proofs.Ages.{maps_never_fall}
use Rattle.tier_join.proofs.rising.maps_never_fall.Goals as goal

pub returns : goal.returns
returns c = maps_never_fall
