use Rattle.tier_protocol.proofs.Steps.{landing}
use Rattle.tier_protocol.proofs.moves.landing_keeps.Goals as goal

pub returns : goal.returns
returns c = landing
