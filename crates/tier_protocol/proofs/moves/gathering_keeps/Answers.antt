use Rattle.tier_protocol.proofs.Steps.{gathering}
use Rattle.tier_protocol.proofs.moves.gathering_keeps.Goals as goal

pub returns : goal.returns
returns c = gathering
