use Rattle.tier_protocol.proofs.Steps.{raising}
use Rattle.tier_protocol.proofs.moves.raising_keeps.Goals as goal

pub returns : goal.returns
returns c = raising
