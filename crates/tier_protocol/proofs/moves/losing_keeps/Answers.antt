use Rattle.tier_protocol.proofs.Steps.{losing}
use Rattle.tier_protocol.proofs.moves.losing_keeps.Goals as goal

pub returns : goal.returns
returns c = losing
