use Rattle.tier_protocol.proofs.Steps.{acting}
use Rattle.tier_protocol.proofs.moves.acting_keeps.Goals as goal

pub returns : goal.returns
returns c = acting
