use Rattle.tier_protocol.proofs.Steps.{finding}
use Rattle.tier_protocol.proofs.moves.finding_keeps.Goals as goal

pub returns : goal.returns
returns c = finding
