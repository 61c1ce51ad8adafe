use Rattle.tier_protocol.proofs.Steps.{promoting}
use Rattle.tier_protocol.proofs.moves.promoting_keeps.Goals as goal

pub returns : goal.returns
returns c = promoting
