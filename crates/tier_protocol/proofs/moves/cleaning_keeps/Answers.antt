use Rattle.tier_protocol.proofs.Steps.{cleaning}
use Rattle.tier_protocol.proofs.moves.cleaning_keeps.Goals as goal

pub returns : goal.returns
returns c = cleaning
