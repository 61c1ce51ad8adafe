use Rattle.tier_protocol.proofs.Steps.{sending}
use Rattle.tier_protocol.proofs.moves.sending_keeps.Goals as goal

pub returns : goal.returns
returns c = sending
