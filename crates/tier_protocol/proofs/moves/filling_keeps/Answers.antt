use Rattle.tier_protocol.proofs.Delivers.{filling}
use Rattle.tier_protocol.proofs.moves.filling_keeps.Goals as goal

pub returns : goal.returns
returns c = filling
