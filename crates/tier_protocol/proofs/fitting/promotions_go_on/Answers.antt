use Rattle.tier_protocol.proofs.Fits.{promotions_go_on}
use Rattle.tier_protocol.proofs.fitting.promotions_go_on.Goals as goal

pub returns : goal.returns
returns c = promotions_go_on
