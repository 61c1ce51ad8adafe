use Rattle.tier_protocol.proofs.Fits.{writes_land}
use Rattle.tier_protocol.proofs.fitting.writes_land.Goals as goal

pub returns : goal.returns
returns c = writes_land
