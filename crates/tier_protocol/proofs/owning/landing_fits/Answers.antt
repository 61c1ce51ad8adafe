use Rattle.tier_protocol.proofs.Owners.{landing_fits}
use Rattle.tier_protocol.proofs.owning.landing_fits.Goals as goal

pub returns : goal.returns
returns c = landing_fits
