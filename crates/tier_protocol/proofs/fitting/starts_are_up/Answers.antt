use Rattle.tier_protocol.proofs.Fits.{starts_up}
use Rattle.tier_protocol.proofs.fitting.starts_are_up.Goals as goal

pub returns : goal.returns
returns c = starts_up
