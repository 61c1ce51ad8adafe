use Rattle.tier_protocol.proofs.Fits.{flushes_clean}
use Rattle.tier_protocol.proofs.fitting.flushes_clean.Goals as goal

pub returns : goal.returns
returns c = flushes_clean
