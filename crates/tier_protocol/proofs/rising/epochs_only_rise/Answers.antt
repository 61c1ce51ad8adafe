use Rattle.tier_protocol.proofs.Climbs.{epochs_only_rise}
use Rattle.tier_protocol.proofs.rising.epochs_only_rise.Goals as goal

pub returns : goal.returns
returns c = epochs_only_rise
