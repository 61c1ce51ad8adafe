use Rattle.tier_protocol.proofs.Climbs.{rises_join}
use Rattle.tier_protocol.proofs.rising.rises_join.Goals as goal

pub returns : goal.returns
returns c = rises_join
