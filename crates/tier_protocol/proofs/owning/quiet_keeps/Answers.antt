use Rattle.tier_protocol.proofs.Owners.{quiet_keeps}
use Rattle.tier_protocol.proofs.owning.quiet_keeps.Goals as goal

pub returns : goal.returns
returns c = quiet_keeps
