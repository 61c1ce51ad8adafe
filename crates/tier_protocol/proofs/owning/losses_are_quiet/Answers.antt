use Rattle.tier_protocol.proofs.Owners.{losses_quiet}
use Rattle.tier_protocol.proofs.owning.losses_are_quiet.Goals as goal

pub returns : goal.returns
returns c = losses_quiet
