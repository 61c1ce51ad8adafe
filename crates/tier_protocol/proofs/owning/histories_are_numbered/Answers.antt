use Rattle.tier_protocol.proofs.Numbers.{histories_are_numbered}
use Rattle.tier_protocol.proofs.owning.histories_are_numbered.Goals as goal

pub returns : goal.returns
returns c = histories_are_numbered
