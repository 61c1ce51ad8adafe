use Rattle.tier_owners.proofs.Quiets.{counting_keeps}
use Rattle.tier_owners.proofs.owning.counting_keeps_owners.Goals as goal

pub returns : goal.returns
returns c = counting_keeps
