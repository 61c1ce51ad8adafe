use Rattle.tier_owners.proofs.Closing.{adopters_close}
use Rattle.tier_owners.proofs.owning.adopters_may_close.Goals as goal

pub returns : goal.returns
returns c = adopters_close
