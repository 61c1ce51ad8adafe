use Rattle.tier_owners.proofs.Lasting.{old_stay_refused}
use Rattle.tier_owners.proofs.aging.old_stay_refused.Goals as goal

pub returns : goal.returns
returns c = old_stay_refused
