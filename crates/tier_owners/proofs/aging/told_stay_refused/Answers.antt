use Rattle.tier_owners.proofs.Lasting.{told_stay_refused}
use Rattle.tier_owners.proofs.aging.told_stay_refused.Goals as goal

pub returns : goal.returns
returns c = told_stay_refused
