use Rattle.tier_owners.proofs.Histories.{history_grows}
use Rattle.tier_owners.proofs.running.history_grows.Goals as goal

pub returns : goal.returns
returns c = history_grows
