use Rattle.tier_owners.proofs.Histories.{legal_act_once}
use Rattle.tier_owners.proofs.running.legal_act_once.Goals as goal

pub returns : goal.returns
returns c = legal_act_once
