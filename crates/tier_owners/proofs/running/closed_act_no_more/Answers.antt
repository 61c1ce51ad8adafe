use Rattle.tier_owners.proofs.Histories.{closed_act_no_more}
use Rattle.tier_owners.proofs.running.closed_act_no_more.Goals as goal

pub returns : goal.returns
returns c = closed_act_no_more
