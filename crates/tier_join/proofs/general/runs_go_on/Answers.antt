use Rattle.tier_join.proofs.Groups.{runs_go_on}
use Rattle.tier_join.proofs.general.runs_go_on.Goals as goal

pub returns : goal.returns
returns c = runs_go_on
