use Rattle.tier_join.proofs.Groups.{groups_go_on}
use Rattle.tier_join.proofs.general.groups_go_on.Goals as goal

pub returns : goal.returns
returns c = groups_go_on
