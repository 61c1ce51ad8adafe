use Rattle.tier_join.proofs.Groups.{steps_join}
use Rattle.tier_join.proofs.general.steps_join.Goals as goal

pub returns : goal.returns
returns c = steps_join
