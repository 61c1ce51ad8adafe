use Rattle.tier_join.proofs.Groups.{readings_hold}
use Rattle.tier_join.proofs.general.readings_hold.Goals as goal

pub returns : goal.returns
returns c = readings_hold
