use Rattle.tier_view.proofs.Keeping.{steps_keep}
use Rattle.tier_view.proofs.general.steps_keep.Goals as goal

pub returns : goal.returns
returns c = steps_keep
