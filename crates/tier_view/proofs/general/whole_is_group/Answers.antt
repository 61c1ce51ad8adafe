use Rattle.tier_view.proofs.Keeping.{whole_is_group}
use Rattle.tier_view.proofs.general.whole_is_group.Goals as goal

pub returns : goal.returns
returns c = whole_is_group
