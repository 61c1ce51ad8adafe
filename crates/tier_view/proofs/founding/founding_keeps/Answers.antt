use Rattle.tier_view.proofs.FoundingGroups.{founding_keeps}
use Rattle.tier_view.proofs.founding.founding_keeps.Goals as goal

pub returns : goal.returns
returns c = founding_keeps
