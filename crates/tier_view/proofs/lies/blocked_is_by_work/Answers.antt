use Rattle.tier_view.proofs.Refusals.{blocked_is_by_work}
use Rattle.tier_view.proofs.lies.blocked_is_by_work.Goals as goal

pub returns : goal.returns
returns c = blocked_is_by_work
