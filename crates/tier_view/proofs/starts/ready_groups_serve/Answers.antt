use Rattle.tier_view.proofs.StartingReady.{ready_groups_serve}
use Rattle.tier_view.proofs.starts.ready_groups_serve.Goals as goal

pub returns : goal.returns
returns c = ready_groups_serve
