use Rattle.tier_view.proofs.Beginning.{beginning_writes_keeps}
use Rattle.tier_view.proofs.slice.beginning_writes_keeps.Goals as goal

pub returns : goal.returns
returns c = beginning_writes_keeps
