use Rattle.tier_view.proofs.Beginning.{sending_writes_keeps}
use Rattle.tier_view.proofs.slice.sending_writes_keeps.Goals as goal

pub returns : goal.returns
returns c = sending_writes_keeps
