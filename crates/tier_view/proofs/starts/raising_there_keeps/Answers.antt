use Rattle.tier_view.proofs.StartingRaises.{raising_there_keeps}
use Rattle.tier_view.proofs.starts.raising_there_keeps.Goals as goal

pub returns : goal.returns
returns c = raising_there_keeps
