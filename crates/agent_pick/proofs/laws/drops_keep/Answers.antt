use Rattle.agent_pick.proofs.Ties.{drops_keep}
use Rattle.agent_pick.proofs.laws.drops_keep.Goals as goal

pub returns : goal.returns
returns c = drops_keep
