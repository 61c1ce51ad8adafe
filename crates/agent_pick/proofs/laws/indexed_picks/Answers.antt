use Rattle.agent_pick.proofs.Indexed.{indexed_picks}
use Rattle.agent_pick.proofs.laws.indexed_picks.Goals as goal

pub returns : goal.returns
returns c = indexed_picks
