use Rattle.agent_pick.proofs.Ties.{puts_keep}
use Rattle.agent_pick.proofs.laws.puts_keep.Goals as goal

pub returns : goal.returns
returns c = puts_keep
