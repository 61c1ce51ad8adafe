use Rattle.agent_pick.proofs.Ties.{busy_keeps}
use Rattle.agent_pick.proofs.laws.busy_keeps.Goals as goal

pub returns : goal.returns
returns c = busy_keeps
