use Rattle.tier_protocol.proofs.Truth.{acted_spent}
use Rattle.tier_protocol.proofs.answers.acted_is_spent.Goals as goal

pub returns : goal.returns
returns c = acted_spent
