use Rattle.tier_protocol.proofs.Truth.{acts_fresh}
use Rattle.tier_protocol.proofs.answers.acts_are_fresh.Goals as goal

pub returns : goal.returns
returns c = acts_fresh
