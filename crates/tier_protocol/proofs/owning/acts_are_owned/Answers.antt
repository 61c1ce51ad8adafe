use Rattle.tier_protocol.proofs.Owners.{acts_owned}
use Rattle.tier_protocol.proofs.owning.acts_are_owned.Goals as goal

pub returns : goal.returns
returns c = acts_owned
