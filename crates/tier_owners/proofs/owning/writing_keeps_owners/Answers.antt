use Rattle.tier_owners.proofs.Sending.{writing_owned}
use Rattle.tier_owners.proofs.owning.writing_keeps_owners.Goals as goal

pub returns : goal.returns
returns c = writing_owned
