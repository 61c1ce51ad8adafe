use Rattle.tier_protocol.proofs.Worlds.{worlds_go_on}
use Rattle.tier_protocol.proofs.doubts.worlds_go_on.Goals as goal

pub returns : goal.returns
returns c = worlds_go_on
