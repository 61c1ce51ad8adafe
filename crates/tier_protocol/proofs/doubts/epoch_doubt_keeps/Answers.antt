use Rattle.tier_protocol.proofs.Worlds.{epoch_doubt_keeps}
use Rattle.tier_protocol.proofs.doubts.epoch_doubt_keeps.Goals as goal

pub returns : goal.returns
returns c = epoch_doubt_keeps
