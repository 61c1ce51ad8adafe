use Rattle.tier_protocol.proofs.Truth.{none_ahead}
use Rattle.tier_protocol.proofs.answers.none_is_ahead.Goals as goal

pub returns : goal.returns
returns c = none_ahead
