use Rattle.tier_protocol.proofs.Truth.{writes_true}
use Rattle.tier_protocol.proofs.answers.writes_are_true.Goals as goal

pub returns : goal.returns
returns c = writes_true
