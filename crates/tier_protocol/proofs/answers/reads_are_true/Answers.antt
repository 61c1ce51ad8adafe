use Rattle.tier_protocol.proofs.Truth.{reads_true}
use Rattle.tier_protocol.proofs.answers.reads_are_true.Goals as goal

pub returns : goal.returns
returns c = reads_true
