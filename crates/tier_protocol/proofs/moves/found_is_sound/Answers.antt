use Rattle.tier_protocol.proofs.Steps.{found_sound}
use Rattle.tier_protocol.proofs.moves.found_is_sound.Goals as goal

pub returns : goal.returns
returns c = found_sound
