use Rattle.tier_moves.proofs.FullModes.{followed_modes_tell}
use Rattle.tier_moves.proofs.laws.followed_modes_tell.Goals as goal

pub returns : goal.returns
returns c = followed_modes_tell
