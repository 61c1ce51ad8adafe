use Rattle.tier_view.proofs.LocalFew.{sound_is_few}
use Rattle.tier_view.proofs.locals.sound_is_few.Goals as goal

pub returns : goal.returns
returns c = sound_is_few
