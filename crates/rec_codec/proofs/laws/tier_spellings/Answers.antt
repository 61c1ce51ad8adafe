use Rattle.rec_codec.proofs.TierLaws.{tiers_apart}
use Rattle.rec_codec.proofs.laws.tier_spellings.Goals as goal

pub returns : goal.returns
returns c = tiers_apart
