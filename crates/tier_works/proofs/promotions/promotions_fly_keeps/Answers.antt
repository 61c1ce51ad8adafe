use Rattle.tier_works.proofs.PromotionSteps.{promotions_fly_keeps}
use Rattle.tier_works.proofs.promotions.promotions_fly_keeps.Goals as goal

pub returns : goal.returns
returns c = promotions_fly_keeps
