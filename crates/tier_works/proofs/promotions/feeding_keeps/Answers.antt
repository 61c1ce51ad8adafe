use Rattle.tier_works.proofs.PromotionSteps.{feeding_keeps}
use Rattle.tier_works.proofs.promotions.feeding_keeps.Goals as goal

pub returns : goal.returns
returns c = feeding_keeps
