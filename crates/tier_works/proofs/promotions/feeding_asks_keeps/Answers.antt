use Rattle.tier_works.proofs.PromotionSteps.{feeding_asks_keeps}
use Rattle.tier_works.proofs.promotions.feeding_asks_keeps.Goals as goal

pub returns : goal.returns
returns c = feeding_asks_keeps
