use Rattle.tier_works.proofs.PromotionSteps.{removing_promotions_keeps}
use Rattle.tier_works.proofs.promotions.removing_promotions_keeps.Goals as goal

pub returns : goal.returns
returns c = removing_promotions_keeps
