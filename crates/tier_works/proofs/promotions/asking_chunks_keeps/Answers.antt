use Rattle.tier_works.proofs.PromotionSteps.{asking_chunks_keeps}
use Rattle.tier_works.proofs.promotions.asking_chunks_keeps.Goals as goal

pub returns : goal.returns
returns c = asking_chunks_keeps
