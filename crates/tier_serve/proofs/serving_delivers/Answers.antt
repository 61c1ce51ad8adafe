use Rattle.tier_serve.proofs.Bridging.{serving_delivers}
use Rattle.tier_serve.proofs.serving_delivers.Goals as goal

pub returns : goal.returns
returns c = serving_delivers
