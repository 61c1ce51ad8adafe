use Rattle.tier_serve.proofs.Agreeing.{reading_leaves}
use Rattle.tier_serve.proofs.reading_leaves.Goals as goal

pub returns : goal.returns
returns c = reading_leaves
