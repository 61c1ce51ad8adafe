use Rattle.tier_serve.proofs.Agreeing.{bases_agree}
use Rattle.tier_serve.proofs.bases_agree.Goals as goal

pub returns : goal.returns
returns c = bases_agree
