use Rattle.tier_serve.proofs.InstallSteps.{serving_installs}
use Rattle.tier_serve.proofs.installs.serving_installs.Goals as goal

pub returns : goal.returns
returns c = serving_installs
