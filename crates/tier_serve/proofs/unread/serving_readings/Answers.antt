use Rattle.tier_serve.proofs.UnreadSteps.{serving_readings}
use Rattle.tier_serve.proofs.unread.serving_readings.Goals as goal

pub returns : goal.returns
returns c = serving_readings
