use Rattle.obj_laws.proofs.Requesting.{past_kept}
use Rattle.obj_laws.proofs.requests.past_is_kept.Goals as goal

pub returns : goal.returns
returns c = past_kept c.args._state.now c.args._req.now
