use Rattle.obj_laws.proofs.Requesting.{act_lowers_none}
use Rattle.obj_laws.proofs.requests.act_lowers_no_tid.Goals as goal

pub returns : goal.returns
returns c = act_lowers_none c.args._state.now c.args._req.now
