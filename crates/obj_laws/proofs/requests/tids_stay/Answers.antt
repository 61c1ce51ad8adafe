use Rattle.obj_laws.proofs.Requesting.{tids_stay}
use Rattle.obj_laws.proofs.requests.tids_stay.Goals as goal

pub returns : goal.returns
returns c = tids_stay c.args._name.now c.args._client
