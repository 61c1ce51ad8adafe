use Rattle.tier_core.proofs.Taken.{tells_lacked}
use Rattle.tier_core.proofs.taking.is_lacked_of.Goals as goal

pub returns : goal.returns
returns c =
    tells_lacked c.args.history.now.log c.args.calls.now.calls.entries c.args.wires.now.traffic c.args.epoch c.args.number c.lacking.result c.is_some.result c.is_some.ensures c.lacking.ensures
