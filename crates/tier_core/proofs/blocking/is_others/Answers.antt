use Rattle.tier_core.proofs.Blocked.{others_tested}
use Rattle.tier_core.proofs.blocking.is_others.Goals as goal

pub returns-in-Some : goal.returns-in-Some
returns-in-Some c = others_tested c.args.call c.args.opid c.args.calls.now.calls.flown c.in-Some.flown.now c.in-Some.ensures
