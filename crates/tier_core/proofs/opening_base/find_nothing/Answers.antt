use Rattle.tier_core.proofs.LookedThere.{nothing_held}
use Rattle.tier_core.proofs.opening_base.find_nothing.Goals as goal

pub returns-in-Err-clause-found : goal.returns-in-Err-clause-found
returns-in-Err-clause-found g c =
    λ p elsewhere. nothing_held p c.args.kept c.args.base.now c.hold_epoch.new.base c.in-Err.fault elsewhere c.requires.live c.in-Err.ensures.was_sound c.in-Err.ensures.held
