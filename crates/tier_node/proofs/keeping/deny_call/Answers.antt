use Rattle.std.proofs.Common.{refl}
use Rattle.obj_model.specs.declared.change.Pool.TheVariants.{Base}
use Rattle.tier_chron.specs.declared.answer.Answer.TheVariants as answer
use Rattle.tier_node.proofs.Turns.{may_be_told}
use Rattle.tier_node.proofs.keeping.deny_call.Goals as goal

pub tell_call-requires-clause-may : goal.tell_call-requires-clause-may
tell_call-requires-clause-may g c =
    may_be_told c.args.g.now c.args.turn (answer.BadRecord Base c.in-Ok.name) c.requires refl
