use Rattle.std.proofs.Common.{sym, subst}
use Rattle.tier_node.proofs.Turns.{may_be_told}
use Rattle.tier_node.specs.Keeping.{IsForAll}
use Rattle.tier_node.proofs.keeping.fail_call.Goals as goal

pub tell_call-requires-clause-may : goal.tell_call-requires-clause-may
tell_call-requires-clause-may g c =
    may_be_told c.args.g.now c.args.turn c.in-Some.answer c.requires.turn
    (subst IsForAll (sym c.in-Some.ensures) c.requires.kind)
