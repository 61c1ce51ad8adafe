use Rattle.std.proofs.Common.{refl, sym, ap, ◌∙◌}
use Rattle.obj_model.specs.declared.change.Pool.TheVariants.{Base}
use Rattle.tier_chron.specs.declared.answer.Answer.TheVariants as answer
use Rattle.tier_node.proofs.Faults.{lasting_call}
use Rattle.tier_node.proofs.Turns.{may_by}
use Rattle.tier_node.specs.Starting.{is_brief_in}
use Rattle.tier_node.proofs.keeping.lack_call.Goals as goal

pub tell_call-requires-clause-may : goal.tell_call-requires-clause-may
tell_call-requires-clause-may g c =
    may_by c.args.g.now c.args.turn (answer.NoSpace Base c.args.used c.args.need c.args.limit)
    c.requires.turn
    (lasting_call c.requires.turn.entry.asked
    (answer.NoSpace Base c.args.used c.args.need c.args.limit)
    (sym (c.is_brief_in.ensures ∙ ap is_brief_in (c.call.ensures ∙ c.requires.turn.is))
    ∙ c.if-is_brief_in.false) refl)
