use Rattle.std.proofs.Common.{sym, ap, ◌∙◌}
use Rattle.tier_core.proofs.Resting.{nothing_quietly}
use Rattle.tier_node.proofs.StartFaults.{told_kind}
use Rattle.tier_node.proofs.Turns.{may_by}
use Rattle.tier_node.specs.Starting.{is_brief_in}
use Rattle.tier_node.proofs.starting.fail_call.Goals as goal

pub returns-then-is_untold_to-clause-step : goal.returns-then-is_untold_to-clause-step
returns-then-is_untold_to-clause-step g c = nothing_quietly c.args.g.now c.rest.ensures.whole

pub tell-requires-clause-may : goal.tell-requires-clause-may
tell-requires-clause-may g c =
    may_by c.args.g.now c.args.turn c.in-Some.answer c.requires.turn
    (told_kind c.requires.turn.entry.asked c.args.fault c.in-Some.answer c.args.brief
    (c.requires.brief ∙ ap is_brief_in c.requires.turn.is)
    (sym c.is_untold_to.ensures ∙ c.if-is_untold_to.false) c.in-Some.ensures)
