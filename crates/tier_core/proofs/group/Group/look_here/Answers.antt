use Rattle.std.proofs.Common.{◌≡◌, List, length, ap, subst, sym, ◌∙◌}
use Rattle.tier_chron.specs.declared.entries.Act.{Act}
use Rattle.obj_ops.specs.Acts.{look}
use Rattle.obj_ops.specs.declared.reading.Looked.{Looked}
use Rattle.tier_chron.specs.declared.entries.Logged.{Logged}
use Rattle.tier_view.specs.Answered.{looked_answer}
use Rattle.tier_view.specs.Views.{GroupView}
use Rattle.tier_view.specs.Whole.{IsWhole}
use Rattle.tier_core.specs.Ends.{MayAnswer}
use Rattle.tier_core.proofs.LookedHere.{looked_may, logged_is}
use Rattle.tier_core.proofs.group.Group.look_here.Goals as goal

pub answer_call-requires : goal.answer_call-requires
answer_call-requires g c =
    let v = c.args.self.now in
    let whole : IsWhole v = subst IsWhole c.self.view_is c.self.invariant.whole in
    let count : length c.acts.result.now ≡ length v.log.acts =
    ap {A = List Act} length (c.acts.ensures ∙ ap (λ (x : GroupView). x.log.acts) c.self.view_is) in
    subst (MayAnswer v) (sym (logged_is v c.args.turn c.args.vector.now c.args.held.now (length c.acts.result.now) c.looked_answer.result count (c.looked_answer.ensures ∙ ap looked_answer c.in_ok-looked.ensures)))
    (looked_may v c.args.turn c.args.client c.args.name.now c.args.vector.now c.args.held.now whole c.requires.settled c.requires.turn c.requires.has)
