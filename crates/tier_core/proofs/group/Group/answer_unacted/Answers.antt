use Rattle.std.proofs.Common.{◌≡◌, List, length, ap, subst, sym, ◌∙◌}
use Rattle.tier_chron.specs.declared.entries.Act.{Act}
use Rattle.tier_view.specs.Views.{GroupView}
use Rattle.tier_view.specs.Whole.{IsWhole}
use Rattle.tier_core.specs.Ends.{MayAnswer}
use Rattle.tier_core.proofs.Unacted.{answered_is, unacted_may}
use Rattle.tier_core.proofs.group.Group.answer_unacted.Goals as goal

pub answer_call-requires : goal.answer_call-requires
answer_call-requires g c =
    let v = c.args.self.now in
    let whole : IsWhole v = subst IsWhole c.self.view_is c.self.invariant.whole in
    let count : length c.acts.result.now ≡ length v.log.acts =
    ap {A = List Act} length (c.acts.ensures ∙ ap (λ (x : GroupView). x.log.acts) c.self.view_is) in
    subst (MayAnswer v) (sym (answered_is v c.args.turn (length c.acts.result.now) c.args.answer count))
    (unacted_may v c.args.turn c.args.req.now c.args.held.now c.args.answer whole c.requires.hit c.requires.unacted)
