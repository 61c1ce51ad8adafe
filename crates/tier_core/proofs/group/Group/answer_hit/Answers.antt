use Rattle.std.proofs.Common.{subst, sym}
use Rattle.tier_join.specs.Promises.{with_req}
use Rattle.tier_view.specs.Whole.{IsWhole}
use Rattle.tier_view.proofs.Serving.{actless_keeps}
use Rattle.tier_core.specs.Serves.{Answers}
use Rattle.tier_core.proofs.ServedHere.{answers_as, answers_step}
use Rattle.tier_core.proofs.group.Group.answer_hit.Goals as goal

pub returns : goal.returns
returns g c =
    let v = c.args.self.now in
    let w = c.answer_unacted.new.self in
    let whole : IsWhole v = subst IsWhole c.self.view_is c.self.invariant.whole in
    let e = c.answer_unacted.ensures in
    record {
      answered = subst (Answers c.args.turn c.args.answer v w) (sym c.as_outcome.ensures) (answers_as c.args.turn c.args.answer v w c.answer_unacted.result e.ended e.refused);
      step = actless_keeps (with_req c.args.req.now) v w (answers_step v w c.answer_unacted.result whole c.requires.hit.settled e.step e.refused);
    }
