use Rattle.std.proofs.Common.{subst, sym}
use Rattle.obj_ops.specs.Acts.{look}
use Rattle.tier_chron.specs.declared.asked.Asked.TheVariants.{Read}
use Rattle.tier_view.specs.Answered.{looked_answer}
use Rattle.tier_view.specs.Views.{GroupView}
use Rattle.std.specs.List.{AllByRecursion}
use Rattle.tier_view.specs.declared.parts.Entry.{Entry}
use Rattle.tier_core.specs.Keeps.{MayBeAsked}
use Rattle.tier_view.specs.Whole.{IsWhole}
use Rattle.tier_core.specs.Serves.{Answers}
use Rattle.tier_core.proofs.ServedHere.{answers_as, answers_step, asked_lawful}
use Rattle.tier_core.proofs.group.Group.serve_read.Goals as goal

pub look_here-requires-clause-reads : goal.look_here-requires-clause-reads
look_here-requires-clause-reads g c =
    let v = c.args.self.now in
    asked_lawful v c.args.turn (Read c.args.client c.args.name.now c.args.vector.now) (subst (λ (x : GroupView). AllByRecursion (λ (e : Entry). MayBeAsked e.asked) x.calls.entries) c.self.view_is c.self.invariant.asked) c.requires.turn

pub returns : goal.returns
returns g c =
    let v = c.args.self.now in
    let w = c.look_here.new.self in
    let whole : IsWhole v = subst IsWhole c.self.view_is c.self.invariant.whole in
    let e = c.look_here.ensures in
    let x = looked_answer (look c.args.held.now.state c.args.vector.now) in
    record {
      served = subst (Answers c.args.turn x v w) (sym c.as_outcome.ensures) (answers_as c.args.turn x v w c.look_here.result e.ended e.refused);
      step = answers_step v w c.look_here.result whole c.requires.settled e.step e.refused;
    }
