use Rattle.std.proofs.Common.{ap, subst, sym, ◌∙◌}
use Rattle.std.specs.Map.{values_of}
use Rattle.tier_view.specs.Changes.{unnoted}
use Rattle.tier_traffic.proofs.Waiting.{AreOfCalls, noted_taken, of_calls_taken}
use Rattle.tier_traffic.proofs.notes.Notes.remove.Goals as goal

pub invariant_of-self : goal.invariant_of-self
invariant_of-self c = (
  c.take_out.ensures.ordered,
  subst AreOfCalls (sym c.take_out.ensures.taken)
      (of_calls_taken c.args.call c.self.inside.inner.entries c.self.invariant.1),
)

pub returns : goal.returns
returns c =
    ap values_of c.take_out.ensures.taken
    ∙ noted_taken c.args.call c.self.inside.inner.entries c.self.invariant.0 c.self.invariant.1
    ∙ ap (unnoted c.args.call) c.self.view_is
