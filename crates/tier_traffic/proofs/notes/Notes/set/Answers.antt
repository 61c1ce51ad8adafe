use Rattle.std.proofs.Common.{ap, subst, sym, ◌∙◌}
use Rattle.std.specs.Map.{values_of}
use Rattle.tier_traffic.specs.Waits.{noting}
use Rattle.tier_traffic.proofs.Waiting.{AreOfCalls, either_outcome, noted_put, of_calls_put, on_ok}
use Rattle.tier_traffic.proofs.notes.Notes.set.Goals as goal

pub invariant_of-self : goal.invariant_of-self
invariant_of-self c = (
  c.put.ensures.ordered,
  either_outcome c.put.result
      (λ is. subst AreOfCalls (sym is)
      (of_calls_put c.args.noted c.self.inside.inner.entries c.self.invariant.1))
      (λ is. subst AreOfCalls (sym is) c.self.invariant.1) c.put.ensures.ok c.put.ensures.err,
)

pub returns-clause-ok : goal.returns-clause-ok
returns-clause-ok c =
    on_ok c.put.result
    (λ is. ap values_of is
    ∙ noted_put c.args.noted c.self.inside.inner.entries c.self.invariant.1
    ∙ ap (noting c.args.noted) c.self.view_is) c.put.ensures.ok
