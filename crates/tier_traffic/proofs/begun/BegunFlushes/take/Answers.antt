use Rattle.std.proofs.Common.{ap, map, ◌∙◌}
use Rattle.tier_traffic.specs.Waits.{begun_of, without_begun}
use Rattle.tier_traffic.proofs.Waiting.{begun_found, begun_in, begun_taken}
use Rattle.tier_traffic.proofs.begun.BegunFlushes.take.Goals as goal

pub returns-clause-before : goal.returns-clause-before
returns-clause-before c =
    c.remove.ensures.value ∙ begun_found c.args.name.now c.self.inside.inner.entries
    ∙ ap (λ l. begun_of l c.args.name.now) c.self.view_is

pub returns-clause-taken : goal.returns-clause-taken
returns-clause-taken c =
    ap (map begun_in) c.remove.ensures.entries
    ∙ begun_taken c.args.name.now c.self.inside.inner.entries c.self.invariant
    ∙ ap (without_begun c.args.name.now) c.self.view_is
