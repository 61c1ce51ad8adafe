use Rattle.std.proofs.Common.{ap, ◌∙◌}
use Rattle.tier_traffic.specs.Waits.{noted_of}
use Rattle.tier_traffic.proofs.Waiting.{noted_found}
use Rattle.tier_traffic.proofs.notes.Notes.get.Goals as goal

pub returns : goal.returns
returns c =
    c.get.ensures.value
    ∙ noted_found c.args.call c.self.inside.inner.entries c.self.invariant.1
    ∙ ap (λ l. noted_of l c.args.call) c.self.view_is
