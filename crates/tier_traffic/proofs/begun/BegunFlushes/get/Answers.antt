use Rattle.std.proofs.Common.{ap, ◌∙◌}
use Rattle.tier_traffic.specs.Waits.{begun_of}
use Rattle.tier_traffic.proofs.Waiting.{begun_found}
use Rattle.tier_traffic.proofs.begun.BegunFlushes.get.Goals as goal

pub returns : goal.returns
returns c =
    c.copied.ensures ∙ c.get.ensures.value
    ∙ begun_found c.args.name.now c.self.inside.inner.entries
    ∙ ap (λ l. begun_of l c.args.name.now) c.self.view_is
