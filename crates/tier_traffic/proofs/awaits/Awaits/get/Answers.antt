use Rattle.std.proofs.Common.{ap, ◌∙◌}
use Rattle.tier_traffic.specs.Waits.{awaited_of}
use Rattle.tier_traffic.proofs.Waiting.{awaited_found}
use Rattle.tier_traffic.proofs.awaits.Awaits.get.Goals as goal

pub returns : goal.returns
returns c =
    c.copied.ensures ∙ c.get.ensures.value ∙ awaited_found c.args.call c.self.inside.inner.entries
    ∙ ap (λ l. awaited_of l c.args.call) c.self.view_is
