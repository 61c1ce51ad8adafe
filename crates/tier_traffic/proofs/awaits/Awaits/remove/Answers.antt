use Rattle.std.proofs.Common.{ap, map, ◌∙◌}
use Rattle.tier_view.specs.Changes.{unawaited}
use Rattle.tier_traffic.proofs.Waiting.{awaited_in, awaited_taken}
use Rattle.tier_traffic.proofs.awaits.Awaits.remove.Goals as goal

pub returns : goal.returns
returns c =
    ap (map awaited_in) c.remove.ensures.entries
    ∙ awaited_taken c.args.call c.self.inside.inner.entries c.self.invariant
    ∙ ap (unawaited c.args.call) c.self.view_is
