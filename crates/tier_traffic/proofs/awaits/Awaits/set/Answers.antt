use Rattle.std.proofs.Common.{ap, map, ◌∙◌}
use Rattle.tier_traffic.specs.Waits.{awaiting}
use Rattle.tier_traffic.proofs.Waiting.{awaited_in, awaited_put}
use Rattle.tier_traffic.proofs.awaits.Awaits.set.Goals as goal

pub returns-clause-ok : goal.returns-clause-ok
returns-clause-ok c =
    ap (map awaited_in) c.in_ok-insert.ensures.entries
    ∙ awaited_put c.args.call c.args.message c.self.inside.inner.entries
    ∙ ap (awaiting c.args.call c.args.message) c.self.view_is
