use Rattle.std.proofs.Common.{ap, map, ◌∙◌}
use Rattle.tier_traffic.specs.Waits.{beginning}
use Rattle.tier_traffic.proofs.Waiting.{begun_in, begun_put}
use Rattle.tier_traffic.proofs.begun.BegunFlushes.set.Goals as goal

pub returns-clause-ok : goal.returns-clause-ok
returns-clause-ok c =
    ap (map begun_in) c.in_ok-insert.ensures.entries
    ∙ begun_put c.args.begun c.self.inside.inner.entries
    ∙ ap (beginning c.args.begun) c.self.view_is
