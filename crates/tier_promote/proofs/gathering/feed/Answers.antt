use Rattle.std.proofs.Common.{subst}
use Rattle.copy_chunk.specs.declared.gather.Added.{Added}
use Rattle.tier_flight.specs.Changes.{IsFedIn}
use Rattle.tier_promote.proofs.Feeds.{fed_nothing, fed_unfit}
use Rattle.tier_promote.proofs.gathering.feed.Goals as goal

pub returns-in-Unfit-clause-fed : goal.returns-in-Unfit-clause-fed
returns-in-Unfit-clause-fed c =
    fed_unfit c.args.wires.now c.feed.new.self c.args.promotion.now c.args.brought c.requires c.feed.ensures.frame c.args.number
    (subst (λ (x : Added). IsFedIn c.args.promotion.now.name c.args.brought.chunk x c.args.wires.now.traffic.flights c.feed.new.self.traffic.flights) c.in-Unfit.is c.in_ok-feed.ensures.fed)

pub returns-in-Ignored-clause-fed : goal.returns-in-Ignored-clause-fed
returns-in-Ignored-clause-fed c =
    fed_nothing c.args.wires.now c.feed.new.self c.args.promotion.now c.args.brought c.requires c.feed.ensures.frame c.args.number
    (subst (λ (x : Added). IsFedIn c.args.promotion.now.name c.args.brought.chunk x c.args.wires.now.traffic.flights c.feed.new.self.traffic.flights) c.in-Ignored.is c.in_ok-feed.ensures.fed)
