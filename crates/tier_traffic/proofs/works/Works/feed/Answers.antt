use Rattle.tier_traffic.proofs.Counted.{fed}
use Rattle.tier_traffic.proofs.works.Works.feed.Goals as goal

pub invariant_of-self : goal.invariant_of-self
invariant_of-self c =
    let in_ = c.self.inside in
    fed in_.driven in_.left in_.flights c.feed.new.self c.args.name.now c.self.invariant
    c.feed.result c.args.chunk c.feed.ensures.fed c.feed.ensures.refused
