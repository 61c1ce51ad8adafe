use Rattle.std.proofs.Common.{sym, subst}
use Rattle.tier_protocol.specs.Tiers.{Tier}
use Rattle.tier_protocol.specs.Moves as moves
use Rattle.tier_protocol.proofs.Steps.{going_up}
use Rattle.small_pair.proofs.Pairs.{pair_at}
use Rattle.small_pair.proofs.pair.SmallPair.go_up.Goals as goal

before : (c : goal.After-self-2-1) → Tier
before c = pair_at c.self.inside.recs c.self.inside.base c.self.inside.flights c.self.inside.opening
    c.self.inside.acts
    c.self.inside.wire.items c.self.inside.replies.items c.self.inside.cache_epoch
    c.self.inside.base_epoch
    c.self.inside.next_opid c.self.inside.phase c.self.inside.fenced

pub invariant_of-self : goal.invariant_of-self
unfolding before
invariant_of-self c =
    (going_up (before c) c.self.invariant
    (subst (λ t. moves.MayGoUp t.net) (sym c.self.view_is)
    (c.may_go_up.ensures c.if-not-may_go_up.false))).0
