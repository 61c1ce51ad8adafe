use Rattle.std.proofs.Common.{sym, subst}
use Rattle.tier_protocol.specs.Tiers.{Tier}
use Rattle.tier_protocol.specs.Moves as moves
use Rattle.tier_protocol.specs.Sound.{IsSound}
use Rattle.tier_protocol.proofs.Steps.{evicting}
use Rattle.small_pair.proofs.Pairs.{pair_at}
use Rattle.small_pair.proofs.pair.SmallPair.evict.Goals as goal

before : (c : goal.Joined-remove) → Tier
before c = pair_at c.self.inside.recs c.self.inside.base c.self.inside.flights c.self.inside.opening
    c.self.inside.acts
    c.self.inside.wire.items c.self.inside.replies.items c.self.inside.cache_epoch
    c.self.inside.base_epoch
    c.self.inside.next_opid c.self.inside.phase c.self.inside.fenced

pub invariant_of-self : goal.invariant_of-self
unfolding before
invariant_of-self c =
    subst (λ recs. IsSound (record (before c) { recs = recs })) (sym c.remove.ensures.taken)
    (evicting (before c) c.args.name.now c.self.invariant
    (subst (λ t. moves.MayEvict t c.args.name.now) (sym c.self.view_is)
    (c.may_evict.ensures c.if-not-may_evict.false)))
