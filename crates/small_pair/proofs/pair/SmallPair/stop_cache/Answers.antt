use Rattle.std.proofs.Common.{sym, subst}
use Rattle.tier_protocol.specs.Tiers.{Tier}
use Rattle.tier_protocol.specs.Moves as moves
use Rattle.tier_protocol.specs.Sound.{IsSound}
use Rattle.tier_protocol.proofs.Steps.{stopping}
use Rattle.small_pair.proofs.Pairs.{pair_at}
use Rattle.small_pair.proofs.pair.SmallPair.stop_cache.Goals as goal

before : (c : goal.After-self-2-1) → Tier
before c = pair_at c.self.inside.recs c.self.inside.base c.self.inside.flights c.self.inside.opening
    c.self.inside.acts
    c.self.inside.wire.items c.self.inside.replies.items c.self.inside.cache_epoch
    c.self.inside.base_epoch
    c.self.inside.next_opid c.self.inside.phase c.self.inside.fenced

pub invariant_of-self : goal.invariant_of-self
unfolding before
invariant_of-self c =
    subst (λ flights. IsSound (record (moves.stopped_cache (before c)) { flights = flights }))
    (sym c.new.ensures)
    ((stopping (before c) c.self.invariant).0)
