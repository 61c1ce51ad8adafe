use Rattle.std.proofs.Common.{◌≡◌, false, sym, subst}
use Rattle.tier_protocol.specs.Tiers.{Tier, cell_of}
use Rattle.tier_protocol.specs.Moves as moves
use Rattle.tier_protocol.proofs.Steps.{losing}
use Rattle.tier_types.specs.Flights.{is_write}
use Rattle.small_pair.proofs.Installs.{dropped}
use Rattle.small_pair.proofs.Pairs.{pair_at}
use Rattle.small_pair.proofs.pair.SmallPair.drop_work.Goals as goal

before : (c : goal.Joined-remove) → Tier
before c = pair_at c.self.inside.recs c.self.inside.base c.self.inside.flights c.self.inside.opening
    c.self.inside.acts
    c.self.inside.wire.items c.self.inside.replies.items c.self.inside.cache_epoch
    c.self.inside.base_epoch
    c.self.inside.next_opid c.self.inside.phase c.self.inside.fenced

loses : (c : goal.Joined-remove) → moves.Loses (before c) (record (before c)
    { flights = c.remove.new.self })
unfolding before
loses c =
    subst (λ flights. moves.Loses (before c) (record (before c) { flights = flights }))
    (sym c.remove.ensures.taken)
    (dropped (before c) c.args.name.now
    (subst (λ t. is_write (cell_of t c.args.name.now).flight ≡ false) (sym c.self.view_is)
    (sym (c.if-is_writing.ensures))))

pub invariant_of-self : goal.invariant_of-self
unfolding before
invariant_of-self c = losing (before c) (record (before c) { flights = c.remove.new.self })
    c.self.invariant (loses c)

pub returns : goal.returns
unfolding before
returns c = subst (λ t. moves.Loses t (record (before c) { flights = c.remove.new.self }))
    c.self.view_is (loses c)
