use Rattle.std.proofs.Common.{◌≡◌, ◌≢◌, ◌+◌, refl, sym, ap, subst, arith}
use Rattle.tier_protocol.specs.Tiers.{Phase, Tier}
use Rattle.tier_protocol.specs.Moves as moves
use Rattle.tier_protocol.proofs.Steps.{raising}
use Rattle.small_pair.proofs.Pairs.{pair_at}
use Rattle.small_pair.proofs.pair.SmallPair.raise.Goals as goal

before : (c : goal.After-self-4-1) → Tier
before c = pair_at c.self.inside.recs c.self.inside.base c.self.inside.flights c.self.inside.opening
    c.self.inside.acts
    c.self.inside.wire.items c.self.inside.replies.items c.self.inside.cache_epoch
    c.self.inside.base_epoch
    c.self.inside.next_opid c.self.inside.phase c.self.inside.fenced

not_up : (c : goal.After-self-4-1) → c.args.self.now.net.phase ≢ Phase.Up
not_up c = c.if-is_up.ensures.down refl

pub invariant_of-self : goal.invariant_of-self
unfolding before
invariant_of-self c =
    let highest = c.max-above.ensures in
    raising (before c) (c.max-above.result + 1) c.self.invariant
    (record {
      stopped = subst (λ t. t.net.phase ≢ Phase.Up) (sym c.self.view_is) (not_up c);
      later = omega (arith, highest);
      above = omega (arith, highest);
    })

pub returns : goal.returns
unfolding before
returns c = (
  not_up c,
  subst (λ t. moves.raised_to (c.max-above.result + 1) (before c) ≡ moves.raised t) c.self.view_is
      (ap (λ e. moves.raised_to (e + 1) (before c)) c.max-above.ensures),
)
