use Rattle.std.proofs.Common.{◌≡◌, false, sym, ap, subst, ◌∙◌}
use Rattle.tier_protocol.specs.Tiers.{Tier}
use Rattle.tier_protocol.specs.Moves as moves
use Rattle.tier_protocol.specs.Sound.{IsSound}
use Rattle.std.specs.FinMap as map
use Rattle.tier_protocol.proofs.Steps.{cleaning}
use Rattle.small_pair.specs.Steps.{EndsFlush}
use Rattle.small_pair.proofs.Pairs.{pair_at}
use Rattle.small_pair.proofs.pair.SmallPair.finish.Goals as goal

before : (c : goal.Joined-remove) → Tier
before c = pair_at c.self.inside.recs c.self.inside.base c.self.inside.flights c.self.inside.opening
    c.self.inside.acts
    c.self.inside.wire.items c.self.inside.replies.items c.self.inside.cache_epoch
    c.self.inside.base_epoch
    c.self.inside.next_opid c.self.inside.phase c.self.inside.fenced

ends : (c : goal.Joined-remove) → EndsFlush c.args.name.now (before c) c.in-Some.rec.now
unfolding before
ends c = subst (λ t. EndsFlush c.args.name.now t c.in-Some.rec.now) (sym c.self.view_is)
    c.in-Some.ensures

clean : (c : goal.Joined-remove) → IsSound (moves.cleaned c.args.name.now c.in-Some.rec.now
    (before c))
unfolding before
clean c = let e = ends c in (cleaning (before c) c.args.name.now e.0 e.1 e.2 e.3 e.4 e.5
    c.in-Some.rec.now c.self.invariant e.6).0

put : (c : goal.Joined-remove)
    → c.swap.new.self ≡ map.insert c.self.inside.recs c.args.name.now
    (record c.in-Some.rec.now { dirty = false })
put c =
    c.in-Ok.ensures.put
    ∙ ap (λ s. map.insert c.self.inside.recs c.args.name.now
    (record c.in-Some.rec.now { state = s; dirty = false }))
    c.in_ok-copy.ensures

pub invariant_of-self-2 : goal.invariant_of-self-2
unfolding before
invariant_of-self-2 c =
    subst (λ recs. IsSound (record (before c) { recs = recs; flights = c.remove.new.self }))
    (sym (put c))
    (subst (λ flights. IsSound (record (moves.cleaned c.args.name.now c.in-Some.rec.now (before c))
    { flights = flights }))
    (sym c.remove.ensures.taken) (clean c))
