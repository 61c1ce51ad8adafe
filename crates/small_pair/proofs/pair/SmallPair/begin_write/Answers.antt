use Rattle.std.proofs.Common.{◌≡◌, [], ◌∷◌, ◌++◌, Some, refl, sym, ap₂, subst, ◌∙◌}
use Rattle.tier_protocol.specs.Tiers.{Flight, Phase, Tier}
use Rattle.tier_protocol.specs.Moves as moves
use Rattle.tier_protocol.specs.Sound.{IsSound}
use Rattle.std.specs.FinMap as map
use Rattle.tier_protocol.proofs.Cells.{get_here}
use Rattle.tier_protocol.proofs.Steps.{beginning, losing, sending}
use Rattle.small_pair.proofs.Installs.{asked, message_behind}
use Rattle.small_pair.specs.Steps.{asks, writing}
use Rattle.small_pair.proofs.Pairs.{pair_at}
use Rattle.small_pair.proofs.pair.SmallPair.begin_write.Goals as goal

before : (c : goal.After-push_reserved) → Tier
before c = pair_at c.self.inside.recs c.self.inside.base c.self.inside.flights c.self.inside.opening
    c.self.inside.acts
    c.self.inside.wire.items c.self.inside.replies.items c.self.inside.cache_epoch
    c.self.inside.base_epoch
    c.self.inside.next_opid c.self.inside.phase c.self.inside.fenced

abbrev flight : (c : goal.After-push_reserved) → Flight
flight c = writing c.args.call c.args.req.now (before c)

abbrev first : (c : goal.After-push_reserved) → Tier
first c = moves.begun c.args.req.now.name (flight c) (before c)

-- the request went out: the work stands, and its message is the last one
abbrev went : (c : goal.After-push_reserved) → Tier
went c = asked (first c) (asks c.args.req.now (before c))

abbrev now : (c : goal.After-push_reserved) → Tier
now c = record (went c) {
  flights = c.insert.new.self;
  net = record (went c).net { wire = c.push_reserved.new.self.items };
}

flights_are : (c : goal.After-push_reserved) → c.insert.new.self ≡ (went c).flights
unfolding before
flights_are c =
    c.in_ok-insert.ensures.put
    ∙ ap₂ (λ n r. map.insert c.self.inside.flights n
    (Flight.Write (Some c.args.call) c.args.call c.self.inside.next_opid r))
    c.in_ok-copy-2.ensures c.in_ok-copy.ensures

wire_is : (c : goal.After-push_reserved) → c.push_reserved.new.self.items ≡ (went c).net.wire
unfolding before
wire_is c =
    c.push_reserved.ensures.items
    ∙ ap₂ (λ ms m. ms ++ m ∷ []) c.reserve.ensures.items c.in_ok-message.ensures

by_parts : (c : goal.After-push_reserved) (P : Tier → Type 0) → P (went c) → P (now c)
by_parts c P at =
    subst (λ flights. P (record (now c) { flights = flights })) (sym (flights_are c))
    (subst (λ wire. P (record (went c) { net = record (went c).net { wire = wire } }))
    (sym (wire_is c)) at)

loses : (c : goal.After-push_reserved)
    → moves.Loses (moves.sent (asks c.args.req.now (before c)) (first c)) (now c)
loses c =
    by_parts c (λ u. moves.Loses (moves.sent (asks c.args.req.now (before c)) (first c)) u)
    (message_behind (first c) (asks c.args.req.now (before c)))

up : (c : goal.After-push_reserved) → c.args.self.now.net.phase ≡ Phase.Up
up c = c.may_write.ensures.up c.if-not-may_write.false

may : (c : goal.After-push_reserved)
    → moves.MayBegin c.args.self.now c.args.req.now.name
    (writing c.args.call c.args.req.now c.args.self.now)
may c = (
  c.may_write.ensures.free c.if-not-may_write.false,
  c.may_write.ensures.bare
      c.if-not-may_write.false,
  refl,
  refl,
)

began : (c : goal.After-push_reserved) → IsSound (first c)
unfolding before
began c =
    beginning (before c) c.args.req.now.name (flight c) c.self.invariant
    (subst (λ t. t.net.phase ≡ Phase.Up) (sym c.self.view_is) (up c))
    (subst (λ t. moves.MayBegin t c.args.req.now.name (writing c.args.call c.args.req.now t))
    (sym c.self.view_is) (may c))

pub invariant_of-self-2 : goal.invariant_of-self-2
unfolding before
invariant_of-self-2 c =
    losing (moves.sent (asks c.args.req.now (before c)) (first c)) (now c)
    (sending (first c) (asks c.args.req.now (before c)) (began c) (
      refl,
      (
        Some c.args.call,
        c.args.call,
        get_here c.self.inside.flights c.args.req.now.name
            (Some (flight c)),
      ),
    ))
    (loses c)

pub returns : goal.returns
unfolding before
returns c = (
  up c,
  may c,
  subst (λ t. moves.Loses
      (moves.sent (asks c.args.req.now t)
      (moves.begun c.args.req.now.name (writing c.args.call c.args.req.now t) t)) (now c))
      c.self.view_is (loses c),
)
