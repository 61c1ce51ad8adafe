use Rattle.std.proofs.Common.{◌≡◌, Option, Some, refl, sym, ap, subst, ◌∙◌}
use Rattle.std.specs.Prelude.{MatchOption}
use Rattle.tier_flight.specs.Ends.{FlightMap}
use Rattle.tier_traffic.specs.Messages.{replied_of}
use Rattle.tier_promote.specs.Gathers.{IsNoPromotion, IsOnePromotion, brought_in}
use Rattle.tier_promote.specs.declared.gathering.Promotion.{Promotion}
use Rattle.tier_promote.proofs.Feeds.{gathers_by, none_gathers}
use Rattle.tier_promote.proofs.gathering.gather.Goals as goal

pub returns-in-None-2-clause-gathers : goal.returns-in-None-2-clause-gathers
returns-in-None-2-clause-gathers c =
    let t = c.args.wires.now.traffic in
    let b = c.in-Some.brought in
    let at : brought_in c.args.epoch (replied_of t.replies c.args.number) ≡ Some b =
    sym (sym c.in-Some.is ∙ c.in_ok-brought_in.ensures ∙ ap (brought_in c.args.epoch) c.reply_of.ensures) in
    let none : IsNoPromotion c.flights.result.now b.opid =
    subst (λ (o : Option Promotion). MatchOption o (IsNoPromotion c.flights.result.now b.opid) (IsOnePromotion c.flights.result.now b.opid)) c.in-None-2.is c.in_ok-promotion_of-in-Some.ensures in
    (refl, none_gathers t t c.args.epoch c.args.number b at (subst (λ (f : FlightMap). IsNoPromotion f b.opid) c.flights.ensures none))

pub returns-in-Some-2-clause-gathers : goal.returns-in-Some-2-clause-gathers
returns-in-Some-2-clause-gathers c =
    let t = c.args.wires.now.traffic in
    let b = c.in-Some.brought in
    let p = c.in-Some-2.promotion in
    let at : brought_in c.args.epoch (replied_of t.replies c.args.number) ≡ Some b =
    sym (sym c.in-Some.is ∙ c.in_ok-brought_in.ensures ∙ ap (brought_in c.args.epoch) c.reply_of.ensures) in
    let one : IsOnePromotion c.flights.result.now b.opid p =
    subst (λ (o : Option Promotion). MatchOption o (IsNoPromotion c.flights.result.now b.opid) (IsOnePromotion c.flights.result.now b.opid)) c.in-Some-2.is c.in_ok-promotion_of-in-Some.ensures in
    gathers_by t c.feed.new.wires.traffic c.args.epoch c.args.number b at p (subst (λ (f : FlightMap). IsOnePromotion f b.opid p) c.flights.ensures one) c.feed.result c.feed.ensures.fed
