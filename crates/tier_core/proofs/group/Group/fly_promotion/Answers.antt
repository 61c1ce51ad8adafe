use Rattle.std.proofs.Common.{◌≡◌, ◌<◌, ℕ, List, length, Some, None, IfOk, OnErr, OnOk, ap, subst, sym, ◌∙◌}
use Rattle.obj_model.specs.Limits.{number_limit}
use Rattle.tier_chron.specs.declared.entries.Logged.{Logged}
use Rattle.tier_join.specs.Promises.{as_it_is}
use Rattle.tier_promote.specs.Begins.{promotion_flown}
use Rattle.tier_view.specs.Changes.{with_flown}
use Rattle.tier_view.specs.Laws.{Keeps}
use Rattle.tier_view.specs.Stores.{Stores}
use Rattle.tier_view.specs.Views.{GroupView}
use Rattle.tier_works.specs.Promotions.{BeginsPromotion}
use Rattle.tier_core.specs.Parts.{group_of, stores_of}
use Rattle.tier_core.specs.Promotes.{promotion_begun}
use Rattle.tier_core.proofs.Promoted.{begun_all, new_is_new}
use Rattle.tier_core.proofs.group.Group.fly_promotion.Goals as goal

pub begin_parts-requires : goal.begin_parts-requires
begin_parts-requires g c =
    let i = c.self.inside in
    let stores : Stores = stores_of (g.P.Store.state i.cache) i.base i.cache_stopped i.base_stopped
    i.pending in
    let old : GroupView = group_of stores i.history.log i.calls.calls i.wires.traffic i.start
    i.agent in
    let may : BeginsPromotion old c.args.call c.args.ask = subst (λ
    (v : GroupView). BeginsPromotion v c.args.call c.args.ask)
    (sym c.self.view_is) c.requires.may in
    record {
      low = subst (λ (v : GroupView). v.standing.next_opid < number_limit)
          (sym c.self.view_is) c.requires.low;
      next = c.self.invariant.counted;
      free = may.free;
      operation = (new_is_new old c.args.call c.args.ask c.self.invariant.whole may).0;
      caller = (new_is_new old c.args.call c.args.ask c.self.invariant.whole may).1;
    }

pub invariant_of-self : goal.invariant_of-self
invariant_of-self g c =
    let i = c.self.inside in
    let b = c.begin_parts in
    let e = b.ensures in
    let stores : Stores = stores_of (g.P.Store.state i.cache) i.base i.cache_stopped i.base_stopped
    i.pending in
    let old : GroupView = group_of stores i.history.log i.calls.calls i.wires.traffic i.start
    i.agent in
    let may : BeginsPromotion old c.args.call c.args.ask = subst (λ
    (v : GroupView). BeginsPromotion v c.args.call c.args.ask)
    (sym c.self.view_is) c.requires.may in
    let count : length c.answers.result.now ≡ length i.history.log.answers = ap {A = List Logged}
    length c.answers.ensures in
    let calls = subst (λ (k : ℕ). OnOk b.result (b.new.calls.calls ≡ with_flown
    (promotion_flown c.args.call i.start.next_opid k c.args.ask) i.calls.calls)) count e.calls
    in
    let all =
    begun_all stores i.history.log i.calls b.new.calls i.wires b.new.wires i.start b.new.start
    i.agent i.base c.args.call c.args.ask c.self.invariant may e.earlier b.result calls e.wires
    e.start e.calls_stay
    e.wires_stay e.start_stays in
    all.kept

pub returns : goal.returns
returns g c =
    let i = c.self.inside in
    let b = c.begin_parts in
    let e = b.ensures in
    let stores : Stores = stores_of (g.P.Store.state i.cache) i.base i.cache_stopped i.base_stopped
    i.pending in
    let old : GroupView = group_of stores i.history.log i.calls.calls i.wires.traffic i.start
    i.agent in
    let new : GroupView = group_of stores i.history.log b.new.calls.calls b.new.wires.traffic
    b.new.start i.agent in
    let may : BeginsPromotion old c.args.call c.args.ask = subst (λ
    (v : GroupView). BeginsPromotion v c.args.call c.args.ask)
    (sym c.self.view_is) c.requires.may in
    let count : length c.answers.result.now ≡ length i.history.log.answers = ap {A = List Logged}
    length c.answers.ensures in
    let calls = subst (λ (k : ℕ). OnOk b.result (b.new.calls.calls ≡ with_flown
    (promotion_flown c.args.call i.start.next_opid k c.args.ask) i.calls.calls)) count e.calls
    in
    let all =
    begun_all stores i.history.log i.calls b.new.calls i.wires b.new.wires i.start b.new.start
    i.agent i.base c.args.call c.args.ask c.self.invariant may e.earlier b.result calls e.wires
    e.start e.calls_stay
    e.wires_stay e.start_stays in
    record {
      number = subst (λ (v : GroupView). IfOk b.result (λ
          (n : ℕ). n ≡ v.traffic.next_message)) c.self.view_is e.number;
      begun = subst (λ (v : GroupView). OnOk b.result
          (new ≡ promotion_begun c.args.call c.args.ask v)) c.self.view_is all.is;
      step = subst (λ (v : GroupView). OnOk b.result
          (Keeps as_it_is None v new)) c.self.view_is all.step;
      refused = subst (λ (v : GroupView). OnErr b.result (new ≡ v)) c.self.view_is all.same;
    }
