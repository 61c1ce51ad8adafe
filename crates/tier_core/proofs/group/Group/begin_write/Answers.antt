use Rattle.std.proofs.Common.{◌≡◌, ℕ, List, length, Some, None, IfOk, OnErr, OnOk, ap, subst, sym, ◌∙◌}
use Rattle.std.specs.FinMap as fin
use Rattle.obj_model.specs.declared.tier.Kind.TheVariants as kind
use Rattle.tier_chron.specs.declared.entries.Logged.{Logged}
use Rattle.tier_join.specs.Promises.{as_it_is}
use Rattle.tier_view.specs.Changes.{with_flown}
use Rattle.tier_view.specs.Laws.{Keeps}
use Rattle.tier_view.specs.Steps.{write_flown}
use Rattle.tier_view.specs.Stores.{Stores}
use Rattle.tier_view.specs.Views.{GroupView}
use Rattle.tier_core.specs.Parts.{group_of, stores_of}
use Rattle.tier_core.specs.Proxies.{MayGo, write_begun}
use Rattle.tier_core.proofs.Proxied.{begin_is, begin_kept, begin_not, begin_step, idle_is_new, next_is_new}
use Rattle.tier_core.proofs.group.Group.begin_write.Goals as goal

pub begin_parts-requires : goal.begin_parts-requires
begin_parts-requires g c =
    let i = c.self.inside in
    let stores : Stores = stores_of (g.P.Store.state i.cache) i.base i.cache_stopped i.base_stopped i.pending in
    let old : GroupView = group_of stores i.history.log i.calls.calls i.wires.traffic i.start i.agent in
    let may : MayGo old c.args.turn c.args.req = subst (λ (v : GroupView). MayGo v c.args.turn c.args.req) (sym c.self.view_is) c.requires in
    record {
      next = c.self.invariant.counted;
      free = may.free;
      operation = next_is_new old (Some c.args.turn.call) c.args.turn.call c.args.req c.self.invariant.whole;
      caller = idle_is_new i.wires.traffic.flights c.args.turn.call c.args.turn.call i.start.next_opid c.args.req may.idle;
    }

pub invariant_of-self : goal.invariant_of-self
invariant_of-self g c =
    let i = c.self.inside in
    let turn = c.args.turn in
    let q = c.args.req in
    let b = c.begin_parts in
    let e = b.ensures in
    let stores : Stores = stores_of (g.P.Store.state i.cache) i.base i.cache_stopped i.base_stopped i.pending in
    let old : GroupView = group_of stores i.history.log i.calls.calls i.wires.traffic i.start i.agent in
    let may : MayGo old turn q = subst (λ (v : GroupView). MayGo v turn q) (sym c.self.view_is) c.requires in
    let count : length c.answers.result.now ≡ length i.history.log.answers = ap {A = List Logged} length c.answers.ensures in
    let calls =
    subst (λ (k : ℕ). OnOk b.result (b.new.calls.calls ≡ with_flown (record { call = turn.call; kind = kind.Write; name = q.name; opid = i.start.next_opid; came = k; went = None }) i.calls.calls))
    count e.calls in
    begin_kept stores i.history.log i.calls b.new.calls i.wires b.new.wires i.start b.new.start i.agent i.base turn q c.self.invariant may e.earlier b.result calls e.wires e.start e.calls_stay
    e.wires_stay e.start_stays

pub returns : goal.returns
returns g c =
    let i = c.self.inside in
    let turn = c.args.turn in
    let q = c.args.req in
    let b = c.begin_parts in
    let e = b.ensures in
    let stores : Stores = stores_of (g.P.Store.state i.cache) i.base i.cache_stopped i.base_stopped i.pending in
    let old : GroupView = group_of stores i.history.log i.calls.calls i.wires.traffic i.start i.agent in
    let new : GroupView = group_of stores i.history.log b.new.calls.calls b.new.wires.traffic b.new.start i.agent in
    let may : MayGo old turn q = subst (λ (v : GroupView). MayGo v turn q) (sym c.self.view_is) c.requires in
    let count : length c.answers.result.now ≡ length i.history.log.answers = ap {A = List Logged} length c.answers.ensures in
    let calls =
    subst (λ (k : ℕ). OnOk b.result (b.new.calls.calls ≡ with_flown (record { call = turn.call; kind = kind.Write; name = q.name; opid = i.start.next_opid; came = k; went = None }) i.calls.calls))
    count e.calls in
    record {
      number = subst (λ (v : GroupView). IfOk b.result (λ (n : ℕ). n ≡ v.traffic.next_message)) c.self.view_is e.number;
      begun = subst (λ (v : GroupView). OnOk b.result (new ≡ write_begun turn q v)) c.self.view_is
          (begin_is stores i.history.log i.calls b.new.calls i.wires b.new.wires i.start b.new.start i.agent i.base turn q b.result calls e.wires e.start);
      step = subst (λ (v : GroupView). OnOk b.result (Keeps as_it_is None v new)) c.self.view_is
          (begin_step stores i.history.log i.calls b.new.calls i.wires b.new.wires i.start b.new.start i.agent i.base turn q c.self.invariant.whole may b.result calls e.wires e.start);
      refused = subst (λ (v : GroupView). OnErr b.result (new ≡ v)) c.self.view_is
          (begin_not stores i.history.log i.calls b.new.calls i.wires b.new.wires i.start b.new.start i.agent i.base turn q b.result e.calls_stay e.wires_stay e.start_stays);
    }
