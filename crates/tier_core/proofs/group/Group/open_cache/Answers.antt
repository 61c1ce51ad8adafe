use Rattle.std.proofs.Common.{false, Ok, Err, refl}
use Rattle.store_face.specs.declared.fault.StoreFault.TheVariants.{NoMemory}
use Rattle.tier_view.specs.Views.{GroupView}
use Rattle.tier_core.specs.Parts.{group_of, stores_of}
use Rattle.tier_core.specs.declared.opening.OpenFault.TheVariants.{Store}
use Rattle.tier_core.specs.declared.parts.Agent.{Agent}
use Rattle.tier_core.proofs.OpenedHere.{cache_failed, cache_lacks, cache_may_settle, cache_opened_from, cache_ran}
use Rattle.tier_core.proofs.group.Group.open_cache.Goals as goal

pub returns-then-is_err : goal.returns-then-is_err
returns-then-is_err g c =
    let i = c.self.inside in
    let cache = g.P.Store.state i.cache in
    let old : GroupView = group_of (stores_of cache i.base i.cache_stopped i.base_stopped i.pending) i.history.log i.calls.calls i.wires.traffic i.start i.agent in
    let new : GroupView = group_of (stores_of cache i.base i.cache_stopped i.base_stopped i.pending) c.make_room.new.history.log i.calls.calls i.wires.traffic i.start i.agent in
    let all = cache_lacks cache cache i.base i.cache_stopped i.base_stopped i.pending i.history.log i.start i.agent i.calls i.wires c.make_room.new.history.log c.make_room.ensures.same c.self.invariant in
    let from = cache_opened_from c.args.self.now old new i.base i.calls (Err (Store NoMemory)) c.self.view_is all in
    record { opened = from.0; step = from.1 }

pub invariant_of-self-in-Err : goal.invariant_of-self-in-Err
invariant_of-self-in-Err g c =
    let i = c.self.inside in
    let h = c.halt_here.new in
    let e = c.halt_here.ensures in
    let all =
    cache_failed (g.P.Store.state i.cache) (g.P.Store.state c.look_here.new.cache) i.base i.cache_stopped i.base_stopped i.pending i.history.log i.start i.agent i.calls i.wires c.self.invariant c.in-Err.ensures.sound
    c.in-Err.fault h.cache_stopped c.make_room.new.history.log h.calls h.wires h.start e.stopped c.make_room.ensures.same e.calls e.wires e.start c.in-Err.ensures.looked in
    all.kept

pub returns-in-Err : goal.returns-in-Err
returns-in-Err g c =
    let i = c.self.inside in
    let h = c.halt_here.new in
    let e = c.halt_here.ensures in
    let was = g.P.Store.state i.cache in
    let is = g.P.Store.state c.look_here.new.cache in
    let old : GroupView = group_of (stores_of was i.base i.cache_stopped i.base_stopped i.pending) i.history.log i.calls.calls i.wires.traffic i.start i.agent in
    let new : GroupView = group_of (stores_of is i.base h.cache_stopped i.base_stopped i.pending) c.make_room.new.history.log h.calls.calls h.wires.traffic h.start i.agent in
    let all =
    cache_failed was is i.base i.cache_stopped i.base_stopped i.pending i.history.log i.start i.agent i.calls i.wires c.self.invariant c.in-Err.ensures.sound
    c.in-Err.fault h.cache_stopped c.make_room.new.history.log h.calls h.wires h.start e.stopped c.make_room.ensures.same e.calls e.wires e.start c.in-Err.ensures.looked in
    let from = cache_opened_from c.args.self.now old new i.base h.calls (Err c.in-Err.fault) c.self.view_is all in
    record { opened = from.0; step = from.1 }

pub invariant_of-self-2 : goal.invariant_of-self-2
invariant_of-self-2 g c =
    let i = c.self.inside in
    let s = c.settle.new in
    let e = c.settle.ensures in
    let all =
    cache_ran (g.P.Store.state i.cache) (g.P.Store.state c.look_here.new.cache) i.base i.cache_stopped i.base_stopped i.pending i.history.log i.start i.agent i.calls i.wires c.self.invariant c.in-Ok.ensures.sound
    c.in-Ok.looked.0 c.in-Ok.looked.1 s.pending c.make_room.new.history.log s.history.log s.start s.calls e.pending c.make_room.ensures.same e.log e.start e.table c.in-Ok.ensures.looked in
    all.kept

pub returns : goal.returns
returns g c =
    let i = c.self.inside in
    let s = c.settle.new in
    let e = c.settle.ensures in
    let was = g.P.Store.state i.cache in
    let is = g.P.Store.state c.look_here.new.cache in
    let agent : Agent = record i.agent { totals = c.in-Ok.looked.1 } in
    let old : GroupView = group_of (stores_of was i.base i.cache_stopped i.base_stopped i.pending) i.history.log i.calls.calls i.wires.traffic i.start i.agent in
    let new : GroupView = group_of (stores_of is i.base false i.base_stopped s.pending) s.history.log s.calls.calls i.wires.traffic s.start agent in
    let all =
    cache_ran was is i.base i.cache_stopped i.base_stopped i.pending i.history.log i.start i.agent i.calls i.wires c.self.invariant c.in-Ok.ensures.sound
    c.in-Ok.looked.0 c.in-Ok.looked.1 s.pending c.make_room.new.history.log s.history.log s.start s.calls e.pending c.make_room.ensures.same e.log e.start e.table c.in-Ok.ensures.looked in
    let from = cache_opened_from c.args.self.now old new i.base s.calls (Ok tt) c.self.view_is all in
    record { opened = from.0; step = from.1 }

pub settle-requires-clause-may : goal.settle-requires-clause-may
settle-requires-clause-may g c =
    let i = c.self.inside in
    let old : GroupView = group_of (stores_of (g.P.Store.state i.cache) i.base i.cache_stopped i.base_stopped i.pending) i.history.log i.calls.calls i.wires.traffic i.start i.agent in
    cache_may_settle old i.pending c.in-Ok.looked.0 c.self.invariant.whole refl
