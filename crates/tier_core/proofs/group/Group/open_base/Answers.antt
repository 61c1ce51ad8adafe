use Rattle.std.proofs.Common.{false, Ok, Err}
use Rattle.store_face.specs.declared.fault.StoreFault.TheVariants.{NoMemory}
use Rattle.tier_view.specs.Views.{GroupView}
use Rattle.tier_core.specs.Parts.{group_of, stores_of}
use Rattle.tier_core.specs.declared.opening.OpenFault.TheVariants.{Store}
use Rattle.tier_core.proofs.OpenedThere.{base_failed, base_lacks, base_opened_from, base_ran}
use Rattle.tier_core.proofs.group.Group.open_base.Goals as goal

pub returns-then-is_err : goal.returns-then-is_err
returns-then-is_err g c =
    let i = c.self.inside in
    let cache = g.P.Store.state i.cache in
    let old : GroupView = group_of (stores_of cache i.base i.cache_stopped i.base_stopped i.pending) i.history.log i.calls.calls i.wires.traffic i.start i.agent in
    let new : GroupView = group_of (stores_of cache i.base i.cache_stopped i.base_stopped i.pending) c.make_room.new.history.log i.calls.calls i.wires.traffic i.start i.agent in
    let all = base_lacks cache i.base i.cache_stopped i.base_stopped i.pending i.history.log i.wires.traffic i.start i.agent i.calls c.make_room.new.history.log c.make_room.ensures.same c.self.invariant in
    let from = base_opened_from c.args.self.now old new i.base i.calls (Err (Store NoMemory)) c.self.view_is all in
    record { opened = from.0; step = from.1 }

pub invariant_of-self-in-Err : goal.invariant_of-self-in-Err
invariant_of-self-in-Err g c =
    let i = c.self.inside in
    let cache = g.P.Store.state i.cache in
    let all =
    base_failed cache i.base c.look_there.new.base i.cache_stopped i.base_stopped i.pending i.history.log i.wires.traffic i.start i.agent i.calls c.self.invariant c.in-Err.ensures.sound
    c.in-Err.fault c.halt_there.new.base_stopped c.make_room.new.history.log c.halt_there.new.start c.halt_there.ensures.stopped c.make_room.ensures.same c.halt_there.ensures.start c.in-Err.ensures.looked in
    all.kept

pub returns-in-Err : goal.returns-in-Err
returns-in-Err g c =
    let i = c.self.inside in
    let cache = g.P.Store.state i.cache in
    let base = c.look_there.new.base in
    let old : GroupView = group_of (stores_of cache i.base i.cache_stopped i.base_stopped i.pending) i.history.log i.calls.calls i.wires.traffic i.start i.agent in
    let new : GroupView =
    group_of (stores_of cache base i.cache_stopped c.halt_there.new.base_stopped i.pending) c.make_room.new.history.log i.calls.calls i.wires.traffic c.halt_there.new.start i.agent in
    let all =
    base_failed cache i.base base i.cache_stopped i.base_stopped i.pending i.history.log i.wires.traffic i.start i.agent i.calls c.self.invariant c.in-Err.ensures.sound
    c.in-Err.fault c.halt_there.new.base_stopped c.make_room.new.history.log c.halt_there.new.start c.halt_there.ensures.stopped c.make_room.ensures.same c.halt_there.ensures.start c.in-Err.ensures.looked in
    let from = base_opened_from c.args.self.now old new base i.calls (Err c.in-Err.fault) c.self.view_is all in
    record { opened = from.0; step = from.1 }

pub invariant_of-self-2 : goal.invariant_of-self-2
invariant_of-self-2 g c =
    let i = c.self.inside in
    let cache = g.P.Store.state i.cache in
    let s = c.settle.new in
    let all =
    base_ran cache i.base c.look_there.new.base i.cache_stopped i.base_stopped i.pending i.history.log i.wires.traffic i.start i.agent i.calls c.self.invariant c.in-Ok.ensures.sound
    c.in-Ok.found s.pending c.make_room.new.history.log s.history.log s.start s.calls c.settle.ensures.pending c.make_room.ensures.same c.settle.ensures.log c.settle.ensures.start c.settle.ensures.table c.in-Ok.ensures.looked in
    all.kept

pub returns : goal.returns
returns g c =
    let i = c.self.inside in
    let cache = g.P.Store.state i.cache in
    let base = c.look_there.new.base in
    let s = c.settle.new in
    let old : GroupView = group_of (stores_of cache i.base i.cache_stopped i.base_stopped i.pending) i.history.log i.calls.calls i.wires.traffic i.start i.agent in
    let new : GroupView = group_of (stores_of cache base i.cache_stopped false s.pending) s.history.log s.calls.calls i.wires.traffic s.start i.agent in
    let all =
    base_ran cache i.base base i.cache_stopped i.base_stopped i.pending i.history.log i.wires.traffic i.start i.agent i.calls c.self.invariant c.in-Ok.ensures.sound
    c.in-Ok.found s.pending c.make_room.new.history.log s.history.log s.start s.calls c.settle.ensures.pending c.make_room.ensures.same c.settle.ensures.log c.settle.ensures.start c.settle.ensures.table c.in-Ok.ensures.looked in
    let from = base_opened_from c.args.self.now old new base s.calls (Ok tt) c.self.view_is all in
    record { opened = from.0; step = from.1 }
