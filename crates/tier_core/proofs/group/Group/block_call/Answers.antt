use Rattle.std.proofs.Common.{subst, sym}
use Rattle.tier_chron.specs.Logs.{Log}
use Rattle.tier_view.specs.Answers.{KeepsQuietly}
use Rattle.tier_view.specs.Stores.{Stores}
use Rattle.tier_view.specs.Views.{GroupView}
use Rattle.tier_core.specs.Blocks.{Blocks, BlocksParts, MayWant, TellsHeld}
use Rattle.tier_core.specs.Parts.{group_of, stores_of}
use Rattle.tier_core.proofs.Blocked.{block_all}
use Rattle.tier_core.proofs.group.Group.block_call.Goals as goal

pub invariant_of-self-2 : goal.invariant_of-self-2
invariant_of-self-2 g c =
    let i = c.self.inside in
    let turn = c.args.turn in
    let name = c.args.name.now in
    let stores : Stores = stores_of (g.P.Store.state i.cache) i.base i.cache_stopped i.base_stopped i.pending in
    let old : GroupView = group_of stores i.history.log i.calls.calls i.wires.traffic i.start i.agent in
    let new : GroupView = group_of stores c.block.new.history.log c.block.new.calls.calls c.block.new.wires.traffic i.start i.agent in
    let busy = c.held_up-busy.result in
    let may : MayWant old turn name c.args.want c.args.way = subst (λ (v : GroupView). MayWant v turn name c.args.want c.args.way) (sym c.self.view_is) c.requires in
    let held : TellsHeld i.history.log i.calls.calls i.wires.traffic turn.call name c.args.want busy =
    subst (λ (l : Log). TellsHeld l i.calls.calls i.wires.traffic turn.call name c.args.want busy) c.reserve.ensures.same c.held_up-busy.ensures in
    let parts : BlocksParts turn c.args.way busy i.history.log c.block.new.history.log i.calls c.block.new.calls i.wires c.block.new.wires =
    subst (λ (l : Log). BlocksParts turn c.args.way busy l c.block.new.history.log i.calls c.block.new.calls i.wires c.block.new.wires) c.reserve.ensures.same c.block.ensures in
    let all =
    block_all stores i.history.log c.block.new.history.log i.calls c.block.new.calls i.wires c.block.new.wires i.start i.agent i.base turn name c.args.want c.args.way c.self.invariant may busy held parts in
    all.kept

pub returns-clause-blocked : goal.returns-clause-blocked
returns-clause-blocked g c =
    let i = c.self.inside in
    let turn = c.args.turn in
    let name = c.args.name.now in
    let stores : Stores = stores_of (g.P.Store.state i.cache) i.base i.cache_stopped i.base_stopped i.pending in
    let old : GroupView = group_of stores i.history.log i.calls.calls i.wires.traffic i.start i.agent in
    let new : GroupView = group_of stores c.block.new.history.log c.block.new.calls.calls c.block.new.wires.traffic i.start i.agent in
    let busy = c.held_up-busy.result in
    let may : MayWant old turn name c.args.want c.args.way = subst (λ (v : GroupView). MayWant v turn name c.args.want c.args.way) (sym c.self.view_is) c.requires in
    let held : TellsHeld i.history.log i.calls.calls i.wires.traffic turn.call name c.args.want busy =
    subst (λ (l : Log). TellsHeld l i.calls.calls i.wires.traffic turn.call name c.args.want busy) c.reserve.ensures.same c.held_up-busy.ensures in
    let parts : BlocksParts turn c.args.way busy i.history.log c.block.new.history.log i.calls c.block.new.calls i.wires c.block.new.wires =
    subst (λ (l : Log). BlocksParts turn c.args.way busy l c.block.new.history.log i.calls c.block.new.calls i.wires c.block.new.wires) c.reserve.ensures.same c.block.ensures in
    let all =
    block_all stores i.history.log c.block.new.history.log i.calls c.block.new.calls i.wires c.block.new.wires i.start i.agent i.base turn name c.args.want c.args.way c.self.invariant may busy held parts in
    subst (λ (v : GroupView). Blocks turn name c.args.want c.args.way v new busy) c.self.view_is all.is

pub returns-clause-step : goal.returns-clause-step
returns-clause-step g c =
    let i = c.self.inside in
    let turn = c.args.turn in
    let name = c.args.name.now in
    let stores : Stores = stores_of (g.P.Store.state i.cache) i.base i.cache_stopped i.base_stopped i.pending in
    let old : GroupView = group_of stores i.history.log i.calls.calls i.wires.traffic i.start i.agent in
    let new : GroupView = group_of stores c.block.new.history.log c.block.new.calls.calls c.block.new.wires.traffic i.start i.agent in
    let busy = c.held_up-busy.result in
    let may : MayWant old turn name c.args.want c.args.way = subst (λ (v : GroupView). MayWant v turn name c.args.want c.args.way) (sym c.self.view_is) c.requires in
    let held : TellsHeld i.history.log i.calls.calls i.wires.traffic turn.call name c.args.want busy =
    subst (λ (l : Log). TellsHeld l i.calls.calls i.wires.traffic turn.call name c.args.want busy) c.reserve.ensures.same c.held_up-busy.ensures in
    let parts : BlocksParts turn c.args.way busy i.history.log c.block.new.history.log i.calls c.block.new.calls i.wires c.block.new.wires =
    subst (λ (l : Log). BlocksParts turn c.args.way busy l c.block.new.history.log i.calls c.block.new.calls i.wires c.block.new.wires) c.reserve.ensures.same c.block.ensures in
    let all =
    block_all stores i.history.log c.block.new.history.log i.calls c.block.new.calls i.wires c.block.new.wires i.start i.agent i.base turn name c.args.want c.args.way c.self.invariant may busy held parts in
    subst (λ (v : GroupView). KeepsQuietly v new) c.self.view_is all.step
