use Rattle.std.proofs.Common.{◌≡◌, None, IfOk, OnOk, ap, subst, sym, ◌∙◌}
use Rattle.tier_chron.specs.Logs.{Log}
use Rattle.tier_view.specs.Answers.{KeepsQuietly}
use Rattle.tier_view.specs.Stores.{Stores}
use Rattle.tier_view.specs.Views.{GroupView}
use Rattle.tier_core.specs.Lands.{HearsWrite, LandsTold}
use Rattle.tier_core.specs.Parts.{group_of, stores_of}
use Rattle.tier_core.proofs.LandedAll.{told_all}
use Rattle.tier_core.proofs.group.Group.land_write.Goals as goal

pub invariant_of-self-2 : goal.invariant_of-self-2
invariant_of-self-2 g c =
    let i = c.self.inside in
    let stores : Stores = stores_of (g.P.Store.state i.cache) i.base i.cache_stopped i.base_stopped i.pending in
    let none : i.pending ≡ None = ap (λ (v : GroupView). v.stores.pending) c.self.view_is ∙ c.requires.settled in
    let told = c.in_ok-told.told in
    let parts : LandsTold told c.args.reply i.history.log c.land_told.new.history.log i.calls c.land_told.new.calls i.wires c.land_told.new.wires c.land_told.result =
    subst (λ (l : Log). LandsTold told c.args.reply l c.land_told.new.history.log i.calls c.land_told.new.calls i.wires c.land_told.new.wires c.land_told.result) c.reserve.ensures.same c.land_told.ensures in
    (told_all stores i.history.log c.land_told.new.history.log i.calls c.land_told.new.calls i.wires c.land_told.new.wires i.start i.agent i.base c.args.reply c.self.invariant none told c.in_ok-told.ensures
    c.land_told.result parts).kept

pub returns-clause-lands : goal.returns-clause-lands
returns-clause-lands g c =
    let i = c.self.inside in
    let stores : Stores = stores_of (g.P.Store.state i.cache) i.base i.cache_stopped i.base_stopped i.pending in
    let none : i.pending ≡ None = ap (λ (v : GroupView). v.stores.pending) c.self.view_is ∙ c.requires.settled in
    let told = c.in_ok-told.told in
    let parts : LandsTold told c.args.reply i.history.log c.land_told.new.history.log i.calls c.land_told.new.calls i.wires c.land_told.new.wires c.land_told.result =
    subst (λ (l : Log). LandsTold told c.args.reply l c.land_told.new.history.log i.calls c.land_told.new.calls i.wires c.land_told.new.wires c.land_told.result) c.reserve.ensures.same c.land_told.ensures in
    let new : GroupView = group_of stores c.land_told.new.history.log c.land_told.new.calls.calls c.land_told.new.wires.traffic i.start i.agent in
    let all =
    told_all stores i.history.log c.land_told.new.history.log i.calls c.land_told.new.calls i.wires c.land_told.new.wires i.start i.agent i.base c.args.reply c.self.invariant none told c.in_ok-told.ensures
    c.land_told.result parts in
    subst (λ (v : GroupView). HearsWrite c.args.reply v new c.land_told.result) c.self.view_is all.is

pub returns-clause-step : goal.returns-clause-step
returns-clause-step g c =
    let i = c.self.inside in
    let stores : Stores = stores_of (g.P.Store.state i.cache) i.base i.cache_stopped i.base_stopped i.pending in
    let none : i.pending ≡ None = ap (λ (v : GroupView). v.stores.pending) c.self.view_is ∙ c.requires.settled in
    let told = c.in_ok-told.told in
    let parts : LandsTold told c.args.reply i.history.log c.land_told.new.history.log i.calls c.land_told.new.calls i.wires c.land_told.new.wires c.land_told.result =
    subst (λ (l : Log). LandsTold told c.args.reply l c.land_told.new.history.log i.calls c.land_told.new.calls i.wires c.land_told.new.wires c.land_told.result) c.reserve.ensures.same c.land_told.ensures in
    let new : GroupView = group_of stores c.land_told.new.history.log c.land_told.new.calls.calls c.land_told.new.wires.traffic i.start i.agent in
    let all =
    told_all stores i.history.log c.land_told.new.history.log i.calls c.land_told.new.calls i.wires c.land_told.new.wires i.start i.agent i.base c.args.reply c.self.invariant none told c.in_ok-told.ensures
    c.land_told.result parts in
    subst (λ (v : GroupView). KeepsQuietly v new) c.self.view_is all.step
