use Rattle.std.proofs.Common.{ap, subst, sym, ◌∙◌}
use Rattle.tier_calls.specs.Tables.{TableView}
use Rattle.tier_chron.specs.Logs.{HistoryView}
use Rattle.tier_traffic.specs.Wires.{WiresView}
use Rattle.tier_view.specs.Views.{GroupView}
use Rattle.tier_core.specs.Keeps.{IsKept}
use Rattle.tier_core.proofs.Founded.{found_kept, made_is}
use Rattle.tier_core.proofs.group.Group.found.Goals as goal

pub invariant_of-result : goal.invariant_of-result
invariant_of-result g c =
    let cache = g.P.Store.state c.args.cache in
    subst (λ (v : GroupView). IsKept v c.args.base c.new-2.result)
    (sym (made_is cache c.args.base c.args.told c.args.setup c.new.result.log c.new-2.result.calls c.new-3.result.traffic c.idle.result c.epoch-base_epoch.result
    (ap (λ (h : HistoryView). h.log) c.new.ensures) (ap (λ (t : TableView). t.calls) c.new-2.ensures) (ap (λ (w : WiresView). w.traffic) c.new-3.ensures) c.idle.ensures c.epoch-base_epoch.ensures.epoch))
    (found_kept cache c.args.base c.args.told c.args.setup c.new-2.result (ap (λ (t : TableView). t.earlier) c.new-2.ensures) c.requires)

pub returns : goal.returns
returns g c =
    made_is (g.P.Store.state c.args.cache) c.args.base c.args.told c.args.setup c.new.result.log c.new-2.result.calls c.new-3.result.traffic c.idle.result c.epoch-base_epoch.result
    (ap (λ (h : HistoryView). h.log) c.new.ensures) (ap (λ (t : TableView). t.calls) c.new-2.ensures) (ap (λ (w : WiresView). w.traffic) c.new-3.ensures) c.idle.ensures c.epoch-base_epoch.ensures.epoch
