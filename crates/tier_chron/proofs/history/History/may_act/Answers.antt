-- The set that is held tells which calls may still act.
use Rattle.std.proofs.Common.{◌↔◌, not, sym, subst, Bool, IsTrue}
use Rattle.tier_chron.specs.Laws.{MayStillAct}
use Rattle.tier_chron.specs.Logs.{HistoryView, Log}
use Rattle.tier_chron.specs.Steps.Histories.{log_of}
use Rattle.tier_chron.proofs.Closing.{may_still_act}
use Rattle.tier_chron.proofs.history.History.may_act.Goals as goal

pub returns : goal.returns
returns c =
    let held = c.self.inside in
    let call = c.args.call in
    let log : Log = log_of held.opening.entries held.acts.items held.answers.items in
    subst (λ (v : HistoryView). IsTrue (not c.contains.result) ↔ MayStillAct call v.log)
    c.self.view_is
    (subst (λ (b : Bool). IsTrue (not b) ↔ MayStillAct call log) (sym c.contains.ensures)
    (may_still_act held.closed.keys log call c.self.invariant.5))
