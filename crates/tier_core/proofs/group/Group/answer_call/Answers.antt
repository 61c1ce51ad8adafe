use Rattle.std.proofs.Common.{◌≡◌, length, Some, ap, subst, sym, ◌∙◌}
use Rattle.tier_chron.specs.Logs.{Log}
use Rattle.tier_view.specs.Answers.{KeepsQuietly, told_log}
use Rattle.tier_view.specs.Stores.{Stores}
use Rattle.tier_view.specs.Views.{GroupView}
use Rattle.tier_core.specs.Ends.{IsEnded, MayAnswer, calls_ended}
use Rattle.tier_core.specs.Parts.{group_of, stores_of}
use Rattle.tier_core.proofs.EndedCalls.{answered_quietly, end_is, end_kept, end_step}
use Rattle.tier_core.proofs.group.Group.answer_call.Goals as goal

pub invariant_of-self-2 : goal.invariant_of-self-2
invariant_of-self-2 g c =
    let i = c.self.inside in
    let call = c.args.logged.call in
    let stores : Stores = stores_of (g.P.Store.state i.cache) i.base i.cache_stopped i.base_stopped i.pending in
    let old : GroupView = group_of stores i.history.log i.calls.calls i.wires.traffic i.start i.agent in
    let e = c.end_parts.ensures in
    let may : MayAnswer old c.args.logged = subst (λ (v : GroupView). MayAnswer v c.args.logged) (sym c.self.view_is) c.requires in
    end_kept stores i.history.log c.end_parts.new.history.log i.calls c.end_parts.new.calls i.wires c.end_parts.new.wires i.start i.agent i.base call (Some c.args.logged) c.end_parts.result
    (e.log ∙ ap (told_log (Some c.args.logged)) c.reserve.ensures.same)
    (e.calls ∙ ap (λ (l : Log). calls_ended (length l.answers) call c.end_parts.result i.calls) c.reserve.ensures.same) e.wires c.self.invariant
    (answered_quietly old call c.end_parts.new.wires.traffic.flights c.end_parts.result c.self.invariant.whole e.reads e.goes e.left c.args.logged (may c.end_parts.result))

pub returns-clause-ended : goal.returns-clause-ended
returns-clause-ended g c =
    let i = c.self.inside in
    let call = c.args.logged.call in
    let stores : Stores = stores_of (g.P.Store.state i.cache) i.base i.cache_stopped i.base_stopped i.pending in
    let new : GroupView = group_of stores c.end_parts.new.history.log c.end_parts.new.calls.calls c.end_parts.new.wires.traffic i.start i.agent in
    let e = c.end_parts.ensures in
    subst (λ (v : GroupView). IsEnded call (Some c.args.logged) v new) c.self.view_is
    (end_is stores i.history.log c.end_parts.new.history.log i.calls c.end_parts.new.calls i.wires c.end_parts.new.wires i.start i.agent i.base call (Some c.args.logged) c.end_parts.result
    (e.log ∙ ap (told_log (Some c.args.logged)) c.reserve.ensures.same)
    (e.calls ∙ ap (λ (l : Log). calls_ended (length l.answers) call c.end_parts.result i.calls) c.reserve.ensures.same) e.wires e.goes e.left)

pub returns-clause-step : goal.returns-clause-step
returns-clause-step g c =
    let i = c.self.inside in
    let call = c.args.logged.call in
    let stores : Stores = stores_of (g.P.Store.state i.cache) i.base i.cache_stopped i.base_stopped i.pending in
    let old : GroupView = group_of stores i.history.log i.calls.calls i.wires.traffic i.start i.agent in
    let new : GroupView = group_of stores c.end_parts.new.history.log c.end_parts.new.calls.calls c.end_parts.new.wires.traffic i.start i.agent in
    let e = c.end_parts.ensures in
    let may : MayAnswer old c.args.logged = subst (λ (v : GroupView). MayAnswer v c.args.logged) (sym c.self.view_is) c.requires in
    subst (λ (v : GroupView). KeepsQuietly v new) c.self.view_is
    (end_step stores i.history.log c.end_parts.new.history.log i.calls c.end_parts.new.calls i.wires c.end_parts.new.wires i.start i.agent i.base call (Some c.args.logged) c.end_parts.result
    (e.log ∙ ap (told_log (Some c.args.logged)) c.reserve.ensures.same)
    (e.calls ∙ ap (λ (l : Log). calls_ended (length l.answers) call c.end_parts.result i.calls) c.reserve.ensures.same) e.wires
    (answered_quietly old call c.end_parts.new.wires.traffic.flights c.end_parts.result c.self.invariant.whole e.reads e.goes e.left c.args.logged (may c.end_parts.result)))
