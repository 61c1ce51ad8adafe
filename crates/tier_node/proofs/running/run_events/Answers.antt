use Rattle.std.proofs.Common.{rules, ◌≡◌, ◌+◌, List, sym, [], subst, drop, arith}
use Rattle.std.proofs.lemmas.List.{append-nil}
use Rattle.std.proofs.Math.ListN.{drop_of_length-le}
use Rattle.tier_node.proofs.Joined.{run_behind, run_holds}
use Rattle.tier_node.proofs.Listed.{GoesOn, ended, went_on}
use Rattle.tier_node.specs.declared.outcome.Outcome.{Outcome}
use Rattle.tier_node.proofs.running.run_events.Goals as goal

pub returns-clause-runs : goal.returns-clause-runs
returns-clause-runs g c =
    let none : drop c.loop-event.event-index c.args.events.now ≡ [] = drop_of_length-le c.args.events.now (search rules) in
    ended c.args.events.now c.args.g.now c.loop-event.g c.loop-event.event-index c.loop-event.outcomes.items none (append-nil c.loop-event.outcomes.items) c.loop-event.invariant.on

pub returns-clause-holds : goal.returns-clause-holds
returns-clause-holds g c = run_holds c.args.g.now c.loop-event.g c.rest.ensures.whole c.loop-event.invariant.run

pub loop-event-preserved : goal.loop-event-preserved
loop-event-preserved g c = record {
  on = subst (λ (os : List Outcome). GoesOn c.args.events.now c.args.g.now c.step.new.g (c.loop-event.event-index + 1) os) (sym c.push_reserved.ensures.items)
      (went_on c.args.events.now c.loop-event.event-index _ c.args.g.now c.loop-event.g c.step.new.g c.step.result c.loop-event.outcomes.items c.loop-event-test.true (search rules) c.step.ensures.steps c.step.ensures.run c.loop-event.invariant.on);
  run = run_behind c.args.g.now c.loop-event.g c.step.new.g c.loop-event.invariant.run c.step.ensures.run;
  room = omega (arith, c.push_reserved.ensures.len, c.push_reserved.ensures.capacity, c.loop-event.invariant.room, c.loop-event-test.true);
}
