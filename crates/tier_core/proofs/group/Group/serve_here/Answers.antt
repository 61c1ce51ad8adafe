use Rattle.std.proofs.Common.{List, ℕ, Option, Some, None, subst, sym}
use Rattle.std.specs.Prelude.{Ok}
use Rattle.cache_pool.specs.Reads.{IsLawful}
use Rattle.tier_join.specs.Steps.{HasRec}
use Rattle.tier_types.specs.declared.record.TierRec.{TierRec}
use Rattle.tier_view.specs.Views.{joined}
use Rattle.tier_core.specs.Serves.{IsBare, asked_of}
use Rattle.tier_core.specs.declared.serving.Served.{Served}
use Rattle.tier_types.specs.Flights.{name_asked}
use Rattle.tier_core.proofs.ServedAsk.{absent_serves, hit_serves, read_live, read_may, read_settled, read_turn, served_is_not_bare, unread_serves}
use Rattle.tier_core.proofs.group.Group.serve_here.Goals as goal

pub returns-in-Err : goal.returns-in-Err
returns-in-Err g c = record {
  serves = unread_serves c.name_asked.result.now c.args.turn c.args.ask.now c.args.self.now c.read_here.new.self c.name_asked.ensures c.in-Err.ensures.step c.in-Err.fault c.in-Err.ensures.read;
  bare = tt;
}

pub returns-in-Ok-None : goal.returns-in-Ok-None
returns-in-Ok-None g c = record {
  serves = absent_serves c.name_asked.result.now c.args.turn c.args.ask.now c.args.self.now c.read_here.new.self c.name_asked.ensures c.in-Ok-None.ensures.step c.in-Ok-None.field-0 c.in-Ok-None.field-0-is c.in-Ok-None.ensures.read;
  bare = subst (λ (k : List ℕ). HasRec (joined c.read_here.new.self) k None) c.name_asked.ensures
      (subst (λ (o : Option TierRec). HasRec (joined c.read_here.new.self) c.name_asked.result.now o) c.in-Ok-None.field-0-is c.in-Ok-None.ensures.found);
}

pub serve_held-requires-clause-live : goal.serve_held-requires-clause-live
serve_held-requires-clause-live g c = read_live c.name_asked.result.now c.args.self.now c.read_here.new.self c.in-Ok-Some.field-0 c.in-Ok-Some.ensures.read c.requires.live

pub serve_held-requires-clause-settled : goal.serve_held-requires-clause-settled
serve_held-requires-clause-settled g c = read_settled c.name_asked.result.now c.args.self.now c.read_here.new.self (Ok c.in-Ok-Some.field-0) c.in-Ok-Some.ensures.read

pub serve_held-requires-clause-turn : goal.serve_held-requires-clause-turn
serve_held-requires-clause-turn g c =
    read_turn c.name_asked.result.now c.args.self.now c.read_here.new.self (Ok c.in-Ok-Some.field-0) c.in-Ok-Some.ensures.read c.args.turn (asked_of c.args.ask.now) c.requires.turn

pub serve_held-requires-clause-may : goal.serve_held-requires-clause-may
serve_held-requires-clause-may g c =
    read_may c.name_asked.result.now c.args.self.now c.read_here.new.self (Ok c.in-Ok-Some.field-0) c.in-Ok-Some.ensures.read c.args.turn.call c.args.ask.now c.requires.may

pub serve_held-requires-clause-has : goal.serve_held-requires-clause-has
serve_held-requires-clause-has g c =
    subst (λ (k : List ℕ). HasRec (joined c.read_here.new.self) k (Some c.in-Ok-Some.held)) c.name_asked.ensures
    (subst (λ (o : Option TierRec). HasRec (joined c.read_here.new.self) c.name_asked.result.now o) c.in-Ok-Some.field-0-is c.in-Ok-Some.ensures.found)

pub serve_held-requires-clause-lawful : goal.serve_held-requires-clause-lawful
serve_held-requires-clause-lawful g c = subst IsLawful c.in-Ok-Some.field-0-is c.in-Ok-Some.ensures.lawful

pub returns-in-Ok-Some : goal.returns-in-Ok-Some
returns-in-Ok-Some g c = record {
  serves = hit_serves c.name_asked.result.now c.args.turn c.args.ask.now c.args.self.now c.read_here.new.self c.name_asked.ensures c.in-Ok-Some.ensures.step
      c.in-Ok-Some.field-0 c.in-Ok-Some.held c.serve_held.new.self c.serve_held.result c.served_as.result
      c.in-Ok-Some.field-0-is c.served_as.ensures c.in-Ok-Some.ensures.read c.serve_held.ensures.served c.serve_held.ensures.step;
  bare = subst (λ (x : Served). IsBare c.serve_held.new.self (name_asked c.args.ask.now) x) (sym c.served_as.ensures) (served_is_not_bare c.serve_held.new.self (name_asked c.args.ask.now) c.serve_held.result);
}
