use Rattle.std.proofs.Common.{inl, inr, List, ℕ, subst, sym}
use Rattle.std.specs.Prelude.{Option, None}
use Rattle.tier_core.specs.Blocks.{Blocks, MayWant}
use Rattle.tier_flight.specs.declared.busy.Busy.{Busy}
use Rattle.tier_flight.specs.declared.busy.Want.{Want}
use Rattle.tier_moves.specs.Asks.{want_of}
use Rattle.tier_types.specs.Flights.{name_asked}
use Rattle.tier_moves.proofs.Away.{is_held_up, may_want, turned_away}
use Rattle.tier_moves.proofs.OneSteps.{quiet_step_of}
use Rattle.tier_moves.specs.Begins.{IsStepOf}
use Rattle.tier_moves.specs.Endings.{Drops}
use Rattle.tier_moves.specs.declared.begun.Begun.TheVariants.{NoMemory}
use Rattle.tier_view.specs.Views.{GroupView}
use Rattle.tier_moves.proofs.turning.turn_away.Goals as goal

pub block_call-requires : goal.block_call-requires
block_call-requires g c =
    subst (λ (w : Want). MayWant c.args.g.now c.args.turn c.name_asked.result.now w None)
    (sym c.want_of.ensures)
    (subst (λ (k : List ℕ). MayWant c.args.g.now c.args.turn k (want_of c.args.ask.now) None)
    (sym c.name_asked.ensures)
    (may_want c.args.g.now c.args.turn c.args.ask.now c.requires.entered))

pub unreachable-requires : goal.unreachable-requires
unreachable-requires g c =
    let b : Blocks c.args.turn (name_asked c.args.ask.now) (want_of c.args.ask.now) None
    c.args.g.now c.block_call.new.self None =
    subst (λ (w : Want). Blocks c.args.turn (name_asked c.args.ask.now) w None c.args.g.now
    c.block_call.new.self None) c.want_of.ensures
    (subst (λ (k : List ℕ). Blocks c.args.turn k c.want_of.result None c.args.g.now
    c.block_call.new.self None) c.name_asked.ensures
    (subst (λ (o : Option Busy). Blocks c.args.turn c.name_asked.result.now c.want_of.result None
    c.args.g.now c.block_call.new.self o) c.in-Ok-None.field-0-is c.in-Ok-None.ensures.blocked))
    in
    let held = is_held_up c.args.g.now c.args.turn c.args.ask.now c.requires.entered
    c.requires.held in
    b.1 held.0 held.1

pub returns-in-Ok-Some-clause-away : goal.returns-in-Ok-Some-clause-away
returns-in-Ok-Some-clause-away g c =
    inl (turned_away c.args.g.now c.block_call.new.self c.args.turn c.args.ask.now
    c.in-Ok-Some.field-0 _ c.in-Ok-Some.field-0-is
    (subst (λ (w : Want). Blocks c.args.turn (name_asked c.args.ask.now) w None c.args.g.now
    c.block_call.new.self c.in-Ok-Some.field-0) c.want_of.ensures
    (subst (λ (k : List ℕ). Blocks c.args.turn k c.want_of.result None c.args.g.now
    c.block_call.new.self c.in-Ok-Some.field-0) c.name_asked.ensures
    c.in-Ok-Some.ensures.blocked)))

pub returns-in-Ok-Some-clause-step : goal.returns-in-Ok-Some-clause-step
returns-in-Ok-Some-clause-step g c =
    quiet_step_of c.args.g.now c.block_call.new.self c.in-Ok-Some.ensures.step

pub returns-in-Err-clause-away : goal.returns-in-Err-clause-away
returns-in-Err-clause-away g c =
    inr (subst (λ (v : GroupView). Drops c.args.turn NoMemory v c.drop_as.new.g c.drop_as.result)
    c.in-Err.ensures.refused c.drop_as.ensures.dropped)

pub returns-in-Err-clause-step : goal.returns-in-Err-clause-step
returns-in-Err-clause-step g c =
    subst (λ (v : GroupView). IsStepOf v c.drop_as.new.g) c.in-Err.ensures.refused
    (quiet_step_of c.block_call.new.self c.drop_as.new.g c.drop_as.ensures.step)
