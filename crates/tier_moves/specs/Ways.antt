-- The way of a client's call whose name has no record in the cache.
use Rattle.std.specs.Prelude.{◌≡◌, ◌<◌, ◌==◌, ◌⊎◌, if◌then◌else◌, not, ℕ, Bool, true, false, length, Option, Some, None}
use Rattle.agent_state.specs.Modes.{modes_of}
use Rattle.agent_state.specs.declared.modes.Modes.{Modes}
use Rattle.agent_state.specs.declared.totals.Totals.{Totals}
use Rattle.agent_state.specs.declared.modes.EvictMode.{EvictMode}
use Rattle.agent_state.specs.declared.modes.EvictMode.TheVariants as evict
use Rattle.obj_model.specs.declared.tier.Mode.{Mode}
use Rattle.obj_model.specs.declared.tier.Mode.TheVariants.{Writeback}
use Rattle.obj_model.specs.declared.tier.Path.TheVariants.{Promote}
use Rattle.obj_model.specs.declared.req.Req.{Req}
use Rattle.tier_chron.specs.Shapes.{HasNoAct}
use Rattle.tier_chron.specs.declared.answer.Answer.TheVariants as answer
use Rattle.tier_chron.specs.declared.asked.Asked.TheVariants.{Write}
use Rattle.tier_chron.specs.declared.entries.Logged.{Logged}
use Rattle.tier_core.specs.Blocks.{IsFresh}
use Rattle.tier_core.specs.Serves.{asked_of}
use Rattle.tier_core.specs.Turns.{IsTurn}
use Rattle.tier_core.specs.declared.turns.Turn.{Turn}
use Rattle.tier_moves.specs.Asks.{writes}
use Rattle.tier_moves.specs.Choices.{Where}
use Rattle.tier_moves.specs.Endings.{Drops, Ends, failed_here}
use Rattle.tier_moves.specs.Stands.{stand_of}
use Rattle.tier_moves.specs.declared.begun.Begun.{Begun}
use Rattle.tier_moves.specs.declared.begun.Begun.TheVariants.{NoMemory, Unbuilt}
use Rattle.tier_moves.specs.declared.begun.Unbuilt.TheVariants as unbuilt
use Rattle.tier_moves.specs.declared.standing.Stand.TheVariants.{Clear}
use Rattle.tier_route.specs.Routes.{route_of}
use Rattle.tier_route.specs.declared.routing.Routed.{Routed}
use Rattle.tier_route.specs.declared.routing.Routed.TheVariants.{Go, Full}
use Rattle.tier_types.specs.Flights.{name_asked}
use Rattle.tier_types.specs.declared.flight.Ask.{Ask}
use Rattle.tier_view.specs.Agents.{Agents}
use Rattle.tier_view.specs.Answers.{MayCloseNow}
use Rattle.tier_view.specs.Views.{GroupView}
use Rattle.tier_view.specs.Whole.{HasTarget}
use Rattle.std.specs.FinMap as fin

-- The cache is full: its modes say so, by a ratio above one million of a target.
pub record IsFullCache (a : Agents) : Type 0 where
  pub mode : a.modes.evict ≡ evict.Full
  pub above : 1000000 < a.modes.full_micro
  pub target : HasTarget a.share

-- modes that were chosen from what a cache holds say so exactly there
abbrev pub FollowedModesTell : Type 0
FollowedModesTell =
    (a : Agents) (t : Totals) (old : Modes) → a.modes ≡ modes_of t a.values a.share old
    → a.modes.evict ≡ evict.Full → IsFullCache a

-- a way depends on how full the cache is by this alone
abbrev pub evict_as : (full : Bool) → EvictMode
evict_as true = evict.Full
evict_as false = evict.Idle

-- in writeback mode, with room, the hit sets decide, if there are any
abbrev pub asks_sets : Mode → (full : Bool) → (count : ℕ) → Bool
asks_sets Writeback false count = not (count == 0)
asks_sets mode full count = false

-- the way, where no hit set is asked
abbrev pub way_of : (full : Bool) → Mode → (count : ℕ) → (write : Bool) → Option Routed
way_of full mode count write =
    if asks_sets mode full count then None
    else Some (route_of mode (evict_as full) count write false false)

-- ---- what comes of it

-- how full the cache is, at the present number of acts
abbrev pub full_here : Turn → (acts : ℕ) → (micro : ℕ) → Logged
full_here turn acts micro = failed_here turn acts None (answer.Full micro)

-- it is told that the cache is full, or there was not the memory
abbrev pub TellsFull : Turn → (v new : GroupView) → Begun → Type 0
TellsFull turn v new outcome =
    Ends turn (full_here turn (length v.log.acts) v.agent.modes.full_micro) v new outcome
    ⊎ Drops turn NoMemory v new outcome

abbrev pub GoesBy : Option Routed → Turn → (v new : GroupView) → Begun → Type 0
GoesBy None turn v new outcome = Drops turn (Unbuilt unbuilt.Recency) v new outcome
GoesBy (Some Full) turn v new outcome = TellsFull turn v new outcome
GoesBy (Some (Go Promote)) turn v new outcome = Drops turn (Unbuilt unbuilt.Promotion) v new outcome
GoesBy (Some (Go other)) turn v new outcome = Drops turn (Unbuilt unbuilt.Proxying) v new outcome

-- the call goes this way, where the cache is full or not
abbrev pub GoesWhere : (full : Bool) → Turn → Ask → (v new : GroupView) → Begun → Type 0
GoesWhere full turn ask v new outcome =
    GoesBy (way_of full v.agent.mode v.agent.values.hit_set_count (writes ask)) turn v new outcome

-- the call goes the way of its mode, by how full the cache is
abbrev pub Goes : Turn → Ask → (v new : GroupView) → Begun → Type 0
Goes turn ask v new outcome =
    Where (IsFullCache v.agent) (GoesWhere true turn ask v new outcome)
    (GoesWhere false turn ask v new outcome)

-- ---- what it takes

-- A request that writes, of this turn, which has no act and is over for good with this answer; and
-- the cache is full.
pub record MayTellFull (v : GroupView) (turn : Turn) : Type 0 where
  pub req : Req
  pub turn_is : IsTurn v turn (Write req)
  pub full : IsFullCache v.agent
  pub unacted : HasNoAct turn.call v.log.acts
  pub closes : MayCloseNow v turn.call

abbrev pub MayGoBy : GroupView → Turn → Option Routed → Type 0
MayGoBy v turn None = Unit {0}
MayGoBy v turn (Some Full) = MayTellFull v turn
MayGoBy v turn (Some (Go way)) = Unit {0}

-- A client's call of this turn, which began nothing yet; no work on its name lets it wait, and
-- nothing is in doubt.
pub record MayGo (v : GroupView) (turn : Turn) (ask : Ask) : Type 0 where
  pub turn_is : IsTurn v turn (asked_of ask)
  pub settled : v.stores.pending ≡ None
  pub fresh : IsFresh v.log v.traffic turn.call
  pub clear : stand_of (fin.get v.traffic.flights (name_asked ask)) (writes ask) ≡ Clear
