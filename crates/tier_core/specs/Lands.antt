-- How a proxied write lands: the base told what became of it.
use Rattle.std.specs.Prelude.{◌≡◌, ◌==◌, ℕ, List, length, Option, Some, None, if◌then◌else◌}
use Rattle.std.specs.FinMap as fin
use Rattle.obj_model.specs.Limits.{number_limit}
use Rattle.obj_model.specs.declared.req.Req.{Req}
use Rattle.obj_model.specs.declared.tier.Path.TheVariants.{ProxyWrite}
use Rattle.tier_calls.specs.Tables.{TableView}
use Rattle.tier_chron.specs.Logs.{Log}
use Rattle.tier_chron.specs.Places.{act_at}
use Rattle.tier_chron.specs.Shapes.{HasNoAct}
use Rattle.tier_chron.specs.declared.answer.Answer.{Answer}
use Rattle.tier_chron.specs.declared.answer.Answer.TheVariants as answer
use Rattle.tier_chron.specs.declared.asked.Asked.{Asked}
use Rattle.tier_chron.specs.declared.asked.Asked.TheVariants.{Write}
use Rattle.tier_chron.specs.declared.entries.Act.{Act}
use Rattle.tier_chron.specs.declared.entries.Logged.{Logged}
use Rattle.tier_core.specs.Ends.{EndsParts, IsEnded, calls_gone}
use Rattle.tier_core.specs.declared.lands.Own.{Own}
use Rattle.tier_core.specs.declared.lands.Told.{Told}
use Rattle.tier_core.specs.declared.lands.Wrote.{Wrote}
use Rattle.tier_core.specs.declared.landing.Landing.{Landing}
use Rattle.tier_core.specs.declared.landing.Landing.TheVariants as landing
use Rattle.tier_core.specs.declared.turns.Turn.{Turn}
use Rattle.tier_protocol.specs.Tiers.{BaseActed, BaseReply, Flight, Flights, Name}
use Rattle.tier_traffic.specs.Messages.{replied_of}
use Rattle.tier_traffic.specs.Wires.{WiresView, carrying}
use Rattle.tier_view.specs.Answered.{kept_answer, landed_write, own_answer}
use Rattle.tier_view.specs.Calls.{entry_of}
use Rattle.tier_view.specs.declared.parts.Entry.{Entry}
use Rattle.tier_view.specs.Changes.{unawaited, without_reply}
use Rattle.tier_view.specs.Starts.{forgot_awaited, forgot_reply}
use Rattle.tier_view.specs.Traffic.{Traffic}
use Rattle.tier_view.specs.declared.parts.Replied.{Replied}
use Rattle.tier_view.specs.Views.{GroupView}

-- ---- what was told, and of which write

-- what a reply of this epoch tells of a write request, and of which operation
abbrev pub wrote_by : (epoch : ℕ) → BaseReply → Option Wrote
wrote_by epoch (BaseReply.Wrote e op a) =
    if e == epoch then Some (record { opid = op; acted = a }) else None
wrote_by epoch other = None

abbrev pub wrote_in : (epoch : ℕ) → Option Replied → Option Wrote
wrote_in epoch None = None
wrote_in epoch (Some r) = wrote_by epoch r.reply

-- The reply of this number tells this of a write request under way that a call drives.
pub record IsTold (t : Traffic) (epoch number : ℕ) (told : Told) : Type 0 where
  pub wrote : wrote_in epoch (replied_of t.replies number) ≡ Some told.wrote
  pub req : Req
  pub flight : fin.get t.flights told.name
      ≡ Some (Flight.Write (Some told.driver) told.owner told.wrote.opid req)

-- the calls that drive and own the write request that this work is, if a call drives it
abbrev pub driven_by : Flight → Option (ℕ × ℕ)
driven_by (Flight.Write (Some driver) owner op r) = Some (driver, owner)
driven_by other = None

abbrev pub driven_on : Option Flight → Option (ℕ × ℕ)
driven_on None = None
driven_on (Some f) = driven_by f

-- the write request that is this operation is the one of which this was told
pub record IsDriven (flights : Flights) (wrote : Wrote) (told : Told) : Type 0 where
  pub same : told.wrote ≡ wrote
  pub req : Req
  pub flight : fin.get flights told.name
      ≡ Some (Flight.Write (Some told.driver) told.owner wrote.opid req)

-- no call drives it
abbrev pub IsUndriven : Flights → Wrote → Type 0
IsUndriven flights wrote = (told : Told) → IsDriven flights wrote told → ⊥

-- it tells of one
abbrev pub IsToldOf : Traffic → (epoch number : ℕ) → Type 0
IsToldOf t epoch number = (told : Told) × IsTold t epoch number told

-- it tells of none
abbrev pub IsUntold : Traffic → (epoch number : ℕ) → Type 0
IsUntold t epoch number = (told : Told) → IsTold t epoch number told → ⊥

-- ---- who is answered

-- the turn of a call that asked a write request
abbrev pub turn_by : (call : ℕ) → Asked → (line : Option ℕ) → (begin : ℕ) → Option Turn
turn_by call (Write r) (Some line) begin =
    Some (record { call = call; line = line; begin = begin })
turn_by call asked line begin = None

abbrev pub turn_in : (call : ℕ) → Option Entry → Option Turn
turn_in call None = None
turn_in call (Some e) = turn_by call e.asked e.line e.begin

-- The owner of a write request that landed is answered where it drives it, and asked a write
-- request: where both stores tell, the owner of a write request asked it.
abbrev pub owner_turn : (driver owner : ℕ) → List Entry → Option Turn
owner_turn driver owner entries =
    if driver == owner then turn_in owner (entry_of entries owner) else None

-- ---- what it is answered

-- the own act of a call, with its number, or that it has none
abbrev pub IsOwn : (call : ℕ) → List Act → Option Own → Type 0
IsOwn call acts None = HasNoAct call acts
IsOwn call acts (Some own) =
    (a : Act) × (act_at acts own.place ≡ Some a) × (a.call ≡ call) × (a.reply ≡ own.reply)

-- a call's act is looked for where the base told that its request acted just now
abbrev pub IsOwnFor : (call : ℕ) → List Act → BaseActed → Option Own → Type 0
IsOwnFor call acts (BaseActed.Fresh given) own = IsOwn call acts own
IsOwnFor call acts told own = own ≡ None

-- its own act's number, or the present number of acts
abbrev pub landed_place : (acts : ℕ) → Option Own → ℕ
landed_place acts (Some own) = own.place
landed_place acts None = acts

-- what the base told, as the plain store answers it from then on; there is one limit of all numbers
abbrev pub told_answer : BaseActed → Answer
told_answer (BaseActed.Fresh given) = kept_answer given
told_answer (BaseActed.Again given) = kept_answer given
told_answer (BaseActed.Stale kept) = answer.Stale kept
told_answer (BaseActed.Worn limit) = answer.Worn number_limit

-- By its own act, where the request acted just now; else what the base told. Where both stores tell
-- and it acted just now, there is that act, and the base told its reply.
abbrev pub landed_answer : BaseActed → Option Own → Answer
landed_answer a (Some own) = own_answer own.reply
landed_answer a None = told_answer a

abbrev pub landed_here : Turn → (acts : ℕ) → BaseActed → Option Own → Logged
landed_here turn acts a own = record {
  call = turn.call;
  line = turn.line;
  begin = turn.begin;
  place = landed_place acts own;
  end = acts;
  path = Some ProxyWrite;
  answer = landed_answer a own;
}

-- ---- the parts

-- what is between the pools where the work on this name and the reply of this number are gone
abbrev pub wires_landed : Name → (number : ℕ) → WiresView → WiresView
wires_landed k number w =
    carrying
    (without_reply number (record w.traffic { flights = fin.remove w.traffic.flights k })) w

-- the same where a call awaits nothing
abbrev pub wires_unawaited : (call : ℕ) → WiresView → WiresView
wires_unawaited call w =
    carrying (record w.traffic { awaited = unawaited call w.traffic.awaited }) w

-- the owner was answered, and its call is over
pub record EndsOwner (told : Told) (number : ℕ) (log after : Log) (t u : TableView)
    (w x : WiresView) (call : ℕ) : Type 0 where
  pub turn : Turn
  pub is_turn : owner_turn told.driver told.owner t.calls.entries ≡ Some turn
  pub is_call : call ≡ turn.call
  pub own : Option Own
  pub is_own : IsOwnFor turn.call log.acts told.wrote.acted own
  pub ends : EndsParts (landed_here turn (length log.acts) told.wrote.acted own) log after
      (calls_gone (length log.answers) (Some told.wrote.opid) t) u
      (wires_landed told.name number w) x

-- the driver goes on
pub record FreesDriver (told : Told) (number : ℕ) (log after : Log) (t u : TableView)
    (w x : WiresView) (call : ℕ) : Type 0 where
  pub none : owner_turn told.driver told.owner t.calls.entries ≡ None
  pub is_call : call ≡ told.driver
  pub log_is : after ≡ log
  pub calls : u ≡ calls_gone (length log.answers) (Some told.wrote.opid) t
  pub wires : x ≡ wires_unawaited told.driver (wires_landed told.name number w)

abbrev pub LandsParts : Told → (number : ℕ) → (log after : Log) → (t u : TableView)
    → (w x : WiresView) → Landing → Type 0
LandsParts told number log after t u w x (landing.Answered call) =
    EndsOwner told number log after t u w x call
LandsParts told number log after t u w x (landing.GoesOn call) =
    FreesDriver told number log after t u w x call
LandsParts told number log after t u w x landing.Nothing = ⊥

-- nothing was told, and nothing has changed
pub record NothingLands (log after : Log) (t u : TableView) (w x : WiresView) : Type 0 where
  pub log_is : after ≡ log
  pub calls : u ≡ t
  pub wires : x ≡ w

abbrev pub LandsTold : Option Told → (number : ℕ) → (log after : Log) → (t u : TableView)
    → (w x : WiresView) → Landing → Type 0
LandsTold (Some told) number log after t u w x result =
    LandsParts told number log after t u w x result
LandsTold None number log after t u w x landing.Nothing = NothingLands log after t u w x
LandsTold None number log after t u w x other = ⊥

-- ---- the group

-- a proxied write landed, by the reply of this number, which is forgotten
abbrev pub write_landed : Name → (op number : ℕ) → GroupView → GroupView
write_landed k op number v = forgot_reply number (landed_write k op v)

-- its owner was answered, and its call is over
pub record LandsOwned (number : ℕ) (old new : GroupView) (call : ℕ) : Type 0 where
  pub told : Told
  pub is_told : IsTold old.traffic old.standing.cache_epoch number told
  pub turn : Turn
  pub is_turn : owner_turn told.driver told.owner old.calls.entries ≡ Some turn
  pub is_call : call ≡ turn.call
  pub own : Option Own
  pub is_own : IsOwnFor turn.call old.log.acts told.wrote.acted own
  pub ended : IsEnded turn.call
      (Some (landed_here turn (length old.log.acts) told.wrote.acted own))
      (write_landed told.name told.wrote.opid number old) new

-- another call drove it, or its owner asked none; that call goes on
pub record LandsTaken (number : ℕ) (old new : GroupView) (call : ℕ) : Type 0 where
  pub told : Told
  pub is_told : IsTold old.traffic old.standing.cache_epoch number told
  pub none : owner_turn told.driver told.owner old.calls.entries ≡ None
  pub is_call : call ≡ told.driver
  pub is : new ≡ forgot_awaited told.driver (write_landed told.name told.wrote.opid number old)

-- what the reply of this number makes of a group
abbrev pub HearsWrite : (number : ℕ) → (old new : GroupView) → Landing → Type 0
HearsWrite number old new (landing.Answered call) = LandsOwned number old new call
HearsWrite number old new (landing.GoesOn call) = LandsTaken number old new call
HearsWrite number old new landing.Nothing =
    (new ≡ old) × IsUntold old.traffic old.standing.cache_epoch number
