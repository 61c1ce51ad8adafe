-- How a proxied write meets want of room in the base.
use Rattle.std.specs.Prelude.{◌≡◌, ◌==◌, ℕ, List, length, Option, Some, None, if◌then◌else◌}
use Rattle.std.specs.FinMap as fin
use Rattle.obj_model.specs.declared.change.Pool.TheVariants.{Base}
use Rattle.obj_model.specs.declared.req.Req.{Req}
use Rattle.obj_model.specs.declared.tier.Path.{Path}
use Rattle.obj_model.specs.declared.tier.Path.TheVariants.{ProxyWrite}
use Rattle.tier_calls.specs.Tables.{TableView}
use Rattle.tier_chron.specs.Logs.{Log}
use Rattle.tier_chron.specs.declared.answer.Answer.TheVariants as answer
use Rattle.tier_chron.specs.declared.asked.Asked.{Asked}
use Rattle.tier_chron.specs.declared.asked.Asked.TheVariants.{Read}
use Rattle.tier_chron.specs.declared.entries.Logged.{Logged}
use Rattle.tier_core.specs.Ends.{EndsParts, IsEnded}
use Rattle.tier_core.specs.Lands.{owner_turn, turn_by}
use Rattle.tier_core.specs.declared.lacks.Lacked.{Lacked}
use Rattle.tier_core.specs.declared.turns.Turn.{Turn}
use Rattle.tier_protocol.specs.Tiers.{BaseReply, Flight, Flights, Name}
use Rattle.tier_traffic.specs.Messages.{replied_of}
use Rattle.tier_traffic.specs.Wires.{WiresView, carrying}
use Rattle.tier_view.specs.Calls.{entry_of}
use Rattle.tier_view.specs.Changes.{without_reply}
use Rattle.tier_view.specs.Starts.{forgot_reply}
use Rattle.tier_view.specs.Traffic.{Traffic}
use Rattle.tier_view.specs.Views.{GroupView}
use Rattle.tier_view.specs.declared.parts.Entry.{Entry}
use Rattle.tier_view.specs.declared.parts.Replied.{Replied}

-- ---- what was told, and of which write

-- the want of room that a reply of this epoch tells of, and of which operation
abbrev pub lacked_by : (epoch : ℕ) → BaseReply → Option Lacked
lacked_by epoch (BaseReply.NoSpace e op used need limit) =
    if e == epoch then Some (record { opid = op; used = used; need = need; limit = limit })
    else None
lacked_by epoch other = None

abbrev pub lacked_in : (epoch : ℕ) → Option Replied → Option Lacked
lacked_in epoch None = None
lacked_in epoch (Some r) = lacked_by epoch r.reply

-- this call drives the write request of this owner that is this operation
pub record IsDrivenBy (flights : Flights) (op driver owner : ℕ) : Type 0 where
  pub name : Name
  pub req : Req
  pub flight : fin.get flights name ≡ Some (Flight.Write (Some driver) owner op req)

-- the calls that drive and own the write request of this operation, or that no call drives it
abbrev pub TellsDriven : Flights → (op : ℕ) → Option (ℕ × ℕ) → Type 0
TellsDriven flights op (Some d) =
    IsDrivenBy flights op d.0 d.1
    × ((driver owner : ℕ) → IsDrivenBy flights op driver owner
    → (driver ≡ d.0) × (owner ≡ d.1))
TellsDriven flights op None = (driver owner : ℕ) → IsDrivenBy flights op driver owner → ⊥

-- ---- who is answered

-- the turn of a client's call
abbrev pub client_by : (call : ℕ) → Asked → (line : Option ℕ) → (begin : ℕ) → Option Turn
client_by call (Read client name vector) (Some line) begin =
    Some (record { call = call; line = line; begin = begin })
client_by call asked line begin = turn_by call asked line begin

abbrev pub client_in : (call : ℕ) → Option Entry → Option Turn
client_in call None = None
client_in call (Some e) = client_by call e.asked e.line e.begin

-- the way is chosen where the call drives its own request
abbrev pub way_of : Option Turn → Option Path
way_of None = None
way_of (Some turn) = Some ProxyWrite

-- ---- the answer

abbrev pub lacked_here : Turn → (acts : ℕ) → Option Path → Lacked → Logged
lacked_here turn acts way l = record {
  call = turn.call;
  line = turn.line;
  begin = turn.begin;
  place = acts;
  end = acts;
  path = way;
  answer = answer.NoSpace Base l.used l.need l.limit;
}

-- The driver is answered so: the reply of this number tells of want of room for a write request
-- under way that a client's call drives.
pub record IsLacked (log : Log) (entries : List Entry) (t : Traffic) (epoch number : ℕ)
    (logged : Logged) : Type 0 where
  pub lacked : Lacked
  pub told : lacked_in epoch (replied_of t.replies number) ≡ Some lacked
  pub driver : ℕ
  pub owner : ℕ
  pub driven : IsDrivenBy t.flights lacked.opid driver owner
  pub turn : Turn
  pub is_turn : client_in driver (entry_of entries driver) ≡ Some turn
  pub is : logged ≡ lacked_here turn (length log.acts) (way_of (owner_turn driver owner entries))
      lacked

-- the reply of this number tells of one
abbrev pub IsLackedOf : Log → List Entry → Traffic → (epoch number : ℕ) → Type 0
IsLackedOf log entries t epoch number =
    (logged : Logged) × IsLacked log entries t epoch number logged

abbrev pub TellsLacked : Log → List Entry → Traffic → (epoch number : ℕ) → Option Logged → Type 0
TellsLacked log entries t epoch number (Some logged) = IsLacked log entries t epoch number logged
TellsLacked log entries t epoch number None =
    (logged : Logged) → IsLacked log entries t epoch number logged → ⊥

-- ---- the parts, and the group

-- what is between the pools where the reply of this number is forgotten
abbrev pub wires_heard : (number : ℕ) → WiresView → WiresView
wires_heard number w = carrying (without_reply number w.traffic) w

abbrev pub LacksParts : Option Logged → (number : ℕ) → (log after : Log) → (t u : TableView)
    → (w x : WiresView) → Type 0
LacksParts (Some l) number log after t u w x = EndsParts l log after t u (wires_heard number w) x
LacksParts None number log after t u w x = (after ≡ log) × (u ≡ t) × (x ≡ w)

-- its driver was answered, and is over: its write request is left; or nothing has changed
abbrev pub LacksWrite : (number : ℕ) → (old new : GroupView) → Option ℕ → Type 0
LacksWrite number old new (Some call) =
    (l : Logged)
    × IsLacked old.log old.calls.entries old.traffic old.standing.cache_epoch number l
    × (call ≡ l.call) × IsEnded l.call (Some l) (forgot_reply number old) new
LacksWrite number old new None =
    (new ≡ old)
    × TellsLacked old.log old.calls.entries old.traffic old.standing.cache_epoch number None
