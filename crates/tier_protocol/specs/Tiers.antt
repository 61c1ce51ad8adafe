-- The two pools, the work under way between them, and the wire, as plain data.
use Rattle.std.specs.Prelude.{ℕ, Bool, List, Option}
use Rattle.std.specs.FinMap as map
use Rattle.obj_model.specs.Names.{name_cmp}
use Rattle.obj_model.specs.declared.req.Req.{Req}
use Rattle.obj_model.specs.declared.state.NameState.{NameState}
use Rattle.obj_ops.specs.Stores.{Store, state_of, replay}
pub use Rattle.tier_types.specs.declared.phase.Phase.{Phase}
pub use Rattle.tier_types.specs.declared.record.TierRec.{TierRec}
pub use Rattle.tier_types.specs.declared.flight.Ask.{Ask}
pub use Rattle.tier_types.specs.declared.flight.Flight.{Flight}
pub use Rattle.tier_types.specs.declared.flight.ReadFlight.{ReadFlight}
pub use Rattle.tier_types.specs.declared.message.BaseMsg.{BaseMsg}
pub use Rattle.tier_types.specs.declared.message.BaseReply.{BaseReply}
pub use Rattle.tier_types.specs.declared.message.BaseActed.{BaseActed}
pub use Rattle.tier_types.specs.Flights.{IsIn, AreIn}

abbrev pub Name : Type 0
Name = List ℕ

-- records by name
abbrev pub Recs : Type 0
Recs = map.FinMap name_cmp TierRec

-- unfinished work by name
abbrev pub Flights : Type 0
Flights = map.FinMap name_cmp Flight

-- The wire and what the cache remembers of it: messages that may still reach the base, replies that
-- may still be received, the epochs of both pools, the next operation's number, how far the cache
-- has come since its last stop, and whether the base told its epoch since its own last stop.
pub record Net : Type 0 where
  pub wire : List BaseMsg
  pub replies : List BaseReply
  pub cache_epoch : ℕ
  pub base_epoch : ℕ
  pub next_opid : ℕ
  pub phase : Phase
  pub fenced : Bool

-- The whole: the cache's records, the base's states, the work under way, the plain store as it was
-- at the beginning with the requests that acted on it since, and the wire.
pub record Tier : Type 0 where
  pub recs : Recs
  pub base : Store
  pub flights : Flights
  pub opening : Store
  pub acts : List Req
  pub net : Net

-- what stands of one name: its record, its state in the base and in the plain store, and its work
pub record Cell : Type 0 where
  pub rec : Option TierRec
  pub base : NameState
  pub plain : NameState
  pub flight : Option Flight

-- the plain store, which is kept nowhere: the one at the beginning, and then each act in turn
abbrev pub plain_of : Tier → Store
plain_of t = replay t.opening t.acts

abbrev pub cell_of : Tier → Name → Cell
cell_of t n = record {
  rec = map.get t.recs n;
  base = state_of t.base n;
  plain = state_of (plain_of t) n;
  flight = map.get t.flights n;
}
