-- What holds of the cache's memory and the wire alone: no clause here speaks of a record, a state,
-- or the plain store, so all of it holds over stores that tell nothing of what they have, too.
use Rattle.std.specs.Prelude.{◌≡◌, ◌≢◌, ◌≤◌, ◌<◌, ℕ, ◌+◌, true, List, Option, Some, None}
use Rattle.std.specs.FinMap as map
use Rattle.copy_chunk.specs.declared.chunk.Chunk.{Chunk}
use Rattle.obj_model.specs.declared.req.Req.{Req}
use Rattle.tier_types.specs.Flights.{HasOpid, name_asked}
use Rattle.tier_protocol.specs.Tiers.{Name, Ask, Flight, ReadFlight, BaseMsg, BaseReply, Phase, Flights, Net, IsIn}

-- ---- epochs and operations' numbers

-- A message of some work, or a reply to it: its epoch was begun; until the base has told that it
-- holds a raised epoch none is of that epoch; and its operation's number was given out.
pub record IsGivenOut (cache next : ℕ) (phase : Phase) (e op : ℕ) : Type 0 where
  pub begun : e ≤ cache
  pub silent : phase ≡ Phase.Raised → e < cache
  pub counted : e ≡ cache → op < next

abbrev pub IsGiven : Net → ℕ → ℕ → Type 0
IsGiven net = IsGivenOut net.cache_epoch net.next_opid net.phase

abbrev pub IsSent : Net → BaseMsg → Type 0
IsSent net (BaseMsg.Fence e) = e ≤ net.cache_epoch
IsSent net (BaseMsg.GetChunk e op k at) = IsGiven net e op
IsSent net (BaseMsg.Look e op k v) = IsGiven net e op
IsSent net (BaseMsg.Write e op r) = IsGiven net e op
IsSent net (BaseMsg.Install e op k s) = IsGiven net e op

-- the same of a reply; a want of space is one, and an epoch is refused for what it is
abbrev pub IsReplied : Net → BaseReply → Type 0
IsReplied net (BaseReply.Fenced e) = e ≤ net.cache_epoch
IsReplied net (BaseReply.Chunk e op chunk) = IsGiven net e op
IsReplied net (BaseReply.Looked e op looked) = IsGiven net e op
IsReplied net (BaseReply.Wrote e op acted) = IsGiven net e op
IsReplied net (BaseReply.Installed e op seq) = IsGiven net e op
IsReplied net (BaseReply.NoSpace e op used need limit) =
    (limit < used + need) × (op ≢ 0 → IsGiven net e op)
IsReplied net (BaseReply.OldEpoch have got) = got < have
IsReplied net (BaseReply.NotFenced have got) = have < got

pub record SoundWire (net : Net) : Type 0 where
  -- a cache that went on from a stop has an epoch
  pub begun : net.phase ≢ Phase.Down → 0 < net.cache_epoch
  pub fenced : net.fenced ≡ true → net.phase ≡ Phase.Up
  -- operations are counted from 1, so that none has the number of a Fence
  pub from_one : 0 < net.next_opid
  pub sent : (m : BaseMsg) → IsIn m net.wire → IsSent net m
  pub replied : (p : BaseReply) → IsIn p net.replies → IsReplied net p

-- ---- the work on a name

-- a message that this work on the name sends, at first, again, or where another call takes it over
abbrev pub IsFor : Name → Option Flight → BaseMsg → Type 0
IsFor n (Some (Flight.Promote call o gather ask)) (BaseMsg.GetChunk e op k at) = k ≡ n
IsFor n (Some (Flight.Write driver owner o r)) (BaseMsg.Write e op q) = q ≡ r
IsFor n (Some (Flight.Reads list)) (BaseMsg.Look e op k v) =
    (k ≡ n) × ((r : ReadFlight) → IsIn r list → r.opid ≡ op → r.vector ≡ v)
IsFor n (Some (Flight.Flush call o seq blocking drain)) (BaseMsg.Install e op k s) = k ≡ n
IsFor n flight m = ⊥

-- a message of this epoch with a number of this work is one that the work sends
abbrev pub IsOwn : Name → Option Flight → ℕ → BaseMsg → Type 0
IsOwn n f epoch (BaseMsg.Fence e) = Unit {0}
IsOwn n f epoch (BaseMsg.GetChunk e op k at) =
    e ≡ epoch → HasOpid f op → IsFor n f (BaseMsg.GetChunk e op k at)
IsOwn n f epoch (BaseMsg.Look e op k v) =
    e ≡ epoch → HasOpid f op → IsFor n f (BaseMsg.Look e op k v)
IsOwn n f epoch (BaseMsg.Write e op r) = e ≡ epoch → HasOpid f op → IsFor n f (BaseMsg.Write e op r)
IsOwn n f epoch (BaseMsg.Install e op k s) =
    e ≡ epoch → HasOpid f op → IsFor n f (BaseMsg.Install e op k s)

pub record SoundFlight (n : Name) (f : Option Flight) (net : Net) : Type 0 where
  -- work is under way only where the base told the epoch since the cache's last stop
  pub up : f ≢ None → net.phase ≡ Phase.Up
  pub counted : (op : ℕ) → HasOpid f op → (0 < op) × (op < net.next_opid)
  -- a request under way, or one that a promotion will serve, is of this name
  pub named : (driver : Option ℕ) (owner op : ℕ) (r : Req)
      → f ≡ Some (Flight.Write driver owner op r)
      → r.name ≡ n
  pub asked : (call op : ℕ) (gather : List Chunk) (ask : Ask)
      → f ≡ Some (Flight.Promote call op gather ask) → name_asked ask ≡ n
  -- reads of one number are one read
  pub single : (list : List ReadFlight) (r q : ReadFlight) → f ≡ Some (Flight.Reads list)
      → IsIn r list
      → IsIn q list → r.opid ≡ q.opid → r ≡ q
  pub own : (m : BaseMsg) → IsIn m net.wire → IsOwn n f net.cache_epoch m

-- no two names have work of one number
abbrev pub AreApart : Flights → Type 0
AreApart flights =
    (n k : Name) (op : ℕ) → HasOpid (map.get flights n) op → HasOpid (map.get flights k) op → n ≡ k

-- the memory of the cache, with the wire, is as it has to be
pub record SoundMemory (flights : Flights) (net : Net) : Type 0 where
  pub wire : SoundWire net
  pub apart : AreApart flights
  pub each : (n : Name) → SoundFlight n (map.get flights n) net
