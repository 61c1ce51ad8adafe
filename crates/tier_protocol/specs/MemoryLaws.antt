-- What is proved of memory and the wire alone. No premise here speaks of a record, a state of a
-- pool, or the plain store, so all of it holds over stores that tell nothing of what they have,
-- too.
use Rattle.std.specs.Prelude.{◌≡◌, ◌≢◌, ◌<◌, ℕ, ◌+◌, Bool, true, false, List, [], ◌∷◌, Option, Some, None}
use Rattle.std.specs.FinMap as map
use Rattle.copy_chunk.specs.declared.chunk.Chunk.{Chunk}
use Rattle.obj_model.specs.declared.state.NameState.{NameState}
use Rattle.tier_types.specs.Flights.{IsLeftOf, lets_read, name_asked}
use Rattle.tier_types.specs.Serving.{served}
use Rattle.tier_protocol.specs.Tiers.{Name, Ask, Flight, ReadFlight, BaseMsg, BaseReply, Phase, Flights, Net, IsIn, AreIn}
use Rattle.tier_protocol.specs.Memory.{IsReplied, SoundMemory}
use Rattle.tier_protocol.specs.Moves.{reads_with, set_at}

-- ---- what memory needs for work to begin, and to send

-- work may begin under the next number where the name is free, or has reads that one more joins
abbrev pub MayStart : Flights → Net → Name → Flight → Type 0
MayStart flights net k (Flight.Promote call o gather ask) =
    (map.get flights k ≡ None) × (o ≡ net.next_opid) × (name_asked ask ≡ k)
MayStart flights net k (Flight.Write driver owner o r) =
    (map.get flights k ≡ None) × (o ≡ net.next_opid) × (r.name ≡ k)
MayStart flights net k (Flight.Reads list) =
    (lets_read (map.get flights k) ≡ true)
    × ((r : ReadFlight) × (r.opid ≡ net.next_opid) × (list ≡ reads_with (map.get flights k) r))
MayStart flights net k (Flight.Flush call o seq blocking drain) =
    (map.get flights k ≡ None) × (o ≡ net.next_opid)

-- a message that work which stands sends, whatever chunk or state is in it
abbrev pub MayTell : Flights → Net → BaseMsg → Type 0
MayTell flights net (BaseMsg.Fence e) = e ≡ net.cache_epoch
MayTell flights net (BaseMsg.GetChunk e op k at) =
    (e ≡ net.cache_epoch)
    × ((call : ℕ) × (gather : List Chunk) × (ask : Ask)
    × (map.get flights k ≡ Some (Flight.Promote call op gather ask)))
MayTell flights net (BaseMsg.Look e op k v) =
    (e ≡ net.cache_epoch)
    × ((list : List ReadFlight) × (r : ReadFlight) × (map.get flights k ≡ Some (Flight.Reads list))
    × IsIn r list × (r.opid ≡ op) × (r.vector ≡ v))
MayTell flights net (BaseMsg.Write e op r) =
    (e ≡ net.cache_epoch)
    × ((driver : Option ℕ) × (owner : ℕ)
    × (map.get flights r.name ≡ Some (Flight.Write driver owner op r)))
MayTell flights net (BaseMsg.Install e op k s) =
    (e ≡ net.cache_epoch)
    × ((call : Option ℕ) × (seq : ℕ) × (blocking : Bool) × (drain : Bool)
    × (map.get flights k ≡ Some (Flight.Flush call op seq blocking drain)))

-- ---- the laws

-- nothing is under way, and nothing on the wire
abbrev pub StartingMemory : Type 0
StartingMemory =
    (cache_epoch base_epoch : ℕ) → SoundMemory map.empty (record {
      wire = [];
      replies = [];
      cache_epoch = cache_epoch;
      base_epoch = base_epoch;
      next_opid = 1;
      phase = Phase.Down;
      fenced = false;
    })

-- A message of the wire is answered. Whatever states and whatever epoch the base has, what it
-- replies and the epoch that it has then keep memory sound.
abbrev pub AnsweringKeepsMemory : Type 0
AnsweringKeepsMemory =
    (flights : Flights) (net : Net) (m : BaseMsg) (have : ℕ) (s : NameState)
    → SoundMemory flights net → IsIn m net.wire
    → SoundMemory flights (record net {
      base_epoch = (served have s m).epoch;
      replies = (served have s m).reply ∷ net.replies;
    })

-- a reply that is given out, such as a want of space; and a base whose epoch is another
abbrev pub ReplyingKeepsMemory : Type 0
ReplyingKeepsMemory =
    (flights : Flights) (net : Net) (p : BaseReply) (e : ℕ) → SoundMemory flights net
    → IsReplied net p
    → SoundMemory flights (record net { replies = p ∷ net.replies })
    × SoundMemory flights (record net { base_epoch = e })

-- messages and replies are lost; calls end, reads among them, and others take over
abbrev pub LosingKeepsMemory : Type 0
LosingKeepsMemory =
    (flights left : Flights) (net : Net) (wire : List BaseMsg) (replies : List BaseReply)
    → SoundMemory flights net → ((n : Name) → IsLeftOf (map.get flights n) (map.get left n))
    → AreIn wire net.wire → AreIn replies net.replies
    → SoundMemory left (record net { wire = wire; replies = replies })

-- the work on a name ends, of whatever kind
abbrev pub EndingKeepsMemory : Type 0
EndingKeepsMemory =
    (flights : Flights) (net : Net) (k : Name) → SoundMemory flights net
    → SoundMemory (set_at flights k None) net

-- a promotion has gathered other chunks
abbrev pub GatheringKeepsMemory : Type 0
GatheringKeepsMemory =
    (flights : Flights) (net : Net) (k : Name) (call op : ℕ) (gather more : List Chunk) (ask : Ask)
    → SoundMemory flights net → map.get flights k ≡ Some (Flight.Promote call op gather ask)
    → SoundMemory (set_at flights k (Some (Flight.Promote call op more ask))) net

-- work begins, one more read too
abbrev pub StartingKeepsMemory : Type 0
StartingKeepsMemory =
    (flights : Flights) (net : Net) (k : Name) (f : Flight) → SoundMemory flights net
    → net.phase ≡ Phase.Up → MayStart flights net k f
    → SoundMemory (set_at flights k (Some f)) (record net { next_opid = net.next_opid + 1 })

-- work sends, at first, again, or under another call; a Fence is sent
abbrev pub TellingKeepsMemory : Type 0
TellingKeepsMemory =
    (flights : Flights) (net : Net) (m : BaseMsg) → SoundMemory flights net → MayTell flights net m
    → SoundMemory flights (record net { wire = m ∷ net.wire })

-- either pool stops
abbrev pub StoppingKeepsMemory : Type 0
StoppingKeepsMemory =
    (flights : Flights) (net : Net) → SoundMemory flights net
    → SoundMemory map.empty (record net { phase = Phase.Down; fenced = false })
    × SoundMemory flights (record net { fenced = false })

-- the epoch is raised, or a raise is found, while the cache is not up
abbrev pub RaisingKeepsMemory : Type 0
RaisingKeepsMemory =
    (flights : Flights) (net : Net) (e : ℕ) → SoundMemory flights net → net.phase ≢ Phase.Up
    → net.cache_epoch < e
    → SoundMemory flights
    (record net { cache_epoch = e; next_opid = 1; phase = Phase.Raised; fenced = false })
    × SoundMemory flights (record net { cache_epoch = e; phase = Phase.Down; fenced = false })

-- the base told that it holds the epoch
abbrev pub GoingUpKeepsMemory : Type 0
GoingUpKeepsMemory =
    (flights : Flights) (net : Net) → SoundMemory flights net → net.phase ≢ Phase.Down
    → SoundMemory flights (record net { phase = Phase.Up; fenced = true })
