-- What each step is: a move of the protocol, whose need is met, or nothing.
use Rattle.std.specs.Prelude.{◌≡◌, ◌≢◌, ℕ, Bool, true, false, Option, Some, Result, Ok, Err, if◌then◌else◌, nat_lt}
use Rattle.std.specs.FinMap as map
use Rattle.obj_model.specs.declared.memory.NoMemory.{NoMemory}
use Rattle.obj_model.specs.declared.req.Req.{Req}
use Rattle.obj_model.specs.declared.state.NameState.{NameState}
use Rattle.obj_ops.specs.Stores.{Store, state_of}
use Rattle.tier_protocol.specs.Tiers.{BaseMsg, BaseReply, Flight, IsIn, Name, Net, Phase, Tier, TierRec}
use Rattle.tier_protocol.specs.Moves.{Loses, MayBegin, MayClean, MayEvict, MayGoUp, begun, cleaned, delivered, evicted, raised, sent, went_up}

-- the cache's epoch was raised, where the cache was not up
abbrev pub Raises : Tier → Bool → Tier → Type 0
Raises t true u = (t.net.phase ≢ Phase.Up) × (u ≡ raised t)
Raises t false u = u ≡ t

-- the cache is up by a reply
abbrev pub GoesUp : Tier → Bool → Tier → Type 0
GoesUp t true u = MayGoUp t.net × (u ≡ went_up t)
GoesUp t false u = u ≡ t

-- a write request of a call, as work under the next number, and its message
abbrev pub writing : ℕ → Req → Tier → Flight
writing call r t = Flight.Write (Some call) call t.net.next_opid r

abbrev pub asks : Req → Tier → BaseMsg
asks r t = BaseMsg.Write t.net.cache_epoch t.net.next_opid r

-- a write request went to the base
abbrev pub BeginsWrite : ℕ → Req → Tier → Result Bool NoMemory → Tier → Type 0
BeginsWrite call r t (Ok true) u =
    (t.net.phase ≡ Phase.Up) × MayBegin t r.name (writing call r t)
    × Loses (sent (asks r t) (begun r.name (writing call r t) t)) u
BeginsWrite call r t (Ok false) u = u ≡ t
BeginsWrite call r t (Err e) u = u ≡ t

-- the base with this state of a name, where it is a later one
abbrev pub installed : Name → NameState → Store → Store
installed k s base = if nat_lt (state_of base k).seq s.seq then map.insert base k s else base

-- a message of the wire reached the base
abbrev pub Delivers : Tier → Result Bool NoMemory → Tier → Type 0
Delivers t (Ok true) u = (m : BaseMsg) × IsIn m t.net.wire × Loses (delivered m t) u
Delivers t (Ok false) u = u ≡ t
Delivers t (Err e) u = u ≡ t

-- the record of a name was evicted
abbrev pub Evicts : Name → Tier → Bool → Tier → Type 0
Evicts k t true u = MayEvict t k × (u ≡ evicted k t)
Evicts k t false u = u ≡ t

-- a reply of this epoch tells that what this operation sent is installed
abbrev pub IsInstalledBy : ℕ → Net → Type 0
IsInstalledBy op net = (m : ℕ) × IsIn (BaseReply.Installed net.cache_epoch op m) net.replies

-- the name's flush can end, and this is its record
abbrev pub EndsFlush : Name → Tier → TierRec → Type 0
EndsFlush k t r =
    (call : Option ℕ) × (op : ℕ) × (seq : ℕ) × (m : ℕ) × (blocking : Bool) × (drain : Bool)
    × MayClean t k call op seq m blocking drain r

-- the name's flush ended, and its record is clean
abbrev pub Cleans : Name → Tier → Result Bool NoMemory → Tier → Type 0
Cleans k t (Ok true) u = (r : TierRec) × EndsFlush k t r × (u ≡ cleaned k r t)
Cleans k t (Ok false) u = u ≡ t
Cleans k t (Err e) u = u ≡ t
