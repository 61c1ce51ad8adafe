-- What the base's answers are worth, and what late messages can do.
use Rattle.std.specs.Prelude.{◌≡◌, ◌≢◌, ◌≤◌, ◌<◌, ℕ, Bool, true, false, List, Option, Some, None}
use Rattle.copy_chunk.specs.Chunks.{chunk_at, chunks_of}
use Rattle.copy_chunk.specs.declared.chunk.Chunk.{Chunk}
use Rattle.obj_model.specs.declared.reply.Reply.{Reply}
use Rattle.obj_model.specs.declared.req.Req.{Req}
use Rattle.obj_model.specs.declared.state.NameState.{NameState}
use Rattle.obj_ops.specs.declared.reading.Looked.{Looked}
use Rattle.obj_ops.specs.declared.request.Acted.TheVariants.{Fresh}
use Rattle.obj_ops.specs.Acts.{act, look}
use Rattle.obj_ops.specs.Stores.{state_of}
use Rattle.tier_types.specs.Serving.{epoch_in, lasting}
use Rattle.tier_protocol.specs.Tiers.{Name, Ask, Flight, ReadFlight, TierRec, BaseMsg, BaseReply, BaseActed, Phase, Tier, IsIn, cell_of}
use Rattle.tier_protocol.specs.Sound.{IsSound, IsSpent, IsWriting}
use Rattle.tier_protocol.specs.Moves.{delivered, evicted, with_reply, MayEvict, MayLand}

-- ---- answers

-- what a proxied read is told is what the plain store tells
abbrev pub ReadsAreTrue : Type 0
ReadsAreTrue =
    (t : Tier) (k : Name) (list : List ReadFlight) (r : ReadFlight) (l : Looked) → IsSound t
    → (cell_of t k).flight ≡ Some (Flight.Reads list) → IsIn r list
    → IsIn (BaseReply.Looked t.net.cache_epoch r.opid l) t.net.replies
    → l ≡ look (cell_of t k).plain r.vector

-- what a proxied write is told is what the plain store answers its request from then on
abbrev pub WritesAreTrue : Type 0
WritesAreTrue =
    (t : Tier) (k : Name) (driver : Option ℕ) (owner op : ℕ) (r : Req) (a : BaseActed) → IsSound t
    → MayLand t k driver owner op r a → act (cell_of t k).plain r ≡ lasting a

-- what a promotion is given is the chunk of the name's state in the plain store
abbrev pub ChunksArePresent : Type 0
ChunksArePresent =
    (t : Tier) (k : Name) (call op : ℕ) (gather : List Chunk) (ask : Ask) (x : Chunk) → IsSound t
    → (cell_of t k).flight ≡ Some (Flight.Promote call op gather ask)
    → IsIn (BaseReply.Chunk t.net.cache_epoch op (Some x)) t.net.replies
    → chunk_at (chunks_of (cell_of t k).plain) x.at ≡ Some x

-- a request that acts on the base acts on the plain store in the same way, and its name has no
-- record
abbrev pub ActsAreFresh : Type 0
ActsAreFresh =
    (t : Tier) (e op : ℕ) (r : Req) (s : NameState) (answer : Reply) → IsSound t
    → IsIn (BaseMsg.Write e op r) t.net.wire → e ≡ t.net.base_epoch
    → act (state_of t.base r.name) r ≡ Fresh s answer
    → (act (cell_of t r.name).plain r ≡ Fresh s answer) × ((cell_of t r.name).rec ≡ None)

-- ---- late messages

abbrev pub is_fence : BaseMsg → Bool
is_fence (BaseMsg.Fence e) = true
is_fence (BaseMsg.GetChunk e op k at) = false
is_fence (BaseMsg.Look e op k v) = false
is_fence (BaseMsg.Write e op r) = false
is_fence (BaseMsg.Install e op k s) = false

-- of a message of an older epoch nothing comes but the reply that it is one
abbrev pub OldAreRefused : Type 0
OldAreRefused =
    (t : Tier) (m : BaseMsg) → epoch_in m < t.net.base_epoch
    → delivered m t ≡ with_reply (BaseReply.OldEpoch t.net.base_epoch (epoch_in m)) t

-- the base is never asked in an epoch that it was not told of, and never says so
abbrev pub NoneIsAhead : Type 0
NoneIsAhead =
    (t : Tier) → IsSound t
    → ((m : BaseMsg) → IsIn m t.net.wire → is_fence m ≡ false → epoch_in m ≤ t.net.base_epoch)
    × ((have got : ℕ) → IsIn (BaseReply.NotFenced have got) t.net.replies → ⊥)

-- and it is asked in its own epoch by all work that stands, so that nothing awaited is refused
abbrev pub FlightsAreFenced : Type 0
FlightsAreFenced =
    (t : Tier) (k : Name) → IsSound t → (cell_of t k).flight ≢ None
    → t.net.base_epoch ≡ t.net.cache_epoch

-- A Write that is no longer under way, of whatever time, changes nothing while the cache is up:
-- even where its name was promoted, written, flushed and evicted since.
abbrev pub LateWritesChangeNothing : Type 0
LateWritesChangeNothing =
    (t : Tier) (e op : ℕ) (r : Req) → IsSound t → t.net.phase ≡ Phase.Up
    → IsIn (BaseMsg.Write e op r) t.net.wire → (IsWriting (cell_of t r.name).flight r → ⊥)
    → ((delivered (BaseMsg.Write e op r) t).base ≡ t.base)
    × ((delivered (BaseMsg.Write e op r) t).acts ≡ t.acts)

-- a request that acted on the base is spent from then on, on the name's new states
abbrev pub ActedIsSpent : Type 0
ActedIsSpent =
    (t : Tier) (e op : ℕ) (r : Req) (s : NameState) (answer : Reply) → IsSound t
    → IsIn (BaseMsg.Write e op r) t.net.wire → e ≡ t.net.base_epoch
    → act (state_of t.base r.name) r ≡ Fresh s answer
    → IsSpent r.name (cell_of (delivered (BaseMsg.Write e op r) t) r.name)
    (delivered (BaseMsg.Write e op r) t).net r

-- no message takes a state of the base back to one that has had fewer requests: an Install that
-- later writes overtook comes to nothing
abbrev pub BaseNeverFalls : Type 0
BaseNeverFalls =
    (t : Tier) (m : BaseMsg) (n : Name) → IsSound t → IsIn m t.net.wire
    → (state_of t.base n).seq ≤ (state_of (delivered m t).base n).seq

-- a record that is evicted, a whiteout too, leaves its whole state in the base, with what it keeps
-- of each client
abbrev pub EvictedStays : Type 0
EvictedStays =
    (t : Tier) (k : Name) (r : TierRec) → IsSound t → MayEvict t k → (cell_of t k).rec ≡ Some r
    → state_of (evicted k t).base k ≡ r.state
