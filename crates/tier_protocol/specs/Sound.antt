-- What holds of the pair in every moment: the memory is sound, and each name stands as it has to.
use Rattle.std.specs.Prelude.{◌≡◌, ◌≢◌, ◌≤◌, ◌<◌, ◌⊎◌, ℕ, Bool, true, false, List, [], ◌∷◌, Option, Some, None}
use Rattle.copy_chunk.specs.Chunks.{chunk_at, chunks_of}
use Rattle.copy_chunk.specs.Gathers.{IsFront}
use Rattle.copy_chunk.specs.declared.chunk.Chunk.{Chunk}
use Rattle.obj_model.specs.declared.req.Req.{Req}
use Rattle.obj_model.specs.declared.state.NameState.{NameState}
use Rattle.obj_ops.specs.declared.request.Acted.{Acted}
use Rattle.obj_ops.specs.declared.request.Acted.TheVariants.{Fresh, Again, Stale, Worn}
use Rattle.obj_ops.specs.Acts.{act, look}
use Rattle.obj_ops.specs.Stores.{Store, state_of, store_after}
use Rattle.tier_types.specs.Flights.{is_bare}
use Rattle.tier_types.specs.Serving.{lasting}
use Rattle.tier_protocol.specs.Tiers.{Name, Ask, Flight, ReadFlight, TierRec, BaseMsg, BaseReply, Phase, Net, Tier, Cell, IsIn, cell_of}
use Rattle.tier_protocol.specs.Memory.{SoundMemory}
use Rattle.obj_model.specs.Limits.{number_limit}

-- ---- epochs of the pools

-- the base knows the epoch of a message of some work
abbrev pub IsKnown : ℕ → BaseMsg → Type 0
IsKnown base (BaseMsg.Fence e) = Unit {0}
IsKnown base (BaseMsg.GetChunk e op k at) = e ≤ base
IsKnown base (BaseMsg.Look e op k v) = e ≤ base
IsKnown base (BaseMsg.Write e op r) = e ≤ base
IsKnown base (BaseMsg.Install e op k s) = e ≤ base

-- no reply tells of a later epoch than the base's, and none says that it was not told of one
abbrev pub IsTold : ℕ → BaseReply → Type 0
IsTold base (BaseReply.Fenced e) = e ≤ base
IsTold base (BaseReply.Chunk e op chunk) = e ≤ base
IsTold base (BaseReply.Looked e op looked) = e ≤ base
IsTold base (BaseReply.Wrote e op acted) = e ≤ base
IsTold base (BaseReply.Installed e op seq) = e ≤ base
IsTold base (BaseReply.NoSpace e op used need limit) = op ≢ 0 → e ≤ base
IsTold base (BaseReply.OldEpoch have got) = have ≤ base
IsTold base (BaseReply.NotFenced have got) = ⊥

pub record SoundEpochs (net : Net) : Type 0 where
  pub level : net.phase ≡ Phase.Up → net.base_epoch ≡ net.cache_epoch
  -- a cache that was never started has no epoch, and may lie over any base
  pub behind : 0 < net.cache_epoch → net.base_epoch ≤ net.cache_epoch
  pub known : (m : BaseMsg) → IsIn m net.wire → IsKnown net.base_epoch m
  pub told : (p : BaseReply) → IsIn p net.replies → IsTold net.base_epoch p

-- ---- records

abbrev pub is_dirty : Option TierRec → Bool
is_dirty None = false
is_dirty (Some r) = r.dirty

-- a record, if there is one, has this state
abbrev pub Shows : Option TierRec → NameState → Type 0
Shows None s = Unit {0}
Shows (Some r) s = r.state ≡ s

-- a state that the base has, or may be given, is not ahead of the plain store, and where it has had
-- as many requests it is the plain store's
pub record IsBehind (t s : NameState) : Type 0 where
  pub behind : t.seq ≤ s.seq
  pub level : t.seq ≡ s.seq → t ≡ s

-- ---- what a reply is worth to the work that waits for it

-- A reply of this epoch, to the work that stands, tells what the base holds now. One that tells of
-- no chunk, of a want of space, or of epochs, says nothing of what the base holds.
abbrev pub IsTrueOf : Cell → ℕ → BaseReply → Type 0
IsTrueOf c epoch (BaseReply.Fenced e) = Unit {0}
IsTrueOf c epoch (BaseReply.Chunk e op None) = Unit {0}
IsTrueOf c epoch (BaseReply.Chunk e op (Some x)) =
    e ≡ epoch → (call : ℕ) (gather : List Chunk) (ask : Ask)
    → c.flight ≡ Some (Flight.Promote call op gather ask)
    → chunk_at (chunks_of c.base) x.at ≡ Some x
IsTrueOf c epoch (BaseReply.Looked e op l) =
    e ≡ epoch → (list : List ReadFlight) (r : ReadFlight)
    → c.flight ≡ Some (Flight.Reads list) → IsIn r list → r.opid ≡ op → l ≡ look c.base r.vector
IsTrueOf c epoch (BaseReply.Wrote e op a) =
    e ≡ epoch → (driver : Option ℕ) (owner : ℕ) (r : Req)
    → c.flight ≡ Some (Flight.Write driver owner op r) → act c.base r ≡ lasting a
IsTrueOf c epoch (BaseReply.Installed e op m) =
    e ≡ epoch → (call : Option ℕ) (seq : ℕ) (blocking drain : Bool)
    → c.flight ≡ Some (Flight.Flush call op seq blocking drain) → (seq ≤ m) × (m ≤ c.base.seq)
IsTrueOf c epoch (BaseReply.NoSpace e op used need limit) = Unit {0}
IsTrueOf c epoch (BaseReply.OldEpoch have got) = Unit {0}
IsTrueOf c epoch (BaseReply.NotFenced have got) = Unit {0}

-- ---- what a Write that is on the wire can still do

-- the request is answered without acting: again, or as stale behind a later one of its client
abbrev pub is_past : Acted → Bool
is_past (Fresh s answer) = false
is_past (Again answer) = true
is_past (Stale kept) = true
is_past (Worn limit) = false

-- on this state the request acts no more
abbrev pub Covers : NameState → Req → Type 0
Covers s r = is_past (act s r) ≡ true

-- The request can act no more, whatever comes: the name is worn out in the base; or the request is
-- covered in the base, in the plain store, and in each state that could still take the base's
-- place.
abbrev pub IsSpent : Name → Cell → Net → Req → Type 0
IsSpent n c net r =
    (c.base.seq ≡ number_limit)
    ⊎ (Covers c.base r × Covers c.plain r
    × ((e op : ℕ) (t : NameState) → IsIn (BaseMsg.Install e op n t) net.wire → c.base.seq < t.seq
    → Covers t r))

-- the request is under way, whoever waits for it
abbrev pub IsWriting : Option Flight → Req → Type 0
IsWriting f r =
    (driver : Option ℕ) × (owner : ℕ) × (op : ℕ) × (f ≡ Some (Flight.Write driver owner op r))

-- A Write that the base would take does no harm: it is of the work that stands; or the cache was
-- stopped and is not up again, and the name has no record; or it is spent.
abbrev pub IsHarmless : Name → Cell → Net → Req → Type 0
IsHarmless n c net r =
    IsWriting c.flight r ⊎ ((net.phase ≢ Phase.Up) × (c.rec ≡ None)) ⊎ IsSpent n c net r

-- ---- one name, and all

pub record SoundAt (n : Name) (c : Cell) (net : Net) : Type 0 where
  pub base : IsBehind c.base c.plain
  -- without a record, and under a clean one, the base has the plain store's state
  pub clean : is_dirty c.rec ≡ false → c.base ≡ c.plain
  -- a record has the plain store's state
  pub shows : Shows c.rec c.plain
  pub few : c.plain.seq ≤ number_limit
  -- a promotion, a write request or reads stand only where there is no record
  pub bare : is_bare c.flight ≡ true → c.rec ≡ None
  -- what a promotion has gathered are the first chunks of the base's state
  pub gathered : (call op : ℕ) (gather : List Chunk) (ask : Ask)
      → c.flight ≡ Some (Flight.Promote call op gather ask) → IsFront gather (chunks_of c.base)
  -- a flush stands over a dirty record that has had no fewer requests than it had when it began;
  -- just as many where clients wait
  pub flushed : (call : Option ℕ) (op seq : ℕ) (blocking drain : Bool)
      → c.flight ≡ Some (Flight.Flush call op seq blocking drain)
      → (is_dirty c.rec ≡ true) × (seq ≤ c.plain.seq) × (blocking ≡ true → seq ≡ c.plain.seq)
  -- what a flush sent is no older than what it set out to write back
  pub floor : (call : Option ℕ) (op seq : ℕ) (blocking drain : Bool) (s : NameState)
      → c.flight ≡ Some (Flight.Flush call op seq blocking drain)
      → IsIn (BaseMsg.Install net.cache_epoch op n s) net.wire → seq ≤ s.seq
  pub told : (p : BaseReply) → IsIn p net.replies → IsTrueOf c net.cache_epoch p
  pub writes : (e op : ℕ) (r : Req) → IsIn (BaseMsg.Write e op r) net.wire → r.name ≡ n
      → net.base_epoch ≤ e → IsHarmless n c net r
  -- whatever may still be installed, of any epoch, is behind the plain store
  pub installs : (e op : ℕ) (t : NameState) → IsIn (BaseMsg.Install e op n t) net.wire
      → IsBehind t c.plain

-- the request acts
abbrev pub is_fresh : Acted → Bool
is_fresh (Fresh s answer) = true
is_fresh (Again answer) = false
is_fresh (Stale kept) = false
is_fresh (Worn limit) = false

-- each request acts on the store that those before it leave
abbrev pub AreFresh : Store → List Req → Type 0
AreFresh store [] = Unit {0}
AreFresh store (r ∷ rs) =
    (is_fresh (act (state_of store r.name) r) ≡ true)
    × AreFresh (store_after store r.name (act (state_of store r.name) r)) rs

pub record IsSound (t : Tier) : Type 0 where
  pub memory : SoundMemory t.flights t.net
  pub legal : AreFresh t.opening t.acts
  pub epochs : SoundEpochs t.net
  pub names : (n : Name) → SoundAt n (cell_of t n) t.net
