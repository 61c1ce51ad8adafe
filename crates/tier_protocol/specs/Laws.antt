-- What is proved of the moves: each keeps the pair sound.
use Rattle.std.specs.Prelude.{◌≡◌, ◌≤◌, ◌<◌, ℕ, Bool, true, false, List, [], Option, Some, None}
use Rattle.std.specs.FinMap as map
use Rattle.copy_chunk.specs.declared.chunk.Chunk.{Chunk}
use Rattle.obj_model.specs.declared.reply.Reply.{Reply}
use Rattle.obj_model.specs.declared.req.Req.{Req}
use Rattle.obj_model.specs.declared.state.NameState.{NameState}
use Rattle.obj_ops.specs.Stores.{Store, state_of}
use Rattle.tier_types.specs.Flights.{IsLeftOf}
use Rattle.tier_protocol.specs.Tiers.{Name, Ask, Flight, TierRec, BaseMsg, BaseActed, Phase, Recs, Tier, IsIn, cell_of, plain_of}
use Rattle.tier_protocol.specs.Sound.{AreFresh, IsBehind, IsSound, Shows, is_dirty}
use Rattle.tier_protocol.specs.Moves.{acted_here, begun, cleaned, counted_raised, delivered, drained, epoch_found, evicted, filled, gathered, landed, promoted, raised_to, sent, stopped_base, stopped_cache, went_up, with_flight, Loses, MayActHere, MayBegin, MayClean, MayCount, MayEvict, MayFill, MayGather, MayGoUp, MayLand, MayPromote, MayRaise, MaySend}
use Rattle.obj_model.specs.Limits.{number_limit}

-- ---- the base

-- a message reaches the base, for the first time, again, or late
abbrev pub DeliveringKeeps : Type 0
DeliveringKeeps = (t : Tier) (m : BaseMsg) → IsSound t → IsIn m t.net.wire → IsSound (delivered m t)

-- the commit that a message needs finds no space
abbrev pub FillingKeeps : Type 0
FillingKeeps =
    (t : Tier) (m : BaseMsg) (used need limit : ℕ) → IsSound t → MayFill t m used need limit
    → IsSound (filled m used need limit t)

-- ---- the cache

-- a request acts on a record
abbrev pub ActingKeeps : Type 0
ActingKeeps =
    (t : Tier) (r : TierRec) (q : Req) (s : NameState) (answer : Reply) (moment : ℕ)
    → IsSound t → MayActHere t r q s answer → IsSound (acted_here q s moment t)

-- a promotion goes on by the chunk that it wants
abbrev pub GatheringKeeps : Type 0
GatheringKeeps =
    (t : Tier) (k : Name) (call op : ℕ) (gather : List Chunk) (ask : Ask) (x : Chunk)
    → IsSound t → MayGather t k call op gather ask x → IsSound (gathered k call op gather ask x t)

-- a promotion ends with a clean record, of the state that the name has in the plain store
abbrev pub PromotingKeeps : Type 0
PromotingKeeps =
    (t : Tier) (k : Name) (call op : ℕ) (gather : List Chunk) (ask : Ask) (s : NameState)
    (moment : ℕ)
    → IsSound t → MayPromote t k call op gather ask s
    → IsSound (promoted k s moment t) × (s ≡ (cell_of t k).plain)

-- a flush ends with a clean record; where the cache is drained, with none
abbrev pub CleaningKeeps : Type 0
CleaningKeeps =
    (t : Tier) (k : Name) (call : Option ℕ) (op seq m : ℕ) (blocking drain : Bool) (r : TierRec)
    → IsSound t → MayClean t k call op seq m blocking drain r
    → IsSound (cleaned k r t) × IsSound (drained k t)

-- a clean record is evicted
abbrev pub EvictingKeeps : Type 0
EvictingKeeps = (t : Tier) (k : Name) → IsSound t → MayEvict t k → IsSound (evicted k t)

-- ---- work

-- work begins
abbrev pub BeginningKeeps : Type 0
BeginningKeeps =
    (t : Tier) (k : Name) (f : Flight) → IsSound t → t.net.phase ≡ Phase.Up → MayBegin t k f
    → IsSound (begun k f t)

-- work sends its message, or a Fence is sent
abbrev pub SendingKeeps : Type 0
SendingKeeps = (t : Tier) (m : BaseMsg) → IsSound t → MaySend t m → IsSound (sent m t)

-- a proxied write lands
abbrev pub LandingKeeps : Type 0
LandingKeeps =
    (t : Tier) (k : Name) (driver : Option ℕ) (owner op : ℕ) (r : Req) (a : BaseActed)
    → IsSound t → MayLand t k driver owner op r a → IsSound (landed k t)

-- messages and replies are lost, calls end, and others take over
abbrev pub LosingKeeps : Type 0
LosingKeeps = (t u : Tier) → IsSound t → Loses t u → IsSound u

-- the same of the work of one name
abbrev pub LeavingKeeps : Type 0
LeavingKeeps =
    (t : Tier) (k : Name) (f : Option Flight) → IsSound t → IsLeftOf (cell_of t k).flight f
    → IsSound (with_flight k f t)

-- ---- stops and starts

-- either pool stops, with whatever is on the wire
abbrev pub StoppingKeeps : Type 0
StoppingKeeps = (t : Tier) → IsSound t → IsSound (stopped_cache t) × IsSound (stopped_base t)

-- the cache's epoch is raised above both
abbrev pub RaisingKeeps : Type 0
RaisingKeeps = (t : Tier) (e : ℕ) → IsSound t → MayRaise t e → IsSound (raised_to e t)

-- a raise whose commit was in doubt is found to be there, and counts as a raise
abbrev pub FindingKeeps : Type 0
FindingKeeps =
    (t : Tier) (e : ℕ) → IsSound t → MayRaise t e
    → IsSound (epoch_found e t) × IsSound (counted_raised (epoch_found e t))

abbrev pub CountingKeeps : Type 0
CountingKeeps = (t : Tier) → IsSound t → MayCount t → IsSound (counted_raised t)

-- the cache is up once the base told that it holds the epoch; then both epochs are one
abbrev pub GoingUpKeeps : Type 0
GoingUpKeeps =
    (t : Tier) → IsSound t → MayGoUp t.net
    → IsSound (went_up t) × (t.net.base_epoch ≡ t.net.cache_epoch)

-- ---- what a pair stands for

-- the pair as it is found when it is attached: nothing is under way, and nothing on the wire
abbrev pub found : Recs → Store → Store → ℕ → ℕ → Tier
found recs base plain cache_epoch base_epoch = record {
  recs = recs;
  base = base;
  flights = map.empty;
  opening = plain;
  acts = [];
  net = record {
    wire = [];
    replies = [];
    cache_epoch = cache_epoch;
    base_epoch = base_epoch;
    next_opid = 1;
    phase = Phase.Down;
    fenced = false;
  };
}

-- records and a base's states stand for a plain store
pub record StandsFor (recs : Recs) (base plain : Store) : Type 0 where
  pub behind : (n : Name) → IsBehind (state_of base n) (state_of plain n)
  pub clean : (n : Name) → is_dirty (map.get recs n) ≡ false → state_of base n ≡ state_of plain n
  pub shows : (n : Name) → Shows (map.get recs n) (state_of plain n)
  pub few : (n : Name) → (state_of plain n).seq ≤ number_limit

-- what stands for a store is sound as it is found
abbrev pub FoundIsSound : Type 0
FoundIsSound =
    (recs : Recs) (base plain : Store) (cache_epoch base_epoch : ℕ) → StandsFor recs base plain
    → (0 < cache_epoch → base_epoch ≤ cache_epoch)
    → IsSound (found recs base plain cache_epoch base_epoch)

-- a sound pair stands for the store that its acts leave
abbrev pub SoundStands : Type 0
SoundStands = (t : Tier) → IsSound t → StandsFor t.recs t.base (plain_of t)

-- The same of one name, by its record. Without one the base has the plain store's state; so have
-- both where it is clean; a dirty one has it, and the base is behind, or has it too.
abbrev pub IsRecordOf : (dirty : Bool) → NameState → NameState → NameState → Type 0
IsRecordOf true r b s = (r ≡ s) × (b.seq ≤ r.seq) × (b.seq ≡ r.seq → b ≡ r)
IsRecordOf false r b s = (r ≡ b) × (b ≡ s)

abbrev pub IsStanding : Option TierRec → NameState → NameState → Type 0
IsStanding None b s = s ≡ b
IsStanding (Some r) b s = IsRecordOf r.dirty r.state b s

abbrev pub EachStands : Type 0
EachStands =
    (t : Tier) (n : Name) → IsSound t
    → IsStanding (cell_of t n).rec (cell_of t n).base (cell_of t n).plain

-- without records the base alone is the plain store: so a drained cache can be taken away
abbrev pub BaseAlone : Type 0
BaseAlone =
    (t : Tier) → IsSound t → ((k : Name) → (cell_of t k).rec ≡ None)
    → (k : Name) → state_of t.base k ≡ state_of (plain_of t) k

-- each act of the history acts on the store that those before it leave
abbrev pub HistoryIsLegal : Type 0
HistoryIsLegal = (t : Tier) → IsSound t → AreFresh t.opening t.acts
