-- A commit in doubt: two pairs over one memory, without it and with it.
use Rattle.std.specs.Prelude.{◌≡◌, ◌⊎◌, ℕ, Bool, List, Option, None}
use Rattle.std.specs.FinMap as map
use Rattle.copy_chunk.specs.declared.chunk.Chunk.{Chunk}
use Rattle.obj_model.specs.declared.reply.Reply.{Reply}
use Rattle.obj_model.specs.declared.req.Req.{Req}
use Rattle.obj_model.specs.declared.state.NameState.{NameState}
use Rattle.obj_ops.specs.declared.request.Acted.TheVariants.{Fresh}
use Rattle.obj_ops.specs.Acts.{act}
use Rattle.tier_types.specs.Flights.{IsLeftOf}
use Rattle.tier_protocol.specs.Tiers.{Name, Ask, TierRec, BaseMsg, BaseReply, Phase, Flights, Tier, IsIn, AreIn, cell_of}
use Rattle.tier_protocol.specs.Sound.{IsSound}
use Rattle.tier_protocol.specs.Moves.{acted_here, cleaned, drained, epoch_found, evicted, promoted, stopped_base, stopped_cache, taken, went_up, with_flight, with_left, MayActHere, MayClean, MayEvict, MayGoUp, MayPromote, MayRaise}

-- what is in memory, or on the wire, and in neither pool; the cache's epoch too, unless the cache
-- is down
pub record HaveSameMemory (t u : Tier) : Type 0 where
  pub flights : t.flights ≡ u.flights
  pub wire : t.net.wire ≡ u.net.wire
  pub replies : t.net.replies ≡ u.net.replies
  pub next_opid : t.net.next_opid ≡ u.net.next_opid
  pub phase : t.net.phase ≡ u.net.phase
  pub fenced : t.net.fenced ≡ u.net.fenced
  pub epoch : (t.net.cache_epoch ≡ u.net.cache_epoch) ⊎ (t.net.phase ≡ Phase.Down)

-- The two worlds of a doubt: the pair without the commit, and the pair with it. Both are sound,
-- over one memory; opening the store anew shows in which of them the tier is.
pub record AreWorlds (t u : Tier) : Type 0 where
  pub without : IsSound t
  pub within : IsSound u
  pub memory : HaveSameMemory t u

-- a commit of the base: what the message does to it may be there or not, and nobody was told
abbrev pub DoubtKeeps : Type 0
DoubtKeeps = (t : Tier) (m : BaseMsg) → IsSound t → IsIn m t.net.wire → AreWorlds t (taken m t)

-- Commits of the cache: a request that acts; a promotion that ends, and one that serves its request
-- at once; a flush that ends; an eviction. Where the commit would end work, the call has ended with
-- the fault, and its work is gone in both worlds.
abbrev pub CacheDoubtKeeps : Type 0
CacheDoubtKeeps =
    ((t : Tier) (r : TierRec) (q : Req) (s : NameState) (answer : Reply) (moment : ℕ)
    → IsSound t → MayActHere t r q s answer → AreWorlds t (acted_here q s moment t))
    × ((t : Tier) (k : Name) (call op : ℕ) (gather : List Chunk) (ask : Ask) (b : NameState)
    (moment : ℕ)
    → IsSound t → MayPromote t k call op gather ask b
    → AreWorlds (with_flight k None t) (promoted k b moment t)
    × ((q : Req) (s : NameState) (answer : Reply) → q.name ≡ k → act b q ≡ Fresh s answer
    → AreWorlds (with_flight k None t) (acted_here q s moment (promoted k b moment t))))
    × ((t : Tier) (k : Name) (call : Option ℕ) (op seq m : ℕ) (blocking drain : Bool) (r : TierRec)
    → IsSound t → MayClean t k call op seq m blocking drain r
    → AreWorlds (with_flight k None t) (cleaned k r t) × AreWorlds (with_flight k None t)
    (drained k t))
    × ((t : Tier) (k : Name) → IsSound t → MayEvict t k → AreWorlds t (evicted k t))

-- a commit of the cache's epoch, while the cache is down
abbrev pub EpochDoubtKeeps : Type 0
EpochDoubtKeeps =
    (t : Tier) (e : ℕ) → IsSound t → MayRaise t e → t.net.phase ≡ Phase.Down
    → AreWorlds t (epoch_found e t)

-- Until the store is opened anew nothing but memory changes, and in both worlds alike: either pool
-- stops; messages and replies are lost, calls end and leave their work; the base's Fenced is
-- received.
abbrev pub WorldsGoOn : Type 0
WorldsGoOn =
    (t u : Tier) → AreWorlds t u
    → AreWorlds (stopped_cache t) (stopped_cache u) × AreWorlds (stopped_base t) (stopped_base u)
    × ((flights : Flights) (wire : List BaseMsg) (replies : List BaseReply)
    → ((n : Name) → IsLeftOf (cell_of t n).flight (map.get flights n)) → AreIn wire t.net.wire
    → AreIn replies t.net.replies
    → AreWorlds (with_left flights wire replies t) (with_left flights wire replies u))
    × (MayGoUp t.net → AreWorlds (went_up t) (went_up u))
