-- Steps without a commit: work begins, sends, goes on and lands; and what may come at any moment.
use Rattle.std.proofs.Common.{◌≡◌, ◌⊎◌, inl, inr, ℕ, ◌++◌, List, [], ◌∷◌, Option, None, refl, sym, subst, ◌∙◌}
use Rattle.std.specs.FinMap as fin
use Rattle.copy_chunk.specs.declared.chunk.Chunk.{Chunk}
use Rattle.obj_ops.specs.Stores.{Store}
use Rattle.tier_protocol.specs.Tiers.{Name, BaseMsg, BaseReply, Flight, IsIn, Phase, Recs, TierRec}
use Rattle.tier_protocol.specs.Sound.{IsSound}
use Rattle.tier_protocol.specs.Moves.{begun, gathered, landed, sent, set_at, stopped_base, stopped_cache, went_up, MayBegin, MaySend}
use Rattle.tier_protocol.proofs.Memory.{memory_left, memory_stopped, memory_unfenced, memory_up}
use Rattle.tier_protocol.proofs.MemoryMoves as protocol
use Rattle.tier_protocol.proofs.Steps.{beginning, gathering, going_up, landing, losing, sending, stopping}
use Rattle.tier_join.specs.Group.{Memory, TwoMaps, View, AreLeft, IsSoundMemory, Spells, tier_of}
use Rattle.pool_keys.specs.Maps.{SpellsBase, SpellsCache}
use Rattle.tier_join.specs.Promises.{Promises, as_it_is}
use Rattle.tier_join.specs.Laws.{BeginningPromises, GatheringPromises, GoingUpPromises, LandingPromises, LosingPromises, SendingPromises, StoppingPromises}
use Rattle.tier_join.specs.Steps.{HasRecFor, OwesMemory, OwesWorlds, Rests, after, left_with, seen, subject, with_doubt}
use Rattle.tier_join.proofs.CacheSteps.{rec_seen}
use Rattle.tier_join.proofs.MemoryMoves.{begun_memory, free_memory, sent_memory}
use Rattle.tier_join.proofs.Rests.{memory_promises, worlds_promise}

-- ---- what rests on what was read

-- a move that keeps the pair sound and leaves the pools
module _ (v w : View) (m : Memory) (none : v.doubt ≡ None) (acts : m.acts ≡ v.memory.acts)
    (cache : m.net.cache_epoch ≡ v.memory.net.cache_epoch) (base : m.net.base_epoch ≡ v.memory.net.base_epoch) where
  moves : ((start : Store) (z : TwoMaps) → AreLeft v z → (h : Spells start v.memory z) → IsSound (tier_of start m h.recs h.base))
      → (IsSoundMemory v.memory → IsSoundMemory m) → Rests v w → w.memory ≡ m → Promises as_it_is v w
  moves sound memory rests same = memory_promises v w (subst (OwesMemory v) (sym same) (record {
    settled = none;
    moves = λ start z i h. record {
      recs = h.recs;
      base = h.base;
      cached = subst (SpellsCache z.cache h.recs) (sym cache) h.cached;
      based = subst (SpellsBase z.base h.base) (sym base) h.based;
      sound = sound start z i h;
    };
    acts = acts;
    memory = memory;
  })) rests

-- the guard of a beginning, at each pair
begins_here : (start : Store) (m : Memory) (recs : Recs) (base : Store) (k : Name) (rec : Option TierRec) (f : Flight) → fin.get recs k ≡ fin.get (set_at {X = TierRec} fin.empty k rec) k
    → MayBegin (seen m k rec) k f → MayBegin (tier_of start m recs base) k f
begins_here start m recs base k rec (Flight.Promote call o gather ask) is may = (may.0, is ∙ may.1, may.2, may.3, may.4)
begins_here start m recs base k rec (Flight.Write driver owner o r) is may = (may.0, is ∙ may.1, may.2, may.3)
begins_here start m recs base k rec (Flight.Reads list) is may = (may.0, is ∙ may.1, may.2)
begins_here start m recs base k rec (Flight.Flush call o seq blocking drain) is may = (may.0, may.1, (may.2.0, is ∙ may.2.1, may.2.2, may.2.3))

pub beginning_promises : BeginningPromises
beginning_promises v w k f rec none has up may rests same =
    moves v w (after (begun k f) v.memory) none refl refl refl
    (λ start z i h. beginning (tier_of start v.memory h.recs h.base) k f h.sound up (begins_here start v.memory h.recs h.base k rec f (rec_seen start v z k rec has i h) may))
    (λ h. begun_memory v.memory k rec f h up may) rests same

-- the guard of a message, at each pair
sends_here : (start : Store) (v : View) (z : TwoMaps) (msg : BaseMsg) (rec : Option TierRec) → HasRecFor v msg rec → AreLeft v z → (h : Spells start v.memory z)
    → MaySend (seen v.memory (subject msg) rec) msg → MaySend (tier_of start v.memory h.recs h.base) msg
sends_here start v z (BaseMsg.Fence e) rec has i h may = may
sends_here start v z (BaseMsg.GetChunk e op k at) rec has i h may = may
sends_here start v z (BaseMsg.Look e op k x) rec has i h may = may
sends_here start v z (BaseMsg.Write e op r) rec has i h may = may
sends_here start v z (BaseMsg.Install e op k s) rec has i h may =
    (may.0, (may.1.0, may.1.1, may.1.2, may.1.3, may.1.4, may.1.5, rec_seen start v z k rec has i h ∙ may.1.6, may.1.7))

pub sending_promises : SendingPromises
sending_promises v w msg rec none has may rests same =
    moves v w (after (sent msg) v.memory) none refl refl refl
    (λ start z i h. sending (tier_of start v.memory h.recs h.base) msg h.sound (sends_here start v z msg rec has i h may))
    (λ h. sent_memory v.memory (subject msg) rec msg h may) rests same

pub gathering_promises : GatheringPromises
gathering_promises v w k call op gather ask x none may rests same =
    moves v w (after (gathered k call op gather ask x) v.memory) none refl refl refl
    (λ start z i h. gathering (tier_of start v.memory h.recs h.base) k call op gather ask x h.sound (record { flight = may.flight; wanted = may.wanted; reply = may.reply }))
    (λ h. protocol.gathering v.memory.flights v.memory.net k call op gather more ask h may.flight) rests same
  where
    more : List Chunk
    more = gather ++ x ∷ []

pub landing_promises : LandingPromises
landing_promises v w k driver owner op r a none may rests same =
    moves v w (after (landed k) v.memory) none refl refl refl
    (λ start z i h. landing (tier_of start v.memory h.recs h.base) k driver owner op r a h.sound (record { flight = may.flight; reply = may.reply }))
    (free_memory v.memory k) rests same

-- ---- what may come at any moment

by_worlds : (v w : View) (m : Memory) → OwesWorlds v.memory m → Rests v w → w.memory ≡ m → Promises (with_doubt v.doubt) v w
by_worlds v w m owes rests same = worlds_promise v w (subst (OwesWorlds v.memory) (sym same) owes) rests

pub losing_promises : LosingPromises
losing_promises v w flights wire replies are fewer less rests same =
    by_worlds v w (left_with flights wire replies v.memory)
    (record {
      acts = refl;
      cache = refl;
      base = refl;
      down = λ d. d;
      moves = λ start recs base there c b world h. losing _ _ h (record { same = refl; flights = are; wire = fewer; replies = less });
      memory = λ h. memory_left v.memory.flights flights v.memory.net wire replies h are fewer less;
    }) rests same

pub stopping_promises : StoppingPromises
stopping_promises v w rests = (
  λ same. by_worlds v w (after stopped_cache v.memory)
      (record {
        acts = refl;
        cache = refl;
        base = refl;
        down = λ d. refl;
        moves = λ start recs base there c b world h. (stopping _ h).0;
        memory = λ h. memory_stopped v.memory.flights v.memory.net h;
      }) rests same,
  λ same. by_worlds v w (after stopped_base v.memory)
      (record {
        acts = refl;
        cache = refl;
        base = refl;
        down = λ d. d;
        moves = λ start recs base there c b world h. (stopping _ h).1;
        memory = λ h. memory_unfenced v.memory.flights v.memory.net h;
      }) rests same,
)

pub going_up_promises : GoingUpPromises
going_up_promises v w may rests same =
    by_worlds v w (after went_up v.memory)
    (record {
      acts = refl;
      cache = refl;
      base = refl;
      down = λ d. absurd (may.raised d);
      moves = λ start recs base there c b world h. (going_up _ h (record { raised = may.raised; reply = came c world })).0;
      memory = λ h. memory_up v.memory.flights v.memory.net h may.raised;
    }) rests same
  where
    came : (c : ℕ) → (c ≡ v.memory.net.cache_epoch) ⊎ (v.memory.net.phase ≡ Phase.Down) → IsIn (BaseReply.Fenced c) v.memory.net.replies
    came c (inl is) = subst (λ e. IsIn (BaseReply.Fenced e) v.memory.net.replies) (sym is) may.reply
    came c (inr down) = absurd (may.raised down)
