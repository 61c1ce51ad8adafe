-- A promotion begins, its chunks are gathered, and it is removed when it is whole.
use Rattle.std.specs.Prelude.{◌≡◌, ℕ, List, [], ◌∷◌, ◌++◌, Some, None}
use Rattle.std.specs.FinMap as fin
use Rattle.copy_chunk.specs.Gathers.{wanted}
use Rattle.copy_chunk.specs.declared.chunk.Chunk.{Chunk}
use Rattle.copy_chunk.specs.declared.chunk.Cursor.{Cursor}
use Rattle.copy_chunk.specs.declared.chunk.Cursor.TheVariants.{Head}
use Rattle.obj_model.specs.declared.state.NameState.{NameState}
use Rattle.obj_model.specs.declared.tier.Kind.TheVariants as kind
use Rattle.tier_chron.specs.declared.asked.Asked.{Asked}
use Rattle.tier_chron.specs.declared.asked.Asked.TheVariants.{Read, Write}
use Rattle.tier_join.specs.Promises.{as_it_is}
use Rattle.tier_join.specs.Steps.{HasRec}
use Rattle.tier_protocol.specs.Tiers.{Ask, BaseMsg, BaseReply, Flight, IsIn, Name}
use Rattle.tier_types.specs.Flights.{name_asked}
use Rattle.tier_view.specs.Answers.{KeepsQuietly}
use Rattle.tier_view.specs.Laws.{Keeps}
use Rattle.tier_view.specs.Locals.{PromotesHere, freed}
use Rattle.tier_view.specs.Steps.{sent_now}
use Rattle.tier_view.specs.Traffic.{replies_of}
use Rattle.tier_view.specs.Views.{GroupView, joined}
use Rattle.tier_view.specs.Whole.{IsWhole}
use Rattle.tier_works.specs.Works.{MayFly, begun_work, with_work}

-- ---- what is sent

-- the GetChunk of a promotion, for the chunk at this place
abbrev pub chunk_asked : Name → (op : ℕ) → Cursor → GroupView → GroupView
chunk_asked k op at v = sent_now (BaseMsg.GetChunk v.standing.cache_epoch op k at) None v

-- that for the chunk which it wants is sent again
abbrev pub AskingChunksKeeps : Type 0
AskingChunksKeeps =
    (v : GroupView) (k : Name) (call op : ℕ) (gather : List Chunk) (ask : Ask) (at : Cursor)
    → IsWhole v → v.stores.pending ≡ None
    → fin.get v.traffic.flights k ≡ Some (Flight.Promote call op gather ask)
    → wanted gather ≡ Some at → KeepsQuietly v (chunk_asked k op at v)

-- ---- a promotion begins

-- what a client's call asked
abbrev pub asked_as : Ask → Asked
asked_as (Ask.Write r) = Write r
asked_as (Ask.Read client name vector) = Read client name vector

-- it begins without a chunk, and asks for the first
abbrev pub flown_promotion : (call : ℕ) → Ask → GroupView → GroupView
flown_promotion call ask v =
    chunk_asked (name_asked ask) v.standing.next_opid Head
    (begun_work call kind.Promote (name_asked ask)
    (Flight.Promote call v.standing.next_opid [] ask) v)

-- A call that asked this may begin the promotion of its name where this has no record, and nothing
-- is under way on it.
pub record BeginsPromotion (v : GroupView) (call : ℕ) (ask : Ask) : Type 0 where
  pub may : MayFly v call (λ asked. asked ≡ asked_as ask)
  pub bare : HasRec (joined v) (name_asked ask) None
  pub free : fin.get v.traffic.flights (name_asked ask) ≡ None

abbrev pub PromotionsFlyKeeps : Type 0
PromotionsFlyKeeps =
    (v : GroupView) (call : ℕ) (ask : Ask) → IsWhole v → BeginsPromotion v call ask
    → Keeps as_it_is None v (flown_promotion call ask v)

-- ---- a chunk is gathered

-- the promotion has this chunk too
abbrev pub fed_promotion : Name → (call op : ℕ) → List Chunk → Ask → Chunk → GroupView → GroupView
fed_promotion k call op gather ask x v =
    with_work k (Flight.Promote call op (gather ++ x ∷ []) ask) v

-- a reply of the base has the chunk that a promotion wants
pub record Feeds (v : GroupView) (k : Name) (call op : ℕ) (gather : List Chunk) (ask : Ask)
    (x : Chunk) : Type 0 where
  pub settled : v.stores.pending ≡ None
  pub flight : fin.get v.traffic.flights k ≡ Some (Flight.Promote call op gather ask)
  pub wanted : wanted gather ≡ Some x.at
  pub reply : IsIn (BaseReply.Chunk v.standing.cache_epoch op (Some x))
      (replies_of v.traffic.replies)

abbrev pub FeedingKeeps : Type 0
FeedingKeeps =
    (v : GroupView) (k : Name) (call op : ℕ) (gather : List Chunk) (ask : Ask) (x : Chunk)
    → IsWhole v → Feeds v k call op gather ask x
    → KeepsQuietly v (fed_promotion k call op gather ask x v)

-- and the promotion asks for the next at once, where one is still wanted
abbrev pub FeedingAsksKeeps : Type 0
FeedingAsksKeeps =
    (v : GroupView) (k : Name) (call op : ℕ) (gather : List Chunk) (ask : Ask) (x : Chunk)
    (at : Cursor) → IsWhole v → Feeds v k call op gather ask x
    → wanted (gather ++ x ∷ []) ≡ Some at
    → KeepsQuietly v (chunk_asked k op at (fed_promotion k call op gather ask x v))

-- ---- it is removed

-- a promotion that is whole is removed, at any moment; its call goes on
abbrev pub RemovingPromotionsKeeps : Type 0
RemovingPromotionsKeeps =
    (v : GroupView) (k : Name) (call op : ℕ) (gather : List Chunk) (ask : Ask) (b : NameState)
    → IsWhole v → PromotesHere v k call op gather ask b → KeepsQuietly v (freed k (Some op) v)
