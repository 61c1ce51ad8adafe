-- The moves fit one another: what one leaves is what the next one needs.
use Rattle.std.specs.Prelude.{◌≡◌, ◌≢◌, ◌<◌, ℕ, Bool, true, List, [], ◌∷◌, ◌++◌, Option, Some, None}
use Rattle.copy_chunk.specs.Gathers.{wanted}
use Rattle.copy_chunk.specs.declared.chunk.Chunk.{Chunk}
use Rattle.copy_chunk.specs.declared.chunk.Cursor.{Cursor}
use Rattle.obj_model.specs.declared.reply.Reply.{Reply}
use Rattle.obj_model.specs.declared.req.Req.{Req}
use Rattle.obj_model.specs.declared.state.NameState.{NameState}
use Rattle.obj_ops.specs.declared.request.Acted.TheVariants.{Fresh}
use Rattle.obj_ops.specs.Acts.{act}
use Rattle.tier_protocol.specs.Tiers.{Name, Ask, Flight, TierRec, BaseMsg, BaseActed, Phase, Tier, cell_of}
use Rattle.tier_protocol.specs.Sound.{IsSound}
use Rattle.tier_protocol.specs.Moves.{begun, cleaned, delivered, raised, sent, went_up, MayClean, MayEvict, MayGather, MayLand}

-- the cache is raised, the Fence is sent and delivered, and its reply received
abbrev pub fenced : Tier → Tier
fenced t =
    delivered (BaseMsg.Fence (raised t).net.cache_epoch)
    (sent (BaseMsg.Fence (raised t).net.cache_epoch) (raised t))

-- a start leads from a stop to a cache that is up, whatever is on the wire
abbrev pub StartsAreUp : Type 0
StartsAreUp =
    (t : Tier) → IsSound t → t.net.phase ≢ Phase.Up
    → IsSound (went_up (fenced t)) × (t.net.base_epoch < (went_up (fenced t)).net.base_epoch)

-- a proxied write begins and is sent
abbrev pub write_asked : (call : ℕ) → Req → Tier → Tier
write_asked call r t =
    sent (BaseMsg.Write t.net.cache_epoch t.net.next_opid r)
    (begun r.name (Flight.Write (Some call) call t.net.next_opid r) t)

-- it acts when it is delivered, and can land then
abbrev pub WritesLand : Type 0
WritesLand =
    (t : Tier) (call : ℕ) (r : Req) (s : NameState) (answer : Reply) → IsSound t
    → t.net.phase ≡ Phase.Up
    → (cell_of t r.name).rec ≡ None → (cell_of t r.name).flight ≡ None
    → act (cell_of t r.name).plain r ≡ Fresh s answer
    → IsSound (write_asked call r t)
    × ((delivered (BaseMsg.Write t.net.cache_epoch t.net.next_opid r) (write_asked call r t)).acts
    ≡ t.acts ++ r ∷ [])
    × MayLand
    (delivered (BaseMsg.Write t.net.cache_epoch t.net.next_opid r) (write_asked call r t))
    r.name (Some call) call t.net.next_opid r (BaseActed.Fresh answer)

-- a flush begins and is sent
abbrev pub flush_asked : Name → (call : Option ℕ) → TierRec → (blocking drain : Bool) → Tier → Tier
flush_asked k call r blocking drain t =
    sent (BaseMsg.Install t.net.cache_epoch t.net.next_opid k r.state)
    (begun k (Flight.Flush call t.net.next_opid r.state.seq blocking drain) t)

-- it can end when it is delivered, and the clean record be evicted then
abbrev pub FlushesClean : Type 0
FlushesClean =
    (t : Tier) (k : Name) (call : Option ℕ) (r : TierRec) (blocking drain : Bool) → IsSound t
    → t.net.phase ≡ Phase.Up
    → (cell_of t k).rec ≡ Some r → r.dirty ≡ true → (cell_of t k).flight ≡ None
    → IsSound (flush_asked k call r blocking drain t)
    × MayClean
    (delivered (BaseMsg.Install t.net.cache_epoch t.net.next_opid k r.state)
    (flush_asked k call r blocking drain t))
    k call t.net.next_opid r.state.seq r.state.seq blocking drain r
    × MayEvict (cleaned k r t) k

-- a promotion that wants a chunk is given it, once it asks and is heard
abbrev pub PromotionsGoOn : Type 0
PromotionsGoOn =
    (t : Tier) (k : Name) (call op : ℕ) (gather : List Chunk) (ask : Ask) (at : Cursor) → IsSound t
    → (cell_of t k).flight ≡ Some (Flight.Promote call op gather ask) → wanted gather ≡ Some at
    → (x : Chunk)
    × MayGather
    (delivered (BaseMsg.GetChunk t.net.cache_epoch op k at)
    (sent (BaseMsg.GetChunk t.net.cache_epoch op k at) t))
    k call op gather ask x
