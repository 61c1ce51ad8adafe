-- Moves that leave the base's states and the history, send nothing, and begin no write request: the
-- owners are as they were (`quiet_keeps`).
use Rattle.std.specs.Prelude.{◌≡◌, ℕ, false, List, Some}
use Rattle.copy_chunk.specs.declared.chunk.Chunk.{Chunk}
use Rattle.obj_model.specs.declared.reply.Reply.{Reply}
use Rattle.obj_model.specs.declared.state.NameState.{NameState}
use Rattle.tier_types.specs.Flights.{is_write}
use Rattle.tier_protocol.specs.Tiers.{Name, Ask, Flight, TierRec, BaseMsg, BaseReply, BaseActed, Tier}
use Rattle.tier_protocol.specs.Sound.{IsSound}
use Rattle.tier_protocol.specs.Moves.{begun, cleaned, drained, epoch_found, evicted, filled, gathered, landed, promoted, raised_to, went_up, with_reply, MayRaise}
use Rattle.tier_protocol.specs.Owners.{Quiet}

-- a reply that does not say of a request that it acted just now
abbrev pub ReplyingIsQuiet : Type 0
ReplyingIsQuiet =
    (t : Tier) (p : BaseReply)
    → ((e op : ℕ) (answer : Reply) → BaseReply.Wrote e op (BaseActed.Fresh answer) ≡ p → ⊥)
    → Quiet t (with_reply p t)

-- the commit of a message finds no space
abbrev pub FillingIsQuiet : Type 0
FillingIsQuiet = (t : Tier) (m : BaseMsg) (used need limit : ℕ)
    → Quiet t (filled m used need limit t)

-- a promotion takes a chunk
abbrev pub GatheringIsQuiet : Type 0
GatheringIsQuiet =
    (t : Tier) (k : Name) (call op : ℕ) (gather : List Chunk) (ask : Ask) (x : Chunk)
    → Quiet t (gathered k call op gather ask x t)

-- a promotion ends with a record
abbrev pub PromotingIsQuiet : Type 0
PromotingIsQuiet = (t : Tier) (k : Name) (s : NameState) (moment : ℕ)
    → Quiet t (promoted k s moment t)

-- a flush ends, with a clean record or with none
abbrev pub CleaningIsQuiet : Type 0
CleaningIsQuiet = (t : Tier) (k : Name) (r : TierRec) → Quiet t (cleaned k r t)
    × Quiet t (drained k t)

-- a record is evicted
abbrev pub EvictingIsQuiet : Type 0
EvictingIsQuiet = (t : Tier) (k : Name) → Quiet t (evicted k t)

-- a proxied write lands
abbrev pub LandingIsQuiet : Type 0
LandingIsQuiet = (t : Tier) (k : Name) → Quiet t (landed k t)

-- work begins that is no write request
abbrev pub BeginningIsQuiet : Type 0
BeginningIsQuiet =
    (t : Tier) (k : Name) (f : Flight) → is_write (Some f) ≡ false → Quiet t (begun k f t)

-- the epoch is raised, or a raise is found, while the cache is not up
abbrev pub RaisingIsQuiet : Type 0
RaisingIsQuiet =
    (t : Tier) (e : ℕ) → IsSound t → MayRaise t e → Quiet t (raised_to e t)
    × Quiet t (epoch_found e t)

-- the cache goes up
abbrev pub GoingUpIsQuiet : Type 0
GoingUpIsQuiet = (t : Tier) → Quiet t (went_up t)
