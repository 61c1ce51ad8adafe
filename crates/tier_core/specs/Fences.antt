-- The base is told the cache's epoch, and tells it.
use Rattle.std.specs.Prelude.{◌≡◌, ◌≢◌, ◌⊎◌, ℕ, ◌==◌, Bool, true, false, Option, Some, None}
use Rattle.tier_core.specs.declared.fencing.Heard.{Heard}
use Rattle.tier_core.specs.declared.fencing.Heard.TheVariants.{Up, Uncounted, Other}
use Rattle.tier_core.specs.declared.parts.Start.{Start}
use Rattle.tier_protocol.specs.Tiers.{BaseReply, Phase}
use Rattle.tier_traffic.specs.Messages.{replied_of}
use Rattle.tier_view.specs.Starts.{HearsFenced, forgot_kept, gone_up}
use Rattle.tier_view.specs.Views.{GroupView}
use Rattle.tier_view.specs.declared.parts.Replied.{Replied}

-- the reply of this number is Fenced of the cache's epoch, whichever Fence it answers
pub record IsFenced (v : GroupView) (number : ℕ) (r : Replied) : Type 0 where
  pub there : replied_of v.traffic.replies number ≡ Some r
  pub fenced : r.reply ≡ BaseReply.Fenced v.standing.cache_epoch

-- there is no such reply, or it is another
abbrev pub IsOther : (epoch : ℕ) → Option Replied → Type 0
IsOther epoch None = Unit {0}
IsOther epoch (Some r) = r.reply ≢ BaseReply.Fenced epoch

-- What came of a reply. Fenced of the cache's epoch takes a cache up that was raised, while the
-- base runs. Else it does not count, and what the Fence keeps is forgotten. With any other reply,
-- and where there is none of this number, nothing changes.
abbrev pub Hears : (number : ℕ) → (old new : GroupView) → Heard → Type 0
Hears number old new Up =
    ((r : Replied) × IsFenced old number r × HearsFenced old r) × (new ≡ gone_up old)
Hears number old new Uncounted =
    ((r : Replied) × IsFenced old number r)
    × ((old.standing.phase ≡ Phase.Down) ⊎ (old.stores.base_stopped ≡ true))
    × (new ≡ forgot_kept old)
Hears number old new Other =
    IsOther old.standing.cache_epoch (replied_of old.traffic.replies number) × (new ≡ old)

-- ---- what it is made of

abbrev pub is_fenced : (epoch : ℕ) → BaseReply → Bool
is_fenced epoch (BaseReply.Fenced other) = other == epoch
is_fenced epoch other = false

abbrev pub tells_fenced : (epoch : ℕ) → Option Replied → Bool
tells_fenced epoch None = false
tells_fenced epoch (Some r) = is_fenced epoch r.reply

-- what comes of it, by how far the cache has come and whether the base is stopped
abbrev pub heard_by : Phase → (base_stopped fenced : Bool) → Heard
heard_by phase stopped false = Other
heard_by Phase.Down stopped true = Uncounted
heard_by Phase.Raised true true = Uncounted
heard_by Phase.Raised false true = Up
heard_by Phase.Up true true = Uncounted
heard_by Phase.Up false true = Up

abbrev pub start_heard : Heard → Start → Start
start_heard Up s = record s { phase = Phase.Up; fenced = true; kept = None }
start_heard Uncounted s = record s { kept = None }
start_heard Other s = s
