-- Messages that are handed to the base where nothing was read of their names before.
use Rattle.std.specs.Prelude.{◌≡◌, ◌≢◌, ℕ, ◌==◌, nat_lt, Bool, true, Option, Some, None, Result, if◌then◌else◌}
use Rattle.base_pool.specs.Serves.{Serves}
use Rattle.base_pool.specs.Views.{BaseView, IsLive, SoundBase}
use Rattle.base_pool.specs.declared.fault.BaseFault.{BaseFault}
use Rattle.obj_model.specs.Names.{name_fault}
use Rattle.obj_model.specs.declared.change.Pool.TheVariants.{Base}
use Rattle.tier_owners.specs.Calls.{is_write_message}
use Rattle.tier_protocol.specs.Tiers.{IsIn, Name}
use Rattle.tier_types.specs.Serving.{epoch_in, name_in}
use Rattle.tier_types.specs.declared.message.BaseMsg.{BaseMsg}
use Rattle.tier_types.specs.declared.message.BaseReply.{BaseReply}
use Rattle.tier_view.specs.Serves.{Delivers, is_reading}
use Rattle.tier_view.specs.declared.parts.Pending.{Pending}
use Rattle.tier_view.specs.declared.parts.Sent.{Sent}
use Rattle.tier_view.specs.Views.{GroupView}
use Rattle.tier_serve.specs.Bridges.{Became, base_of}

-- the message is on the wire, and its name, if it is about one, is lawful
pub record IsHanded (v : GroupView) (m : Sent) : Type 0 where
  pub on : IsIn m v.traffic.messages
  pub lawful : (k : Name) → name_in m.message ≡ Some k → name_fault k ≡ None

-- Whatever a live base answers to the message is a step of it, where this is in doubt if the disk
-- fails.
abbrev pub IsServedWith : GroupView → Sent → Option Pending → Type 0
IsServedWith v m p =
    (w : GroupView) (opened : Bool) (new : BaseView) (result : Result BaseReply BaseFault)
    (told : Option BaseReply)
    → IsLive (base_of opened v) → SoundBase (base_of opened v)
    → Serves m.message (base_of opened v) new result → Became v m p new result told w
    → Delivers m told v w

-- ---- what is in doubt

-- over a Fence: its epoch, where it is greater than the base's
abbrev pub fence_doubt : (have epoch : ℕ) → Option Pending
fence_doubt have epoch = if nat_lt have epoch then Some (Pending.Epoch Base epoch) else None

-- over an installation: its name, where it is of the base's epoch, whatever the base has
abbrev pub put_doubt : (have epoch : ℕ) → Name → Option Pending
put_doubt have epoch k = if epoch == have then Some (Pending.Plain Base k) else None

-- over any message whose name was not read
abbrev pub unread_doubt : (have : ℕ) → BaseMsg → Option Pending
unread_doubt have (BaseMsg.Fence e) = fence_doubt have e
unread_doubt have (BaseMsg.GetChunk e op k at) = None
unread_doubt have (BaseMsg.Look e op k w) = None
unread_doubt have (BaseMsg.Write e op r) = None
unread_doubt have (BaseMsg.Install e op k t) = put_doubt have e k

-- ---- the laws

-- A message that reads needs no commit, so nothing is ever in doubt over it.
abbrev pub ServingReadings : Type 0
ServingReadings =
    (v : GroupView) (m : Sent) → IsHanded v m → is_reading m.message ≡ true
    → IsServedWith v m None

-- A Fence is about no name.
abbrev pub ServingFences : Type 0
ServingFences =
    (v : GroupView) (m : Sent) (e : ℕ) → IsIn m v.traffic.messages
    → m.message ≡ BaseMsg.Fence e → IsServedWith v m (fence_doubt v.standing.base_epoch e)

-- A message about a name, of another epoch than the base's, is refused.
abbrev pub ServingStrangers : Type 0
ServingStrangers =
    (v : GroupView) (m : Sent) (k : Name) → IsHanded v m → name_in m.message ≡ Some k
    → epoch_in m.message ≢ v.standing.base_epoch → IsServedWith v m None

-- All messages but a Write of the base's epoch: by the message and the epoch alone.
abbrev pub ServingUnread : Type 0
ServingUnread =
    (v : GroupView) (m : Sent) → IsHanded v m
    → (is_write_message m.message ≡ true → epoch_in m.message ≢ v.standing.base_epoch)
    → IsServedWith v m (unread_doubt v.standing.base_epoch m.message)
