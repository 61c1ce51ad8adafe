-- What the base's answer makes of the parts of a group that a message touches.
use Rattle.std.specs.Prelude.{◌≡◌, ◌⊎◌, ℕ, ◌+◌, nat_lt, not, Bool, false, Option, Some, None, Result, Ok, Err, if◌then◌else◌}
use Rattle.base_pool.specs.Serves.{Serves}
use Rattle.base_pool.specs.Views.{BaseView}
use Rattle.base_pool.specs.declared.fault.BaseFault.{BaseFault}
use Rattle.base_pool.specs.declared.fault.BaseFault.TheVariants.{Store}
use Rattle.store_face.specs.declared.fault.StoreFault.TheVariants as store
use Rattle.tier_chron.specs.Logs.{Log, acted_log}
use Rattle.tier_traffic.specs.Messages.{sent_of}
use Rattle.tier_types.specs.declared.message.BaseActed.{BaseActed}
use Rattle.tier_types.specs.declared.message.BaseReply.{BaseReply}
use Rattle.tier_view.specs.Delivers.{replied_now}
use Rattle.tier_view.specs.Traffic.{Traffic}
use Rattle.tier_view.specs.declared.parts.Pending.{Pending}
use Rattle.tier_view.specs.declared.parts.Sent.{Sent}
use Rattle.tier_core.specs.Stakes.{FindsStake, IsNamed, act_by, stake_doubt}
use Rattle.tier_core.specs.declared.delivering.Delivered.{Delivered}
use Rattle.tier_core.specs.declared.delivering.Delivered.TheVariants as delivered
use Rattle.tier_core.specs.declared.stakes.Stake.{Stake}
use Rattle.tier_core.specs.declared.stakes.Stake.TheVariants.{Acts}

-- what the base answers to a message
abbrev pub BaseAnswer : Type 0
BaseAnswer = Result BaseReply BaseFault

-- a want of room, with numbers by which there is room
abbrev pub is_void : BaseReply → Bool
is_void (BaseReply.NoSpace e op used need limit) = not (nat_lt limit (used + need))
is_void other = false

-- what is told of it on the wire
abbrev pub told_by : BaseAnswer → Option BaseReply
told_by (Ok reply) = if is_void reply then None else Some reply
told_by (Err fault) = None

abbrev pub traffic_told : (number : ℕ) → Option BaseReply → Traffic → Traffic
traffic_told number None t = t
traffic_told number (Some reply) t = replied_now number reply t

-- the history with the act that this reply tells
abbrev pub log_told : BaseReply → Stake → Log → Log
log_told (BaseReply.Wrote e op (BaseActed.Fresh answer)) (Acts c) log =
    acted_log c.first (act_by c answer) log
log_told reply stake log = log

abbrev pub log_behind : BaseAnswer → Stake → Log → Log
log_behind (Ok reply) stake log = log_told reply stake log
log_behind (Err fault) stake log = log

-- only where the disk failed a doubt is left
abbrev pub doubt_behind : BaseAnswer → Stake → Option Pending → Option Pending
doubt_behind (Err (Store store.Disk)) stake old = stake_doubt stake
doubt_behind other stake old = old

-- what is told of it to who delivers, where this is the next reply's number
abbrev pub delivered_as : (next : ℕ) → BaseAnswer → Delivered
delivered_as next (Ok reply) = if is_void reply then delivered.Void else delivered.Carried next
delivered_as next (Err fault) = delivered.Failed fault

-- the parts of a group that a message touches
pub record Touched : Type 0 where
  pub base : BaseView
  pub epoch : ℕ
  pub pending : Option Pending
  pub log : Log
  pub traffic : Traffic

abbrev pub touched : BaseView → ℕ → Option Pending → Log → Traffic → Touched
touched base epoch pending log traffic =
    record { base = base; epoch = epoch; pending = pending; log = log; traffic = traffic }

-- the parts behind a message that was served
abbrev pub served_parts : (number : ℕ) → Stake → BaseAnswer → BaseView → Touched → Touched
served_parts number stake answer new old = record {
  base = new;
  epoch = new.epoch;
  pending = doubt_behind answer stake old.pending;
  log = log_behind answer stake old.log;
  traffic = traffic_told number (told_by answer) old.traffic;
}

-- a message was served, behind the reading of what is at stake
pub record IsServed (m : Sent) (old new : Touched) (outcome : Delivered) : Type 0 where
  pub between : BaseView
  pub stake : Stake
  pub named : IsNamed m.message
  pub found : FindsStake m old.log old.base between (Ok stake)
  pub answer : BaseAnswer
  pub served : Serves m.message between new.base answer
  pub is : new ≡ served_parts m.number stake answer new.base old
  pub outcome_is : outcome ≡ delivered_as old.traffic.next_reply answer

-- the base did not come to serve it; nothing but the base has changed
pub record IsHalted (m : Sent) (old new : Touched) (outcome : Delivered) : Type 0 where
  pub found : FindsStake m old.log old.base new.base (Err outcome)
  pub is : new ≡ record old { base = new.base }

-- What becomes of the parts where a message is delivered: of which there may be none of the number.
abbrev pub HandsOver : (number : ℕ) → Touched → Touched → Delivered → Type 0
HandsOver number old new outcome = elim (sent_of old.traffic.messages number) [
  | None ↦ (outcome ≡ delivered.Nothing) × (new ≡ old)
  | Some m ↦ IsServed m old new outcome ⊎ IsHalted m old new outcome
]
