-- Whom a Fence keeps, and what they are told.
use Rattle.std.specs.Prelude.{◌≡◌, ◌⊎◌, ◌==◌, ◌<◌, ◌+◌, ℕ, Bool, true, false, if◌then◌else◌, Option, Some, None}
use Rattle.base_pool.specs.declared.fault.BaseFault.{BaseFault}
use Rattle.base_pool.specs.declared.fault.BaseFault.TheVariants as base
use Rattle.obj_model.specs.declared.change.Pool.TheVariants.{Base}
use Rattle.pool_keys.specs.Keys.{epoch_key}
use Rattle.store_face.specs.declared.fault.StoreFault.TheVariants as store
use Rattle.tier_chron.specs.Shapes.{is_reading_fault}
use Rattle.tier_chron.specs.declared.answer.Answer.{Answer}
use Rattle.tier_chron.specs.declared.answer.Answer.TheVariants as answer
use Rattle.tier_core.specs.Turns.{HasNoTurn, HasTurn}
use Rattle.tier_core.specs.declared.turns.Turn.{Turn}
use Rattle.tier_node.specs.Starting.{IfSo, Leaves, LogsIf, is_brief_in, store_answer}
use Rattle.tier_node.specs.Tells.{Tells}
use Rattle.tier_node.specs.declared.keeping.Refusal.{Refusal}
use Rattle.tier_node.specs.declared.keeping.Refusal.TheVariants as refusal
use Rattle.tier_node.specs.declared.keeping.Whom.{Whom}
use Rattle.tier_node.specs.declared.keeping.Whom.TheVariants as whom
use Rattle.tier_node.specs.declared.outcome.Fault.TheVariants as fault
use Rattle.tier_node.specs.declared.outcome.Outcome.{Outcome}
use Rattle.tier_node.specs.declared.outcome.Outcome.TheVariants.{Failed, NoMemory}
use Rattle.tier_traffic.specs.Messages.{replied_of, sent_of}
use Rattle.tier_types.specs.declared.message.BaseMsg.{BaseMsg}
use Rattle.tier_types.specs.declared.message.BaseReply.{BaseReply}
use Rattle.tier_view.specs.Calls.{entry_of}
use Rattle.tier_view.specs.Starts.{forgot_kept}
use Rattle.tier_view.specs.Traffic.{Traffic}
use Rattle.tier_view.specs.Views.{GroupView}
use Rattle.tier_view.specs.declared.parts.KeptFence.{KeptFence}
use Rattle.tier_view.specs.declared.parts.Sent.{Sent}

-- ---- whom it keeps

-- with this line and this call it keeps a call in flight, a line without a call, or nobody
abbrev pub IsWhom : (line call : Option ℕ) → GroupView → Whom → Type 0
IsWhom line (Some call) v who =
    ((turn : Turn) × HasTurn v call turn × (who ≡ whom.Call turn))
    ⊎ (HasNoTurn v call × (who ≡ whom.Nobody))
IsWhom (Some line) None v who = who ≡ whom.Line line
IsWhom None None v who = who ≡ whom.Nobody

abbrev pub IsKeptWhom : Option KeptFence → GroupView → Whom → Type 0
IsKeptWhom None v who = who ≡ whom.Nobody
IsKeptWhom (Some kept) v who = IsWhom kept.line kept.call v who

-- ---- what they are told

-- the call, or the line as a call of its own, is told this, and the Fence keeps them no more
abbrev pub TellsCall : Turn → Answer → (old new : GroupView) → Outcome → Type 0
TellsCall turn told old new outcome = Tells turn told (forgot_kept old) new outcome

abbrev pub TellsLine : (line : ℕ) → Answer → (old new : GroupView) → Outcome → Type 0
TellsLine line told old new outcome = LogsIf line (Some told) (forgot_kept old) new outcome

-- ---- a Fence that fails

-- it is a Fence of this epoch
abbrev pub is_own_fence : (epoch : ℕ) → BaseMsg → Bool
is_own_fence epoch (BaseMsg.Fence e) = e == epoch
is_own_fence epoch other = false

-- the answer that tells of a fault of the base; none tells of want of memory
abbrev pub base_answer : BaseFault → Option Answer
base_answer (base.Store f) = store_answer Base f
base_answer (base.BadRecord name) = Some (answer.BadRecord Base name)

-- every call may be answered so
abbrev pub IsForAll : Option Answer → Type 0
IsForAll None = Unit {0}
IsForAll (Some told) = is_reading_fault told ≡ true

-- what is told of a fault of the base where nobody is kept
abbrev pub told_failed : BaseFault → Outcome
told_failed (base.Store store.NoMemory) = NoMemory
told_failed f = Failed (fault.Base f)

-- want of memory is told to nobody, and changes nothing
abbrev pub TellsCallIf : Turn → Option Answer → (old new : GroupView) → Outcome → Type 0
TellsCallIf turn None old new outcome = Leaves NoMemory old new outcome
TellsCallIf turn (Some told) old new outcome = TellsCall turn told old new outcome

abbrev pub TellsLineIf : (line : ℕ) → Option Answer → (old new : GroupView) → Outcome → Type 0
TellsLineIf line None old new outcome = Leaves NoMemory old new outcome
TellsLineIf line (Some told) old new outcome = TellsLine line told old new outcome

-- by whom it keeps
abbrev pub FailsWhom : Whom → BaseFault → (old new : GroupView) → Outcome → Type 0
FailsWhom (whom.Call turn) f old new outcome = TellsCallIf turn (base_answer f) old new outcome
FailsWhom (whom.Line line) f old new outcome = TellsLineIf line (base_answer f) old new outcome
FailsWhom whom.Nobody f old new outcome = Leaves (told_failed f) old new outcome

-- those whom it keeps are told, once
pub record FailsKept (f : BaseFault) (old new : GroupView) (outcome : Outcome) : Type 0 where
  pub who : Whom
  pub kept : IsKeptWhom old.standing.kept old who
  pub fails : FailsWhom who f old new outcome

-- ---- a reply that refuses a Fence

abbrev pub is_own_sent : (epoch : ℕ) → Option Sent → Bool
is_own_sent epoch None = false
is_own_sent epoch (Some s) = is_own_fence epoch s.message

-- How a reply refuses a Fence of this epoch, by the message that it answers: by another epoch, or
-- for want of room.
abbrev pub refusal_of : (epoch : ℕ) → Option Sent → BaseReply → Option Refusal
refusal_of epoch sent (BaseReply.OldEpoch have got) =
    if is_own_sent epoch sent then Some refusal.Epoch else None
refusal_of epoch sent (BaseReply.NotFenced have got) =
    if is_own_sent epoch sent then Some refusal.Epoch else None
refusal_of epoch sent (BaseReply.NoSpace e op used need limit) =
    if e == epoch then Some (refusal.Room used need limit) else None
refusal_of epoch sent other = None

-- the event's fault, where nobody is told
abbrev pub told_refused : Refusal → Outcome
told_refused refusal.Epoch = Failed (fault.Base (base.BadRecord epoch_key))
told_refused (refusal.Room used need limit) =
    Failed (fault.Base (base.Store (store.NoSpace used need limit)))

-- By whom it keeps: another epoch is told as a base whose value of its epoch spells nothing, since
-- no base over a store that tells refuses so. Want of room is not told to a call that ends with its
-- first step. Where nobody is told, it is the event's.
abbrev pub RefusesWhom : Whom → Refusal → (old new : GroupView) → Outcome → Type 0
RefusesWhom (whom.Call turn) refusal.Epoch old new outcome =
    TellsCall turn (answer.BadRecord Base epoch_key) old new outcome
    ⊎ Leaves NoMemory old new outcome
RefusesWhom (whom.Call turn) (refusal.Room used need limit) old new outcome =
    IfSo (is_brief_in (entry_of old.calls.entries turn.call))
    (Leaves (told_refused (refusal.Room used need limit)) old new outcome)
    (TellsCall turn (answer.NoSpace Base used need limit) old new outcome)
RefusesWhom (whom.Line line) refusal.Epoch old new outcome =
    TellsLine line (answer.BadRecord Base epoch_key) old new outcome
    ⊎ Leaves NoMemory old new outcome
RefusesWhom (whom.Line line) (refusal.Room used need limit) old new outcome =
    TellsLine line (answer.NoSpace Base used need limit) old new outcome
RefusesWhom whom.Nobody refusal.Epoch old new outcome =
    Leaves (told_refused refusal.Epoch) old new outcome ⊎ Leaves NoMemory old new outcome
RefusesWhom whom.Nobody (refusal.Room used need limit) old new outcome =
    Leaves (told_refused (refusal.Room used need limit)) old new outcome

-- a want of room has numbers that are one
abbrev pub IsOverIf : Refusal → Type 0
IsOverIf refusal.Epoch = Unit {0}
IsOverIf (refusal.Room used need limit) = limit < used + need

-- how the reply of this number refuses a Fence of this epoch, if it does
abbrev pub refusal_in : (epoch : ℕ) → Traffic → (number : ℕ) → Option Refusal
refusal_in epoch t number = elim (replied_of t.replies number) [
  | None ↦ None
  | Some r ↦ refusal_of epoch (sent_of t.messages r.answers) r.reply
]

pub record RefusesKept (r : Refusal) (old new : GroupView) (outcome : Outcome) : Type 0 where
  pub who : Whom
  pub kept : IsKeptWhom old.standing.kept old who
  pub refuses : RefusesWhom who r old new outcome
