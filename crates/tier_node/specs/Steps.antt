-- What an event makes of a group, and what is told of it.
use Rattle.std.specs.Prelude.{◌≡◌, ◌⊎◌, ℕ, true, false, Option, Some, None}
use Rattle.base_pool.specs.declared.fault.BaseFault.TheVariants as base
use Rattle.store_face.specs.declared.fault.StoreFault.TheVariants as store
use Rattle.tier_core.specs.Deliveries.{IsDelivered}
use Rattle.tier_core.specs.Fences.{Hears}
use Rattle.tier_core.specs.Lacks.{IsLackedOf, LacksWrite}
use Rattle.tier_core.specs.Lands.{HearsWrite, IsToldOf}
use Rattle.tier_core.specs.declared.delivering.Delivered.{Delivered}
use Rattle.tier_core.specs.declared.delivering.Delivered.TheVariants as delivered
use Rattle.tier_core.specs.declared.fencing.Heard.{Heard}
use Rattle.tier_core.specs.declared.fencing.Heard.TheVariants as heard
use Rattle.tier_core.specs.declared.landing.Landing.{Landing}
use Rattle.tier_core.specs.declared.landing.Landing.TheVariants as landing
use Rattle.tier_moves.specs.Begins.{ClientBegins}
use Rattle.tier_moves.specs.Choices.{Refuses, Where}
use Rattle.tier_moves.specs.declared.begun.Begun.{Begun}
use Rattle.tier_moves.specs.declared.begun.Begun.TheVariants as begun
use Rattle.tier_node.specs.Advancing.{Advances}
use Rattle.tier_node.specs.Keeping.{FailsKept, RefusesKept, is_own_fence, refusal_in}
use Rattle.tier_node.specs.Replies.{topic_in, call_kept}
use Rattle.tier_node.specs.Starting.{IfSo, StartsFor}
use Rattle.tier_node.specs.declared.event.Event.{Event}
use Rattle.tier_node.specs.declared.event.Event.TheVariants as event
use Rattle.tier_node.specs.declared.outcome.Fault.TheVariants as fault
use Rattle.tier_node.specs.declared.outcome.Outcome.{Outcome}
use Rattle.tier_node.specs.declared.outcome.Outcome.TheVariants.{Answered, HistoryFull, Unlawful, Unbuilt, Going, Carried, Ready, NotReady, Failed, NoMemory, Set, Nothing}
use Rattle.tier_node.specs.declared.receiving.Topic.{Topic}
use Rattle.tier_node.specs.declared.receiving.Topic.TheVariants as topic
use Rattle.tier_traffic.specs.Messages.{replied_of, sent_of}
use Rattle.tier_types.specs.declared.flight.Ask.{Ask}
use Rattle.tier_view.specs.Starts.{forgot_message, forgot_reply, with_base_stopped}
use Rattle.tier_view.specs.Stops.{with_cache_stopped}
use Rattle.tier_view.specs.Stores.{Stores}
use Rattle.tier_view.specs.Views.{GroupView}
use Rattle.tier_view.specs.Whole.{IsReady}
use Rattle.tier_view.specs.declared.parts.Sent.{Sent}

-- ---- a client's call begins

-- what is told of it
abbrev pub told_begun : Begun → Outcome
told_begun begun.Unlawful = Unlawful
told_begun (begun.HistoryFull entries bytes) = HistoryFull entries bytes
told_begun begun.NotReady = NotReady
told_begun (begun.Answered call) = Answered call
told_begun (begun.Unbuilt what) = Unbuilt what
told_begun begun.NoMemory = NoMemory

pub record BeginsCall (line : ℕ) (ask : Ask) (old new : GroupView) (outcome : Outcome) : Type 0
  where
    pub came : Begun
    pub begins : ClientBegins line ask old new came
    pub told : outcome ≡ told_begun came

-- it began, or there was not the memory for what it asks
abbrev pub TakesCall : (line : ℕ) → Ask → (old new : GroupView) → Outcome → Type 0
TakesCall line ask old new outcome =
    BeginsCall line ask old new outcome ⊎ Refuses NoMemory old new outcome

-- ---- a message reaches the base

-- Both stores are live, neither pool was stopped since its store was opened, and no commit is in
-- doubt.
pub record AreLive (s : Stores) : Type 0 where
  pub cache : s.cache.live ≡ true
  pub base : s.base.live ≡ true
  pub cache_runs : s.cache_stopped ≡ false
  pub base_runs : s.base_stopped ≡ false
  pub settled : s.pending ≡ None

-- what is told of it, by what came of it
abbrev pub told_delivered : Delivered → Outcome
told_delivered (delivered.Carried number) = Carried number
told_delivered delivered.Void = Failed fault.Void
told_delivered delivered.NoMemory = NoMemory
told_delivered (delivered.Failed (base.Store store.NoMemory)) = NoMemory
told_delivered (delivered.Failed f) = Failed (fault.Base f)
told_delivered delivered.Nothing = Nothing

-- the base was handed the message
pub record HandsOver (number : ℕ) (old new : GroupView) (outcome : Outcome) : Type 0 where
  pub came : Delivered
  pub comes : IsDelivered number old new came
  pub told : outcome ≡ told_delivered came

-- The base was handed a Fence of the cache's epoch. Those whom it keeps are told that it failed.
abbrev pub EndsFence : Delivered → (old new : GroupView) → Outcome → Type 0
EndsFence (delivered.Failed f) old new outcome = FailsKept f old new outcome
EndsFence came old new outcome = Refuses (told_delivered came) old new outcome

pub record HandsFence (number : ℕ) (old new : GroupView) (outcome : Outcome) : Type 0 where
  pub behind : GroupView
  pub came : Delivered
  pub comes : IsDelivered number old behind came
  pub ends : EndsFence came behind new outcome

abbrev pub HandsMessage : Sent → (number : ℕ) → (old new : GroupView) → Outcome → Type 0
HandsMessage m number old new outcome =
    IfSo (is_own_fence old.standing.cache_epoch m.message) (HandsFence number old new outcome)
    (HandsOver number old new outcome)

-- Nothing exactly where there is no message of the number; else NotReady exactly where the stores
-- are not live.
abbrev pub Delivers : (number : ℕ) → (old new : GroupView) → Outcome → Type 0
Delivers number old new outcome = elim (sent_of old.traffic.messages number) [
  | None ↦ Refuses Nothing old new outcome
  | Some m ↦ Where (AreLive old.stores) (HandsMessage m number old new outcome)
      (Refuses NotReady old new outcome)
]

-- ---- a reply is received

-- What is told of a reply that was heard, where the Fence kept this call: behind a Fenced of the
-- cache's epoch, Ready exactly where the group is ready, and else that a start step is needed.
abbrev pub TellsHeard : Heard → (call : Option ℕ) → (new : GroupView) → Outcome → Type 0
TellsHeard heard.Other call new outcome = outcome ≡ Nothing
TellsHeard h call new outcome =
    Where (IsReady new.stores new.standing) (outcome ≡ Ready) (outcome ≡ Going call)

pub record HearsFenced (number : ℕ) (old new : GroupView) (outcome : Outcome) : Type 0 where
  pub came : Heard
  pub hears : Hears number old new came
  pub told : TellsHeard came (call_kept old.standing.kept) new outcome

-- those whom the Fence keeps are told that it was refused
abbrev pub HearsFence : (number : ℕ) → (old new : GroupView) → Outcome → Type 0
HearsFence number old new outcome =
    elim (refusal_in old.standing.cache_epoch old.traffic number) [
      | None ↦ HearsFenced number old new outcome
      | Some r ↦ RefusesKept r old new outcome
    ]

-- what is told of a reply to a write request
abbrev pub told_landed : Landing → Outcome
told_landed (landing.Answered call) = Answered call
told_landed (landing.GoesOn call) = Going (Some call)
told_landed landing.Nothing = Nothing

pub record HearsWrote (number : ℕ) (old new : GroupView) (outcome : Outcome) : Type 0 where
  pub came : Landing
  pub hears : HearsWrite number old new came
  pub told : outcome ≡ told_landed came

-- it was taken, or there was not the memory
abbrev pub TakesWrite : (number : ℕ) → (old new : GroupView) → Outcome → Type 0
TakesWrite number old new outcome =
    HearsWrote number old new outcome ⊎ Refuses NoMemory old new outcome

-- what is told of a want of room for a write request, by the call that was answered so
abbrev pub told_lacked : Option ℕ → Outcome
told_lacked None = Nothing
told_lacked (Some call) = Answered call

pub record HearsLack (number : ℕ) (old new : GroupView) (outcome : Outcome) : Type 0 where
  pub came : Option ℕ
  pub lacks : LacksWrite number old new came
  pub told : outcome ≡ told_lacked came

-- it was taken, or there was not the memory
abbrev pub TakesLack : (number : ℕ) → (old new : GroupView) → Outcome → Type 0
TakesLack number old new outcome =
    HearsLack number old new outcome ⊎ Refuses NoMemory old new outcome

-- Nothing exactly where it tells of no write request under way that a call drives; else NotReady
-- exactly where the group is not ready.
abbrev pub ReceivesWrite : (number : ℕ) → (old new : GroupView) → Outcome → Type 0
ReceivesWrite number old new outcome =
    Where (IsToldOf old.traffic old.standing.cache_epoch number)
    (Where (IsReady old.stores old.standing) (TakesWrite number old new outcome)
    (Refuses NotReady old new outcome))
    (Refuses Nothing old new outcome)

-- the same of want of room for one that a client's call drives
abbrev pub ReceivesLack : (number : ℕ) → (old new : GroupView) → Outcome → Type 0
ReceivesLack number old new outcome =
    Where
    (IsLackedOf old.log old.calls.entries old.traffic old.standing.cache_epoch number)
    (Where (IsReady old.stores old.standing) (TakesLack number old new outcome)
    (Refuses NotReady old new outcome))
    (Refuses Nothing old new outcome)

-- Nothing where there is none. One that answers a Fence is heard; any other is taken where it tells
-- of work that waits for it.
abbrev pub ReceivesOn : Option Topic → (number : ℕ) → (old new : GroupView) → Outcome → Type 0
ReceivesOn None number old new outcome = Refuses Nothing old new outcome
ReceivesOn (Some topic.Fence) number old new outcome = HearsFence number old new outcome
ReceivesOn (Some topic.Write) number old new outcome = ReceivesWrite number old new outcome
ReceivesOn (Some topic.Room) number old new outcome = ReceivesLack number old new outcome
ReceivesOn (Some topic.Other) number old new outcome = Refuses Nothing old new outcome

abbrev pub Receives : (number : ℕ) → (old new : GroupView) → Outcome → Type 0
Receives number old new outcome =
    ReceivesOn (topic_in old.traffic number) number old new outcome

-- ---- what is lost, and stops

-- it was done
abbrev pub Sets : GroupView → (new : GroupView) → Outcome → Type 0
Sets made new outcome = (outcome ≡ Set) × (new ≡ made)

-- Nothing exactly where there is none of the number
abbrev pub Forgets : (number : ℕ) → (old new : GroupView) → Outcome → Type 0
Forgets number old new outcome = elim (sent_of old.traffic.messages number) [
  | None ↦ Refuses Nothing old new outcome
  | Some m ↦ Sets (forgot_message number old) new outcome
]

abbrev pub ForgetsReply : (number : ℕ) → (old new : GroupView) → Outcome → Type 0
ForgetsReply number old new outcome = elim (replied_of old.traffic.replies number) [
  | None ↦ Refuses Nothing old new outcome
  | Some r ↦ Sets (forgot_reply number old) new outcome
]

abbrev pub Stops : (GroupView → GroupView) → (old new : GroupView) → Outcome → Type 0
Stops change old new outcome = Sets (change old) new outcome

-- ---- all events

abbrev pub Steps : Event → (old new : GroupView) → Outcome → Type 0
Steps (event.Client line ask) old new outcome = TakesCall line ask old new outcome
Steps (event.Deliver message) old new outcome = Delivers message old new outcome
Steps (event.Receive reply) old new outcome = Receives reply old new outcome
Steps (event.Forget message) old new outcome = Forgets message old new outcome
Steps (event.ForgetReply reply) old new outcome = ForgetsReply reply old new outcome
Steps event.StopCache old new outcome = Stops with_cache_stopped old new outcome
Steps event.StopBase old new outcome = Stops with_base_stopped old new outcome
Steps (event.Advance call) old new outcome = Advances call old new outcome
Steps (event.Start line call) old new outcome = StartsFor line call old new outcome
