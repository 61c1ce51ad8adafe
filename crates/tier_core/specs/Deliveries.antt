-- A message is delivered to the base: what becomes of the group.
use Rattle.std.specs.Prelude.{◌≡◌, ◌⊎◌, ◌≤◌, ℕ, ◌+◌, true, Option, Some, None, Result, Ok, Err}
use Rattle.base_pool.specs.Serves.{Serves}
use Rattle.base_pool.specs.declared.fault.BaseFault.{BaseFault}
use Rattle.obj_model.specs.declared.state.NameState.{NameState}
use Rattle.store_face.specs.Calls.{Stays}
use Rattle.tier_join.specs.Promises.{as_it_is}
use Rattle.tier_join.specs.Steps.{act_of}
use Rattle.tier_serve.specs.Bridges.{Became, Hands, base_of}
use Rattle.tier_traffic.specs.Messages.{sent_of}
use Rattle.tier_types.specs.declared.message.BaseReply.{BaseReply}
use Rattle.tier_view.specs.Delivers.{with_base}
use Rattle.tier_view.specs.Laws.{Keeps}
use Rattle.tier_view.specs.Serves.{Delivers, LeavesBase, LeavesRest}
use Rattle.tier_view.specs.Views.{GroupView}
use Rattle.tier_view.specs.declared.parts.Pending.{Pending}
use Rattle.tier_view.specs.declared.parts.Sent.{Sent}
use Rattle.tier_core.specs.declared.delivering.Delivered.{Delivered}
use Rattle.tier_core.specs.declared.delivering.Delivered.TheVariants as delivered

-- What was in doubt, if the disk failed, was known before the base served the message; what its
-- answer makes of the group.
pub record Becomes (v w : GroupView) (m : Sent) (answer : Result BaseReply BaseFault)
    (told : Option BaseReply) : Type 0 where
  pub state : NameState
  pub doubt : Option Pending
  pub hands : Hands v m state doubt
  pub became : Became v m doubt (base_of true w) answer told w

-- The base failed when the state of a Write's name was read, before the Write was served: nothing
-- but its store has changed.
pub record FailsFirst (v w : GroupView) (answer : Result BaseReply BaseFault)
    (told : Option BaseReply) : Type 0 where
  pub fault : BaseFault
  pub answer_is : answer ≡ Err fault
  pub told_is : told ≡ None
  pub leaves : LeavesBase v w.stores.base
  pub is : w ≡ with_base w.stores.base None v

-- The base was handed a message, answered this, and told this: what becomes of the group, that it
-- is a step of the message, and that the message is on the wire still.
pub record WasHanded (v w : GroupView) (m : Sent) (answer : Result BaseReply BaseFault)
    (told : Option BaseReply) : Type 0 where
  pub served : Serves m.message (base_of true v) (base_of true w) answer
  pub becomes : Becomes v w m answer told ⊎ FailsFirst v w answer told
  pub delivers : Delivers m told v w
  pub rest : LeavesRest m told v w
  pub step : Keeps (act_of m.message) None v w

-- the base replied, and the reply stands under this number
pub record IsCarried (v w : GroupView) (m : Sent) (number : ℕ) : Type 0 where
  pub reply : BaseReply
  pub handed : WasHanded v w m (Ok reply) (Some reply)
  pub number_is : number ≡ v.traffic.next_reply

-- the base told a want of room, with numbers by which there is room
pub record IsVoid (v w : GroupView) (m : Sent) : Type 0 where
  pub epoch : ℕ
  pub opid : ℕ
  pub used : ℕ
  pub need : ℕ
  pub limit : ℕ
  pub room : used + need ≤ limit
  pub handed : WasHanded v w m (Ok (BaseReply.NoSpace epoch opid used need limit)) None

-- there was not the memory: nothing but the base's store has changed, which was read
pub record IsUnserved (v w : GroupView) : Type 0 where
  pub stays : Stays v.stores.base w.stores.base
  pub is : w ≡ with_base w.stores.base None v
  pub step : Keeps as_it_is None v w

-- what came of a message that stands
abbrev pub ComesOf : Sent → (v w : GroupView) → Delivered → Type 0
ComesOf m v w (delivered.Carried number) = IsCarried v w m number
ComesOf m v w delivered.Void = IsVoid v w m
ComesOf m v w (delivered.Failed fault) = WasHanded v w m (Err fault) None
ComesOf m v w delivered.NoMemory = IsUnserved v w
ComesOf m v w delivered.Nothing = ⊥

-- The message of this number was delivered, with this outcome: Nothing exactly where there is none.
abbrev pub IsDelivered : (number : ℕ) → (v w : GroupView) → Delivered → Type 0
IsDelivered number v w outcome = elim (sent_of v.traffic.messages number) [
  | None ↦ (outcome ≡ delivered.Nothing) × (w ≡ v)
  | Some m ↦ ComesOf m v w outcome
]
