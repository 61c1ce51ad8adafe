-- What a base does with a message is what a step of the group may be.
use Rattle.std.specs.Prelude.{◌≡◌, ◌⊎◌, ◌<◌, ℕ, ◌+◌, Bool, Option, Some, None, Result, Ok, Err}
use Rattle.base_pool.specs.Opens.{ReadsState}
use Rattle.base_pool.specs.Serves.{Serves}
use Rattle.base_pool.specs.Views.{BaseView, IsLive, SoundBase}
use Rattle.base_pool.specs.declared.fault.BaseFault.{BaseFault}
use Rattle.base_pool.specs.declared.fault.BaseFault.TheVariants.{Store}
use Rattle.obj_model.specs.Names.{name_fault}
use Rattle.obj_model.specs.declared.reply.Reply.{Reply}
use Rattle.obj_model.specs.declared.req.Req.{Req}
use Rattle.obj_model.specs.declared.state.NameState.{NameState}
use Rattle.store_face.specs.Views.{StoreView}
use Rattle.store_face.specs.declared.fault.StoreFault.TheVariants as store
use Rattle.tier_chron.specs.Laws.{MayAct}
use Rattle.tier_chron.specs.declared.entries.First.{First}
use Rattle.tier_join.specs.Steps.{HasState}
use Rattle.tier_protocol.specs.Tiers.{IsIn, Name}
use Rattle.tier_types.specs.Serving.{name_in}
use Rattle.tier_types.specs.declared.message.BaseActed.{BaseActed}
use Rattle.tier_types.specs.declared.message.BaseMsg.{BaseMsg}
use Rattle.tier_types.specs.declared.message.BaseReply.{BaseReply}
use Rattle.tier_view.specs.Delivers.{IsFirstThere, acted_there, with_base}
use Rattle.tier_view.specs.Serves.{Delivers, IsInDoubt, LeavesBase, replied_there}
use Rattle.tier_view.specs.declared.parts.Pending.{Pending}
use Rattle.tier_view.specs.declared.parts.Owner.{Owner}
use Rattle.tier_view.specs.declared.parts.Sent.{Sent}
use Rattle.tier_view.specs.Views.{GroupView, calls_in, joined}

-- the base of a group, as its crate sees it
abbrev pub base_of : (opened : Bool) → GroupView → BaseView
base_of opened v = record {
  store = v.stores.base;
  epoch = v.standing.base_epoch;
  opened = opened;
}

-- What who hands a message to the base knows: it is on the wire, its name is lawful, and what is in
-- doubt where the disk fails; of a Write by the state that was read of the name before.
pub record Hands (v : GroupView) (m : Sent) (b : NameState) (p : Option Pending) : Type 0 where
  pub on : IsIn m v.traffic.messages
  pub lawful : (k : Name) → name_in m.message ≡ Some k → name_fault k ≡ None
  pub doubt : IsInDoubt v m b p

-- A Write acted. Its act is its owner's, with an opening that has the state which was read before;
-- or it is none, where the tables say that the owner may not act.
pub data BecameActed (v : GroupView) (m : Sent) (op : ℕ) (answer : Reply) (s : StoreView)
    (w : GroupView) : Type 0 where
  is_owned : (o : Owner) (r : Req) (first : Option First) (seq : ℕ)
      → m.message ≡ BaseMsg.Write v.standing.base_epoch op r → m.owner ≡ Some o
      → MayAct (calls_in v.calls.entries) v.log
      (record { call = o.call; line = o.line; req = r; reply = answer })
      → IsFirstThere v r.name first
      → w ≡ acted_there m.number op first
      (record { call = o.call; line = o.line; req = r; reply = answer }) seq s (Ok tt) v
      → BecameActed v m op answer s w
  strays_there : (o : Owner) (r : Req)
      → m.message ≡ BaseMsg.Write v.standing.base_epoch op r → m.owner ≡ Some o
      → (MayAct (calls_in v.calls.entries) v.log
      (record { call = o.call; line = o.line; req = r; reply = answer }) → ⊥)
      → w ≡ replied_there m.number
      (BaseReply.Wrote v.standing.base_epoch op (BaseActed.Fresh answer)) v.standing.base_epoch s v
      → BecameActed v m op answer s w

-- What becomes of the group, and what it is told, by what the base answered: its reply, its epoch
-- and its store are the new ones. A want of room whose numbers say that there is room is no reply. A
-- disk that failed leaves the doubt; any other fault nothing but the store.
abbrev pub Became : GroupView → Sent → Option Pending → BaseView → Result BaseReply BaseFault
    → Option BaseReply → GroupView → Type 0
Became v m p new (Ok (BaseReply.Wrote e op (BaseActed.Fresh answer))) told w =
    (told ≡ Some (BaseReply.Wrote e op (BaseActed.Fresh answer)))
    × BecameActed v m op answer new.store w
Became v m p new (Ok (BaseReply.NoSpace e op used need limit)) told w =
    (limit < used + need) × (told ≡ Some (BaseReply.NoSpace e op used need limit))
    × (w ≡ replied_there m.number (BaseReply.NoSpace e op used need limit) new.epoch new.store v)
    ⊎ (told ≡ None) × (w ≡ with_base new.store None v)
Became v m p new (Ok reply) told w =
    (told ≡ Some reply) × (w ≡ replied_there m.number reply new.epoch new.store v)
Became v m p new (Err (Store store.Disk)) told w = (told ≡ None) × (w ≡ with_base new.store p v)
Became v m p new (Err fault) told w = (told ≡ None) × (w ≡ with_base new.store None v)

-- Whatever a live base answers to a message, what becomes of the group is a step of the message.
abbrev pub ServingDelivers : Type 0
ServingDelivers =
    (v w : GroupView) (m : Sent) (opened : Bool) (new : BaseView) (b : NameState)
    (p : Option Pending) (result : Result BaseReply BaseFault) (told : Option BaseReply)
    → IsLive (base_of opened v) → SoundBase (base_of opened v) → Hands v m b p
    → Serves m.message (base_of opened v) new result → Became v m p new result told w
    → Delivers m told v w

-- The base behind it is the one of its call: the group has its store, and its epoch.
abbrev pub BasesAgree : Type 0
BasesAgree =
    (v w : GroupView) (m : Sent) (opened : Bool) (new : BaseView) (p : Option Pending)
    (result : Result BaseReply BaseFault) (told : Option BaseReply)
    → Serves m.message (base_of opened v) new result → Became v m p new result told w
    → base_of new.opened w ≡ new

-- ---- the base is read

-- what was read is what the base of the group has then
abbrev pub HasRead : GroupView → Name → Result NameState BaseFault → Type 0
HasRead w name (Ok s) = HasState (joined w) name s
HasRead w name (Err fault) = Unit {0}

-- A live base is read: the group has its store then, and that is a step; what was read is the
-- base's.
abbrev pub ReadingLeaves : Type 0
ReadingLeaves =
    (v : GroupView) (opened : Bool) (new : BaseView) (name : Name)
    (result : Result NameState BaseFault) → IsLive (base_of opened v)
    → SoundBase (base_of opened v) → ReadsState name (base_of opened v) new result
    → LeavesBase v new.store × HasRead (with_base new.store None v) name result
    × (base_of new.opened (with_base new.store None v) ≡ new)
