-- What a message may come to beside a reply, before the base serves it.
use Rattle.std.specs.Prelude.{◌≡◌, ◌≤◌, ◌⊎◌, ℕ, ◌==◌, List, Option, Some, None, Result, Ok, Err, if◌then◌else◌}
use Rattle.base_pool.specs.Opens.{ReadsState}
use Rattle.base_pool.specs.Serves.{StaysBase}
use Rattle.base_pool.specs.Views.{BaseView, Has}
use Rattle.obj_model.specs.Names.{name_fault}
use Rattle.obj_model.specs.declared.change.Pool.TheVariants.{Base}
use Rattle.obj_model.specs.declared.reply.Reply.{Reply}
use Rattle.obj_model.specs.declared.req.Req.{Req}
use Rattle.obj_model.specs.declared.state.NameState.{NameState}
use Rattle.obj_ops.specs.Acts.{act}
use Rattle.obj_ops.specs.declared.request.Acted.{Acted}
use Rattle.obj_ops.specs.declared.request.Acted.TheVariants as acted
use Rattle.store_face.specs.Views.{Holds}
use Rattle.tier_chron.specs.Laws.{MayStillAct}
use Rattle.tier_chron.specs.Logs.{Log}
use Rattle.tier_chron.specs.declared.entries.Act.{Act}
use Rattle.tier_serve.specs.Unread.{unread_doubt}
use Rattle.tier_types.specs.Serving.{name_in}
use Rattle.tier_types.specs.declared.message.BaseMsg.{BaseMsg}
use Rattle.tier_view.specs.declared.parts.Owner.{Owner}
use Rattle.tier_view.specs.declared.parts.Pending.{Pending}
use Rattle.tier_view.specs.declared.parts.Sent.{Sent}
use Rattle.tier_core.specs.Acts.{first_for}
use Rattle.tier_core.specs.declared.delivering.Delivered.{Delivered}
use Rattle.tier_core.specs.declared.delivering.Delivered.TheVariants as delivered
use Rattle.tier_core.specs.declared.stakes.Chance.{Chance}
use Rattle.tier_core.specs.declared.stakes.Fresh.{Fresh}
use Rattle.tier_core.specs.declared.stakes.Stake.{Stake}
use Rattle.tier_core.specs.declared.stakes.Stake.TheVariants.{Plain, Acts}

-- the name of a message, if it is about one, is lawful
abbrev pub IsNamed : BaseMsg → Type 0
IsNamed msg = (k : List ℕ) → name_in msg ≡ Some k → name_fault k ≡ None

-- what a request that acts comes to
abbrev pub fresh_of : Acted → Option Fresh
fresh_of (acted.Fresh t reply) = Some (record { reply = reply; seq = t.seq })
fresh_of (acted.Again reply) = None
fresh_of (acted.Stale kept) = None
fresh_of (acted.Worn limit) = None

-- the act that a Write of this owner may be, by the state that was read of its name
abbrev pub chance_of : Log → Owner → Req → NameState → Chance
chance_of log o r s = record {
  first = first_for log.opening r.name s;
  call = o.call;
  line = o.line;
  req = r;
  fresh = fresh_of (act s r);
}

-- the act that it is, with this reply
abbrev pub act_by : Chance → Reply → Act
act_by c answer = record { call = c.call; line = c.line; req = c.req; reply = answer }

-- what is in doubt where the disk fails
abbrev pub chance_doubt : Chance → Option Fresh → Option Pending
chance_doubt c None = None
chance_doubt c (Some f) = Some (Pending.Act Base c.first (act_by c f.reply) f.seq)

abbrev pub stake_doubt : Stake → Option Pending
stake_doubt (Plain doubt) = doubt
stake_doubt (Acts c) = chance_doubt c c.fresh

-- there is memory for the act, if it may come
abbrev pub HasRoom : Stake → (spare : ℕ) → Type 0
HasRoom (Plain doubt) spare = Unit {0}
HasRoom (Acts c) spare = 1 ≤ spare

-- what is at stake with a Write of the base's epoch, by the state that was read of its name: its
-- owner's act, if the owner may act still
abbrev pub IsAtStake : Log → Option Owner → Req → NameState → Stake → Type 0
IsAtStake log None r s stake = stake ≡ Plain None
IsAtStake log (Some o) r s stake =
    (MayStillAct o.call log × (stake ≡ Acts (chance_of log o r s)))
    ⊎ ((MayStillAct o.call log → ⊥) × (stake ≡ Plain None))

-- a Write of the base's epoch
abbrev pub own_write : (have : ℕ) → BaseMsg → Option Req
own_write have (BaseMsg.Fence e) = None
own_write have (BaseMsg.GetChunk e op k at) = None
own_write have (BaseMsg.Look e op k v) = None
own_write have (BaseMsg.Write e op r) = if e == have then Some r else None
own_write have (BaseMsg.Install e op k s) = None

-- the base had this state of the name of a Write, by which this is at stake
pub record IsReadFor (owner : Option Owner) (r : Req) (log : Log) (b : BaseView) (stake : Stake)
    : Type 0 where
  pub state : NameState
  pub has : Holds b.store (Has r.name state)
  pub is : IsAtStake log owner r state stake

-- What is at stake with a Write of the base's epoch, or why the base does not come to serve it: a
-- fault of the reading, or want of memory.
abbrev pub ReadsStake : Option Owner → Req → Log → BaseView → BaseView → Result Stake Delivered
    → Type 0
ReadsStake owner r log old new (Ok stake) = StaysBase old new × IsReadFor owner r log old stake
ReadsStake owner r log old new (Err (delivered.Failed fault)) =
    ReadsState r.name old new (Err fault)
ReadsStake owner r log old new (Err delivered.NoMemory) = StaysBase old new
ReadsStake owner r log old new (Err other) = ⊥

-- what is at stake with another message, or that there was not the memory
abbrev pub FindsUnread : BaseMsg → BaseView → BaseView → Result Stake Delivered → Type 0
FindsUnread msg old new (Ok stake) = (new ≡ old) × (stake ≡ Plain (unread_doubt old.epoch msg))
FindsUnread msg old new (Err delivered.NoMemory) = new ≡ old
FindsUnread msg old new (Err other) = ⊥

-- the same of any message: of no other the name is read
abbrev pub FindsStake : Sent → Log → BaseView → BaseView → Result Stake Delivered → Type 0
FindsStake m log old new result = elim (own_write old.epoch m.message) [
  | Some r ↦ ReadsStake m.owner r log old new result
  | None ↦ FindsUnread m.message old new result
]
