-- What follows of a base, in the words of its callers.
use Rattle.std.specs.Prelude.{◌≡◌, ◌⊎◌, ◌≤◌, ◌<◌, ℕ, List, [], ◌∷◌, ◌++◌, Option, Some, None, is_some, true, Result, Ok, Err}
use Rattle.copy_chunk.specs.Chunks.{chunks_of}
use Rattle.copy_chunk.specs.Gathers.{IsFront, joined, wanted}
use Rattle.copy_chunk.specs.declared.chunk.Chunk.{Chunk}
use Rattle.copy_chunk.specs.declared.chunk.Cursor.{Cursor}
use Rattle.obj_model.specs.Limits.{number_limit}
use Rattle.obj_model.specs.declared.reply.Reply.{Reply}
use Rattle.obj_model.specs.declared.req.Req.{Req}
use Rattle.obj_model.specs.declared.state.NameState.{NameState}
use Rattle.obj_model.specs.declared.sub_op.SubOp.{SubOp}
use Rattle.obj_ops.specs.Acts.{kept_of}
use Rattle.pool_keys.specs.Left.{IsBefore, IsLeft, IsLeftSince, Tells}
use Rattle.store_face.specs.Tables.{Table, changed_by}
use Rattle.store_face.specs.Views.{Holds}
use Rattle.tier_types.specs.Serving.{epoch_in, name_in, served}
use Rattle.tier_types.specs.declared.message.BaseActed.{BaseActed}
use Rattle.tier_types.specs.declared.message.BaseMsg.{BaseMsg}
use Rattle.tier_types.specs.declared.message.BaseReply.{BaseReply}
use Rattle.base_pool.specs.Serves.{IsOn, IsSpelled, Serves, StaysBase, changes_by}
use Rattle.base_pool.specs.Views.{BaseView, Has, IsLive, SoundBase}
use Rattle.base_pool.specs.declared.fault.BaseFault.{BaseFault}
use Rattle.pool_keys.specs.Values.{IsAtEpoch}

-- ---- what a stop leaves

-- a map is the one before with what serving the message changes
pub record IsServedTo (msg : BaseMsg) (old : BaseView) (u : Table) : Type 0 where
  pub was : Table
  pub before : IsBefore old.store was
  pub state : NameState
  pub on : IsOn msg old state
  pub low : old.epoch ≤ number_limit → (served old.epoch state msg).epoch ≤ number_limit
  pub spelled : IsSpelled (served old.epoch state msg).put
  pub is : u ≡ changed_by was (changes_by old.epoch state msg)

-- at each moment of a message a stop leaves what it would have left before, or the map before with
-- this message's change
abbrev pub StopsBetween : Type 0
StopsBetween =
    (msg : BaseMsg) (old new : BaseView) (result : Result BaseReply BaseFault)
    → Serves msg old new result
    → (u : Table) → IsLeftSince old.store new.store u → IsLeft old.store u ⊎ IsServedTo msg old u

-- ---- refusals

-- a message of an older epoch is refused, with both epochs; nothing changes
abbrev pub OldIsRefused : Type 0
OldIsRefused =
    (msg : BaseMsg) (old new : BaseView) (result : Result BaseReply BaseFault)
    → Serves msg old new result → epoch_in msg < old.epoch
    → (result ≡ Ok (BaseReply.OldEpoch old.epoch (epoch_in msg))) × StaysBase old new

-- a message about a name of an epoch that the base was not told of is refused, with both epochs;
-- nothing changes. A Fence is about no name: it tells the base its epoch.
abbrev pub AheadIsRefused : Type 0
AheadIsRefused =
    (msg : BaseMsg) (old new : BaseView) (result : Result BaseReply BaseFault)
    → Serves msg old new result → is_some (name_in msg) ≡ true → old.epoch < epoch_in msg
    → (result ≡ Ok (BaseReply.NotFenced old.epoch (epoch_in msg))) × StaysBase old new

-- ---- requests and installations

-- an Install of a `seq` that is no higher changes nothing, and is told as installed
abbrev pub LowerInstallLeaves : Type 0
LowerInstallLeaves =
    (op : ℕ) (name : List ℕ) (t s : NameState) (old new : BaseView) (reply : BaseReply) (m : Table)
    → Serves (BaseMsg.Install old.epoch op name t) old new (Ok reply)
    → IsBefore old.store m → Has name s m → t.seq ≤ s.seq
    → (reply ≡ BaseReply.Installed old.epoch op t.seq) × StaysBase old new

-- a request that acted and comes again is answered with the same reply, and changes nothing
abbrev pub WritesOnce : Type 0
WritesOnce =
    (op again : ℕ) (r : Req) (reply : Reply) (old mid new : BaseView) (told : BaseReply)
    → Serves (BaseMsg.Write old.epoch op r) old mid
    (Ok (BaseReply.Wrote old.epoch op (BaseActed.Fresh reply)))
    → Serves (BaseMsg.Write old.epoch again r) mid new (Ok told) → Tells old.store
    → (told ≡ BaseReply.Wrote old.epoch again (BaseActed.Again reply)) × StaysBase mid new

-- a state keeps a request with the reply that it was given
abbrev pub IsKeptIn : Req → Reply → NameState → Type 0
IsKeptIn r reply s =
    kept_of r.client s.seen ≡ Some (record { client = r.client; tid = r.tid; reply = reply })

-- a map keeps a request with its reply, in the state of its name
pub record KeepsRequest (r : Req) (reply : Reply) (t : Table) : Type 0 where
  pub state : NameState
  pub has : Has r.name state t
  pub kept : IsKeptIn r reply state

-- a request that acted is kept with its reply; and whatever came in between, one that is kept and
-- comes again is answered with that reply, and changes nothing
pub record KeptIsAnswered : Type 0 where
  pub acted : (op : ℕ) (r : Req) (reply : Reply) (old new : BaseView)
      → Serves (BaseMsg.Write old.epoch op r) old new
      (Ok (BaseReply.Wrote old.epoch op (BaseActed.Fresh reply)))
      → Holds new.store (KeepsRequest r reply)
  pub again : (op : ℕ) (r : Req) (reply : Reply) (old new : BaseView) (told : BaseReply) (m : Table)
      → Serves (BaseMsg.Write old.epoch op r) old new (Ok told)
      → IsBefore old.store m → KeepsRequest r reply m
      → (told ≡ BaseReply.Wrote old.epoch op (BaseActed.Again reply)) × StaysBase old new

-- ---- readings

-- a reading changes nothing, however it ends
pub record LeavesMap (old new : BaseView) : Type 0 where
  pub moments : new.store.moments ≡ old.store.moments
  pub epoch : new.epoch ≡ old.epoch

pub record ReadingsLeave : Type 0 where
  pub looks : (e op : ℕ) (name : List ℕ) (v : List SubOp) (old new : BaseView)
      (result : Result BaseReply BaseFault)
      → Serves (BaseMsg.Look e op name v) old new result → LeavesMap old new
  pub chunks : (e op : ℕ) (name : List ℕ) (at : Cursor) (old new : BaseView)
      (result : Result BaseReply BaseFault)
      → Serves (BaseMsg.GetChunk e op name at) old new result → LeavesMap old new

-- the chunk that is wanted behind the first chunks of a state, and the first chunks with it
pub record GoesOn (cs : List Chunk) (s : NameState) (chunk : Option Chunk) : Type 0 where
  pub next : Chunk
  pub came : chunk ≡ Some next
  pub front : IsFront (cs ++ next ∷ []) (chunks_of s)

-- the chunks of a state that is not acted on, asked for one after another, gather to it
pub record ChunksGather : Type 0 where
  pub more : (op : ℕ) (name : List ℕ) (at : Cursor) (cs : List Chunk) (s : NameState)
      (chunk : Option Chunk) (old new : BaseView) (m : Table)
      → Serves (BaseMsg.GetChunk old.epoch op name at) old new
      (Ok (BaseReply.Chunk old.epoch op chunk))
      → IsBefore old.store m → Has name s m → IsFront cs (chunks_of s) → wanted cs ≡ Some at
      → GoesOn cs s chunk
  pub all : (cs : List Chunk) (s : NameState) → IsFront cs (chunks_of s) → wanted cs ≡ None
      → joined cs ≡ Some s

-- ---- what never falls

-- a map is of no lower epoch, and no name has a lower `seq` there
pub record IsNoLower (t u : Table) : Type 0 where
  pub epochs : (e f : ℕ) → IsAtEpoch e t → IsAtEpoch f u → e ≤ f
  pub seqs : (name : List ℕ) (s r : NameState) → Has name s t → Has name r u → s.seq ≤ r.seq

-- no message lowers the epoch or the `seq` of a name, in memory or in any map that a stop may leave
pub record LowersNothing (old new : BaseView) : Type 0 where
  pub epoch : old.epoch ≤ new.epoch
  pub maps : (t u : Table) → IsBefore old.store t → IsLeftSince old.store new.store u
      → IsNoLower t u

abbrev pub NothingFalls : Type 0
NothingFalls =
    (msg : BaseMsg) (old new : BaseView) (result : Result BaseReply BaseFault)
    → Serves msg old new result
    → IsLive old → SoundBase old → LowersNothing old new
